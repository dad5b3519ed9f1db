use Rattle.std.proofs.Common.{◌≡◌, ◌+◌, ◌-◌, ◌<◌, suc, ℕ, refl, arith}
use Rattle.bpf_buffering.proofs.Unseen.{ahead_nowhere, ahead_quiet, ahead_refused, ahead_stored, ahead_joined}
use Rattle.bpf_buffering.proofs.ahead.go_to_store.Goals as goal

pub returns-then-left-lt2-clause-ahead : goal.returns-then-left-lt2-clause-ahead
returns-then-left-lt2-clause-ahead c = ahead_nowhere c.args.program.now c.args.here.now c.args.state.now c.args.left.now

pub returns-then-left-lt2-2-clause-ahead : goal.returns-then-left-lt2-2-clause-ahead
returns-then-left-lt2-2-clause-ahead c = ahead_quiet c.args.program.now c.args.here.now c.make_quiet_steps.result c.args.state.now
    c.make_quiet_steps.new.self c.args.left.now (c.args.left.now - c.make_quiet_steps.result) (omega arith) (omega arith) c.make_quiet_steps.ensures.steps

pub returns-then-not-try_store-clause-ahead : goal.returns-then-not-try_store-clause-ahead
returns-then-not-try_store-clause-ahead c =
    let rest = c.args.left.now - c.make_quiet_steps.result in
    ahead_joined c.args.program.now c.args.here.now c.args.here.now c.try_store.new.here c.args.state.now c.make_quiet_steps.new.self
    c.try_store.new.state c.args.left.now rest rest refl
    (ahead_quiet c.args.program.now c.args.here.now c.make_quiet_steps.result c.args.state.now c.make_quiet_steps.new.self c.args.left.now
    rest (omega arith) (omega arith) c.make_quiet_steps.ensures.steps)
    (ahead_refused c.args.program.now c.args.here.now c.try_store.new.here c.make_quiet_steps.new.self c.try_store.new.state rest
    c.if-not-try_store.ensures.tries)

pub returns-clause-ahead : goal.returns-clause-ahead
returns-clause-ahead c =
    let mid = c.args.left.now - c.make_quiet_steps.result in
    ahead_joined c.args.program.now c.args.here.now c.args.here.now c.try_store.new.here c.args.state.now c.make_quiet_steps.new.self
    c.try_store.new.state c.args.left.now mid (mid - 1) refl
    (ahead_quiet c.args.program.now c.args.here.now c.make_quiet_steps.result c.args.state.now c.make_quiet_steps.new.self c.args.left.now
    mid (omega arith) (omega arith) c.make_quiet_steps.ensures.steps)
    (ahead_stored c.args.program.now c.args.here.now c.try_store.new.here c.make_quiet_steps.new.self c.try_store.new.state mid (mid - 1)
    (omega arith) (omega arith) c.if-not-try_store.ensures.tries)
