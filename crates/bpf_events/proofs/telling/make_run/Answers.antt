use Rattle.std.proofs.Common.{◌≡◌, ℕ, map, replicate, subst, arith}
use Rattle.std.specs.Prelude.{string_bytes}
use Rattle.bpf_events.specs.Private.Told.{AreTold, Turns}
use Rattle.bpf_events.proofs.Told.{one_more, rest_idle, told_nothing}
use Rattle.bpf_events.proofs.telling.make_run.Goals as goal

pub loop-init : goal.loop-init
loop-init c = record { told = told_nothing (map string_bytes c.args.names.now) c.args.machine.now (string_bytes c.args.text.now); shape = c.requires }

pub loop-preserved : goal.loop-preserved
loop-preserved c = record {
  told = one_more c.loop.counter c.args.run.0 c.in_ok-make_turn.field-0 (map string_bytes c.args.names.now) c.args.machine.now
      c.loop.machine c.make_turn.new.machine (string_bytes c.args.text.now)
      (string_bytes c.loop.text) (string_bytes c.make_turn.new.text) c.loop.invariant.told c.in_ok-make_turn.ensures.told;
  shape = c.in_ok-make_turn.ensures.shape;
}

pub returns-after-loop-clause-told : goal.returns-after-loop-clause-told
returns-after-loop-clause-told c =
    let all : c.loop.counter ≡ c.args.run.1 = omega arith in
    subst (λ (n : ℕ). AreTold (Turns (replicate n c.args.run.0)) (map string_bytes c.args.names.now) c.args.machine.now
    (string_bytes c.args.text.now) c.loop.machine (string_bytes c.loop.text)) all c.loop.invariant.told

pub returns-in-Idle-clause-told : goal.returns-in-Idle-clause-told
returns-in-Idle-clause-told c =
    rest_idle c.loop.counter c.args.run.1 c.args.run.0 c.in_ok-make_turn.field-0 (map string_bytes c.args.names.now) c.args.machine.now
    c.loop.machine c.make_turn.new.machine (string_bytes c.args.text.now)
    (string_bytes c.loop.text) (string_bytes c.make_turn.new.text) (omega arith) c.in-Idle.is c.loop.invariant.told c.in_ok-make_turn.ensures.told
