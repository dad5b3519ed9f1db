use Rattle.std.proofs.Common.{◌≡◌, ℕ, replicate, subst, arith}
use Rattle.bpf_buffering.specs.Search.{move_of}
use Rattle.bpf_flushes.specs.Moves.{MakesTo}
use Rattle.bpf_flushes.proofs.Joining.{one_more, rest_made}
use Rattle.bpf_flushes.proofs.moves.repeat.Goals as goal

pub loop-preserved : goal.loop-preserved
loop-preserved c = one_more c.args.machine.now c.loop.machine c.make_move.new.machine (move_of c.args.made) c.loop.counter c.loop.invariant
    c.in_ok-make_move.ensures.makes

pub returns-after-loop : goal.returns-after-loop
returns-after-loop c =
    let all : c.loop.counter ≡ c.args.count = omega arith in
    subst (λ (n : ℕ). MakesTo c.args.machine.now (replicate n (move_of c.args.made)) c.loop.machine) all c.loop.invariant

pub returns-then-not-branch : goal.returns-then-not-branch
returns-then-not-branch c =
    rest_made c.args.machine.now c.loop.machine c.make_move.new.machine (move_of c.args.made) c.loop.counter c.args.count (omega arith)
    c.loop.invariant (λ i. c.in_ok-make_move.ensures.idle c.if-not-branch.true i)
