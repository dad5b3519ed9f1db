use Rattle.std.proofs.Common.{◌≡◌, ◌∙◌, ℕ, replicate, refl, subst, arith}
use Rattle.bpf_buffering.specs.Search.{move_of}
use Rattle.bpf_flushes.specs.Moves.{MakesTo}
use Rattle.bpf_flushes.proofs.Joining.{nothing_made, one_more}
use Rattle.bpf_reorderings.proofs.trying.repeat.Goals as goal

pub loop-init : goal.loop-init
loop-init c = (refl, refl, nothing_made c.args.explorer.now.machine)

pub loop-preserved : goal.loop-preserved
loop-preserved c = (
  c.make_move.ensures.same ∙ c.loop.invariant.0,
  c.make_move.ensures.patient ∙ c.loop.invariant.1,
  one_more c.args.explorer.now.machine c.loop.explorer.machine c.make_move.new.explorer.machine (move_of c.args.made) c.loop.counter
      c.loop.invariant.2 c.in_ok-make_move.ensures.makes,
)

pub returns-clause-makes : goal.returns-clause-makes
returns-clause-makes c =
    let all : c.loop.counter ≡ c.args.count = omega arith in
    subst (λ (n : ℕ). MakesTo c.args.explorer.now.machine (replicate n (move_of c.args.made)) c.loop.explorer.machine) all c.loop.invariant.2
