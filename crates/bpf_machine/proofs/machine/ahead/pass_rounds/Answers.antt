use Rattle.std.proofs.Common.{◌≡◌, ◌<◌, ℕ, List, refl}
use Rattle.bpf_machine.specs.declared.machine.ahead.Headway.{Headway}
use Rattle.bpf_machine.specs.declared.machine.ahead.Headway.TheVariants.{Idle, Turns}
use Rattle.bpf_machine.specs.Private.Headways.{AreCounted, HasSoMany, headway_at}
use Rattle.bpf_machine.proofs.machine.ahead.pass_rounds.Goals as goal

so_many : (headways : List Headway) (n working least d : ℕ) → AreCounted headways n working least → d < n → (h : Headway) → headway_at
    headways d ≡ h → HasSoMany least h
so_many headways n working least d counted below Idle e = tt
so_many headways n working least d counted below (Turns k) e = (counted.most d k below e).0

pub returns-clause-passes : goal.returns-clause-passes
returns-clause-passes c = (
  _,
  λ d below. (
    so_many c.args.headways.now c.args.cpus _ _ d c.count_headways-working.ensures below (headway_at c.args.headways.now d) refl,
    c.spend.ensures.below d below,
  ),
)
