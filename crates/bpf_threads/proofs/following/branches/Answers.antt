use Rattle.std.proofs.Common.{ℤ, refl, subst, w32}
use Rattle.std.proofs.lemmas.Int.{to_z-of_z}
use Rattle.bpf_loader.specs.Places.{target}
use Rattle.bpf_threads.specs.Chart.{IsSpotThere}
use Rattle.bpf_threads.proofs.following.branches.Goals as goal

pub returns-in-Some-true-clause-jump : goal.returns-in-Some-true-clause-jump
returns-in-Some-true-clause-jump c t may =
    let spot = c.args.spot.now in
    subst (λ (z : ℤ). IsSpotThere c.args.spots.now spot.jump (target spot.pc z) spot.callers.items spot.known)
    (to_z-of_z w32 c.args.by c.ranges.by) (c.jumps.ensures t)

pub returns-then-jumps-clause-jump : goal.returns-then-jumps-clause-jump
returns-then-jumps-clause-jump c t may =
    let spot = c.args.spot.now in
    subst (λ (z : ℤ). IsSpotThere c.args.spots.now spot.jump (target spot.pc z) spot.callers.items spot.known)
    (to_z-of_z w32 c.args.by c.ranges.by) (c.if-jumps.ensures refl)
