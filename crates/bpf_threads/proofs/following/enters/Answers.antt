use Rattle.std.proofs.Common.{◌≡◌, ◌++◌, ◌∷◌, [], ◌+◌, ℤ, subst, to_z, of_z, w32}
use Rattle.std.proofs.lemmas.Int.{to_z-of_z}
use Rattle.bpf_loader.specs.Places.{target}
use Rattle.bpf_threads.specs.Chart.{IsSpotAt}
use Rattle.bpf_threads.proofs.following.enters.Goals as goal

pub returns : goal.returns
returns c t =
    let spot = c.args.spot.now in
    let e : to_z w32 (of_z w32 c.args.by) ≡ c.args.by = to_z-of_z w32 c.args.by c.ranges.by in
    let at = subst (λ (z : ℤ). IsSpotAt (target spot.pc z) (spot.callers.items ++ (spot.pc + 1) ∷ []) spot.known c.spot_at-entry.result.now)
    e (c.is_entry.ensures t) in
    (c.in-Some.place, c.spot_at-entry.result.now, c.in-Some.is, c.spot_at-entry.ensures, at)
