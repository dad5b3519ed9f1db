use Rattle.std.proofs.Common.{◌≡◌, ℤ, subst, to_z, of_z, w64}
use Rattle.std.proofs.lemmas.Int.{to_z-of_z}
use Rattle.bpf_threads.specs.Chart.{IsSpotAt}
use Rattle.bpf_threads.proofs.following.is_there.Goals as goal

pub returns : goal.returns
returns c t =
    let e : to_z w64 (of_z w64 c.args.pc) ≡ c.args.pc = to_z-of_z w64 c.args.pc c.ranges.pc in
    let at = subst (λ (z : ℤ). IsSpotAt z c.args.callers.now c.args.known.now c.spot_at-spot.result.now) e (c.stands.ensures t) in
    (c.in-Some.place, c.spot_at-spot.result.now, c.in-Some.is, c.spot_at-spot.ensures, at)
