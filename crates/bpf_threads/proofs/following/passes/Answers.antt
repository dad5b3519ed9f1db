use Rattle.std.proofs.Common.{◌≡◌, ◌∙◌, ◌+◌, ℕ, ℤ, List, pos, subst, to_z, of_z, w64}
use Rattle.std.proofs.lemmas.Int.{to_z-of_z}
use Rattle.bpf_threads.specs.Chart.{IsSpotAt}
use Rattle.bpf_threads.proofs.following.passes.Goals as goal

pub returns : goal.returns
returns c t =
    let spot = c.args.spot.now in
    let to = c.further-to.result in
    let e : to_z w64 (of_z w64 to) ≡ pos (spot.pc + 1) = to_z-of_z w64 to (record { sfits = c.further-to.type_inv }) ∙ c.further-to.ensures in
    let r = c.is_there.ensures t in
    let at = subst (λ (z : ℤ). IsSpotAt z c.deref.result.now spot.known r.1) e r.4 in
    (r.0, r.1, r.2, r.3, subst (λ (back : List ℕ). IsSpotAt (pos (spot.pc + 1)) back spot.known r.1) c.deref.ensures.value at)
