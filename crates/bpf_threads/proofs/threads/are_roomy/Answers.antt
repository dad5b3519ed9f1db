use Rattle.std.proofs.Common.{◌≡◌, ◌<◌, ◌∙◌, ℕ, List, Some, inl, inr, map, subst, sym, arith}
use Rattle.std.proofs.lemmas.Option.{slice_get_within}
use Rattle.bpf_shared.proofs.Puts.{equal_or_not}
use Rattle.bpf_shared.specs.declared.shapes.MapShape.{MapShape}
use Rattle.bpf_shared.specs.Shape.{IsMap}
use Rattle.std.specs.Prelude.{slice_get}
use Rattle.bpf_pairs.specs.Pairs.{pair_of, pairs_in}
use Rattle.bpf_cpu.specs.Task.{waiting}
use Rattle.bpf_threads.specs.Threads.{IsRoomy}
use Rattle.bpf_threads.proofs.threads.are_roomy.Goals as goal

pub loop-place-preserved : goal.loop-place-preserved
loop-place-preserved c m h less is =
    let maps = c.maps-maps.result.now in
    let place = c.loop-place.place in
    let pairs = map pair_of c.args.pairs.now in
    let P : ℕ → MapShape → Type 0 = λ k g. IsRoomy c.args.programs.now (map waiting c.args.jobs.now) c.cpus-cpus.result k g (pairs_in k pairs) in
    let counted : c.count_in.result ≡ pairs_in place pairs = c.count_in.ensures.count in
    elim (equal_or_not m place) [
      | inl here ↦
          let there : slice_get maps place ≡ Some h = subst (λ (k : ℕ). slice_get maps k ≡ Some h) here is in
          let same : c.map_at.result ≡ h = (let both : Some c.map_at.result ≡ Some h = sym c.map_at.ensures ∙ there in cc) in
          subst (λ (k : ℕ). P k h) (sym here) (subst (P place) same
          (subst (IsRoomy c.args.programs.now (map waiting c.args.jobs.now) c.cpus-cpus.result place c.map_at.result) counted
          (c.in_ok-is_roomy.ensures c.if-not-branch.false)))
      | inr other ↦ c.loop-place.invariant m h (omega (arith, less, other)) is
    ]

pub returns : goal.returns
returns c t m h is =
    let maps = c.maps-maps.result.now in
    let there : IsMap maps m h = subst (λ (ms : List MapShape). IsMap ms m h) (sym c.maps-maps.ensures.maps) is in
    let less : m < c.loop-place.place = omega (arith, slice_get_within maps m h there, c.loop-place-test.false) in
    subst (λ (cpus : ℕ). IsRoomy c.args.programs.now (map waiting c.args.jobs.now) cpus m h (pairs_in m (map pair_of c.args.pairs.now)))
    c.cpus-cpus.ensures.cpus (c.loop-place.invariant m h less there)
