use Rattle.std.proofs.Common.{◌≡◌, ℕ, inl, inr, get_or, refl, sym, subst, arith}
use Rattle.std.proofs.lemmas.Bool.{cases_lt}
use Rattle.std.proofs.lemmas.List.{ext_get_or}
use Rattle.bpf_races.proofs.shape.are_maps.Invariants.{none}
use Rattle.bpf_races.proofs.shape.are_maps.Goals as goal

pub loop-place-preserved : goal.loop-place-preserved
loop-place-preserved c = λ i less. elim (cases_lt i c.loop-place.place) [
  | inl below ↦ c.loop-place.invariant i below
  | inr past ↦
      let same : i ≡ c.loop-place.place = omega arith in
      subst (λ (n : ℕ). get_or c.args.one.now n none ≡ get_or c.args.two.now n none) (sym same) (c.if-not-is_map.ensures refl)
]

pub returns : goal.returns
returns c = λ is. ext_get_or none c.args.one.now c.args.two.now c.if-one-two.false
    (λ i less. c.loop-place.invariant i (let end = c.loop-place-test.false in omega arith))
