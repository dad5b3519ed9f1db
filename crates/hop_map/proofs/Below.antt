-- One bit of an address says whether an access is to a held value or to a fixed one.
use Rattle.std.proofs.Common.{◌≡◌, ◌≢◌, ℕ, ◌/◌, ◌%◌, ◌≤◌, inl, inr, refl, arith}
use Rattle.bpf_shared.specs.Shape.{IsShape, IsIn, element_span, fixed_span}
use Rattle.bpf_shared.specs.Passage.{IsFixedPlace}
use Rattle.bpf_shared.proofs.Fixed.{fixed_reached}
use Rattle.hop_layout.specs.declared.about.About.{About}
use Rattle.hop_words.specs.declared.known.Known.{Known}
use Rattle.hop_words.specs.Ghost.{shape_at}
use Rattle.hop_layout.proofs.Maps.{map_is, array_of}
use Rattle.hop_map.specs.Private.Accesses.{IsValuePlace, IsHeldAt, IsFixedAt, IsFreeAt, MayLoadAt, MayChangeAt}
use Rattle.hop_map.proofs.Spans.{element_in_range}

-- the bit
abbrev bit : ℕ → ℕ
bit p = p / 0x1_0000_0000 % 2

module _ (a : About) (l : Known) (p n : ℕ) (shaped : IsShape a.shape) (some : 1 ≤ n) where
  fixed_high : IsFixedPlace a.shape p n → bit p ≡ 1
  fixed_high f =
      let c0 = f.covers.0 in
      let c1 = f.covers.1 in
      let inside : IsIn p (fixed_span f.number f.array f.copy f.index) = (c0, omega arith) in
      let reached = fixed_reached a.shape.cpus f.number f.copy f.index p f.array shaped.cpus.1 (shaped.arrays f.number f.array f.is).0
      f.has_copy f.has_index inside in
      let area = reached.area in
      let there = (array_of a.shape f.number f.array f.is).0 in
      let few = shaped.array_count in
      omega arith

  element_low : IsValuePlace a p n → bit p ≡ 0
  element_low v =
      let there = element_in_range a.shape v.map (element_span v.map (shape_at a v.map) v.element) shaped
      (shape_at a v.map, v.element, map_is a.shape v.map v.inside.0, v.inside.1, refl) in
      let c0 = v.covers.0 in
      let c1 = v.covers.1 in
      let from = there.from in
      let to = there.to in
      omega arith

  -- where it is 0
  pub loads_held : bit p ≡ 0 → MayLoadAt a l p n → IsHeldAt a l p n
  loads_held low (inl h) = h
  loads_held low (inr f) = absurd (let high = fixed_high f.place in omega arith)

  pub changes_held : bit p ≡ 0 → MayChangeAt a l p n → IsHeldAt a l p n
  changes_held low (inl h) = h
  changes_held low (inr f) = absurd (let high = fixed_high f.fixed.place in omega arith)

  -- and where it isn't
  pub loads_fixed : bit p ≢ 0 → MayLoadAt a l p n → IsFixedAt a l p n
  loads_fixed high (inl h) = absurd (high (element_low h.place))
  loads_fixed high (inr f) = f

  pub changes_fixed : bit p ≢ 0 → MayChangeAt a l p n → IsFreeAt a l p n
  changes_fixed high (inl h) = absurd (high (element_low h.place))
  changes_fixed high (inr f) = f
