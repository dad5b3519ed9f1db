-- The byte at an address.
use Rattle.std.proofs.Common.{◌≡◌, ℕ, ◌+◌, ◌-◌, ◌*◌, ◌<◌, ◌≤◌, List, length, slice_index, Some, None, slice_get, inl, inr, ap, sym, subst, ◌∙◌, arith}
use Rattle.bpf_shared.specs.declared.events.Span.{Span}
use Rattle.bpf_shared.specs.declared.shapes.ArrayShape.{ArrayShape}
use Rattle.bpf_shared.specs.Shape.{Shape, IsArray, IsIn, IsWithin, array_stride, copy_stride, fixed_span}
use Rattle.bpf_shared.specs.Store.{Plain, Value, IsFixed, array_of, copy_of, index_of}
use Rattle.bpf_shared.specs.Laws.{byte_at}
use Rattle.bpf_shared.specs.Listing.{IsByteAt, IsElementByteAt, IsFixedByteAt}
use Rattle.bpf_shared.specs.Sound.{IsSoundStore}
use Rattle.bpf_shared.specs.Passage.{IsFixedPlace}
use Rattle.bpf_shared.proofs.Fixed.{fixed_is, fixed_one, reached_fixed, place_number, place_span, value_there}
use Rattle.bpf_hash.specs.Shows as shows
use Rattle.bpf_hash.proofs.Blocks.{get_or-part}
use Rattle.bpf_plain.specs.Private.Contents.{Contents, bytes_of, offset_in, StandsFor, IsStore}
use Rattle.bpf_plain.specs.Private.Places.{array_at, offset_at}
use Rattle.bpf_plain.specs.Shows.{ShowsByte, ShowsNoByte}
use Rattle.bpf_plain.proofs.Places.{array-is, offset-is, within}
use Rattle.bpf_plain.proofs.Accessing.{bytes-are, in_s, span-is}

abbrev first_fixed : ℕ
first_fixed = 0x10_0000_0000 + 0x1000_0000 * 16

-- where a fixed value lies
span_of_fixed : (s : Plain) → IsSoundStore s → (v : ℕ) (f : IsFixed s.shape v) → (s.value v).span ≡ fixed_span (array_of v) f.array (copy_of v) (index_of v)
span_of_fixed s so v f = so.fixed.spans v f ∙ ap (λ (x : Value). x.span) (fixed_is s.shape v f)

fixed_byte_high : (s : Plain) → IsSoundStore s → (a b : ℕ) → IsFixedByteAt s a b → first_fixed ≤ a
fixed_byte_high s so a b (v, f, inside, e) =
    let there : IsIn a (fixed_span (array_of v) f.array (copy_of v) (index_of v)) = subst (IsIn a) (span_of_fixed s so v f) inside in
    let from = there.0 in
    omega arith

-- ---- below the areas of arrays
module _ (parts p : Contents) (view : ◌≡◌ {A = Contents} parts p) (a : ℕ) (below : a < first_fixed) where
  pub low_byte : (b : ℕ) → shows.ShowsByte parts.maps a b → ShowsByte p a b
  low_byte b found = subst (λ (x : Contents). ShowsByte x a b) view (λ s so h.
      let only = found s so h.maps in
      (inl only.0, other_byte s so only.1))
    where
      other_byte : (s : Plain) → IsSoundStore s → ((other : ℕ) → IsElementByteAt s a other → other ≡ b) → (other : ℕ) → IsByteAt s a other → other ≡ b
      other_byte s so only other (inl e) = only other e
      other_byte s so only other (inr f) = absurd (let high = fixed_byte_high s so a other f in omega arith)

  pub low_none : shows.ShowsNoByte parts.maps a → ShowsNoByte p a
  low_none none = subst (λ (x : Contents). ShowsNoByte x a) view (λ s so h b at. no_byte s so (none s so h.maps) b at)
    where
      no_byte : (s : Plain) → IsSoundStore s → ((b : ℕ) → IsElementByteAt s a b → ⊥) → (b : ℕ) → IsByteAt s a b → ⊥
      no_byte s so none b (inl e) = none b e
      no_byte s so none b (inr f) = absurd (let high = fixed_byte_high s so a b f in omega arith)

-- ---- in them
module _ (p : Contents) (is : IsStore p) (a : ℕ) (above : first_fixed ≤ a) (low : (s : Plain) → IsSoundStore s → StandsFor p s → shows.AreElementsLow s) where
  -- of which array and offset a fixed value's byte is
  fixed_at : (s : Plain) → IsSoundStore s → (h : StandsFor p s) → (b : ℕ) → IsFixedByteAt s a b → (g : ArrayShape) × IsArray p.shape.arrays
      (array_at a) g × IsWithin p.shape.cpus g (offset_at a) 1
  fixed_at s so h b (v, f, inside, e) =
      let span = span_of_fixed s so v f in
      let there : IsIn a (fixed_span (array_of v) f.array (copy_of v) (index_of v)) = subst (IsIn a) span inside in
      let r = reached_fixed s.shape so.fixed.shape v a f (subst (IsIn a) (so.fixed.spans v f) inside) in
      let number : array_of v ≡ array_at a = (let area = r.area in omega arith) in
      let g = f.array in
      let from = there.0 in
      let to = there.1 in
      let rest = r.within in (
        g,
        subst (λ (k : Shape). IsArray k.arrays (array_at a) g) h.shape (subst (λ (x : ℕ). IsArray s.shape.arrays x g) number f.is),
        record {
          copy = copy_of v;
          index = index_of v;
          has_copy = subst (λ (k : Shape). copy_of v < Rattle.bpf_shared.specs.Shape.copies k.cpus g) h.shape f.copy;
          has_index = f.index;
          from = from_is (copy_of v * copy_stride g) (index_of v * array_stride g) (a - (fixed_span (array_of v) g (copy_of v) (index_of v)).at) rest;
          to = to_is (copy_of v * copy_stride g) (index_of v * array_stride g) (a - (fixed_span (array_of v) g (copy_of v) (index_of v)).at)
              g.value rest (omega arith);
        },
      )
    where
      from_is : (x y o : ℕ) → offset_at a ≡ x + (y + o) → x + y ≤ offset_at a
      from_is x y o e = omega (arith, e)

      to_is : (x y o v : ℕ) → offset_at a ≡ x + (y + o) → o < v → offset_at a + 1 ≤ x + y + v
      to_is x y o v e l = omega (arith, e)

  none_at : ((g : ArrayShape) → IsArray p.shape.arrays (array_at a) g → IsWithin p.shape.cpus g (offset_at a) 1 → ⊥) → (s : Plain) →
      IsSoundStore s → StandsFor p s → (b : ℕ) → IsByteAt s a b → ⊥
  none_at none s so h b (inl e) = let l = low s so h a b e in absurd (omega arith)
  none_at none s so h b (inr f) = let at = fixed_at s so h b f in none at.0 at.1 at.2

  pub no_array : slice_get p.shape.arrays (array_at a) ≡ None → ShowsNoByte p a
  no_array none = none_at (λ g is w. absurd (let k : None ≡ Some g = sym none ∙ is in cc))

  pub no_value : (g : ArrayShape) → IsArray p.shape.arrays (array_at a) g → (IsWithin p.shape.cpus g (offset_at a) 1 → ⊥) → ShowsNoByte p a
  no_value g is none = none_at (λ k there w. none (subst (λ (x : ArrayShape). IsWithin p.shape.cpus x (offset_at a) 1)
      (Rattle.bpf_shared.proofs.Fixed.same_array p.shape.arrays (array_at a) k g there is) w))

  module _ (g : ArrayShape) (here : IsArray p.shape.arrays (array_at a) g) (w : IsWithin p.shape.cpus g (offset_at a) 1) where
    whole : a ≡ 0x10_0000_0000 + 0x1000_0000 * (16 + array_at a) + offset_at a
    whole = omega arith

    abbrev place : IsFixedPlace p.shape a 1
    place = record {
      number = array_at a;
      array = g;
      copy = w.copy;
      index = w.index;
      is = here;
      has_copy = w.has_copy;
      has_index = w.has_index;
      covers = (
        starts (0x10_0000_0000 + 0x1000_0000 * (16 + array_at a)) (w.copy * copy_stride g) (w.index * array_stride g) (offset_at a) whole w.from,
        ends (0x10_0000_0000 + 0x1000_0000 * (16 + array_at a)) (w.copy * copy_stride g) (w.index * array_stride g) (offset_at a) g.value whole w.to,
      );
      aligned = omega arith;
    }
      where
        starts : (base x y o : ℕ) → a ≡ base + o → x + y ≤ o → base + x + y ≤ a
        starts base x y o e l = omega arith

        ends : (base x y o v : ℕ) → a ≡ base + o → o + 1 ≤ x + y + v → a + 1 ≤ base + x + y + v
        ends base x y o v e l = omega arith

    pub offset_inside : offset_at a < length (bytes_of p (array_at a))
    offset_inside =
        let fits = Rattle.bpf_plain.proofs.Places.value_inside p.shape.cpus w.copy w.index g w.has_copy w.has_index in
        let size = (is.arrays.each (array_at a) g here).size in
        let to = w.to in
        omega arith

    pub byte_there : (b : ℕ) → b ≡ slice_index (bytes_of p (array_at a)) (offset_at a) → ShowsByte p a b
    byte_there b e s so h =
        let v = place_number p.shape is.shape a 1 place in
        let f = in_s p is 0 a 1 (omega arith) place s so h in
        let span = span-is p is 0 a 1 (omega arith) place s so h in
        let at = offset_in g w.copy w.index in
        let off = a - (fixed_span (array_at a) g w.copy w.index).at in
        let inside = within p is a 1 (omega arith) place in
        let byte : byte_at s v a ≡ b =
        ap (λ (q : Span). slice_index (s.value v).bytes (a - q.at)) span
        ∙ (ap (λ (bs : List ℕ). slice_index bs off) (bytes-are p is 0 a 1 (omega arith) place s so h)
        ∙ (get_or-part (bytes_of p (array_at a)) at g.value off (omega arith)
        ∙ (ap (slice_index (bytes_of p (array_at a))) (sym (offset-is p is a 1 (omega arith) place)) ∙ sym e))) in
        let in_v : IsIn a (s.value v).span = subst (IsIn a) (sym span) (place.covers.0, (let to = place.covers.1 in omega arith)) in
        (inr (v, f, in_v, sym byte), other_byte s so h v f in_v byte)
      where
        other_byte : (s : Plain) → (so : IsSoundStore s) → StandsFor p s → (v : ℕ) → IsFixed s.shape v → IsIn a (s.value v).span → byte_at s
            v a ≡ b → (other : ℕ) → IsByteAt s a other → other ≡ b
        other_byte s so h v f in_v byte other (inl e) = let l = low s so h a other e in absurd (omega arith)
        other_byte s so h v f in_v byte other (inr (x, k, in_x, e)) =
            let same : x ≡ v = fixed_one s.shape so.fixed.shape x v a k f (subst (IsIn a) (so.fixed.spans x k) in_x)
            (subst (IsIn a) (so.fixed.spans v f) in_v) in
            e ∙ (ap (λ (y : ℕ). byte_at s y a) same ∙ byte)
