-- Elements of maps, whose values' sizes are known: they are on the grid.
use Rattle.std.proofs.Common.{◌≡◌, ℕ, ◌+◌, ◌*◌, ◌<◌, ◌≤◌, List, length, inl, inr, ◌⊎◌, refl, sym, ap, subst, ◌∙◌, slice_index, arith, get_or, set}
use Rattle.std.proofs.lemmas.Nat.{mul-le}
use Rattle.bpf_shared.specs.declared.events.Span.{Span}
use Rattle.bpf_shared.specs.declared.shapes.MapShape.{MapShape}
use Rattle.bpf_shared.specs.Shape.{AreMaps, IsElementSpan, IsMap, IsMapShape, element_span, elements}
use Rattle.bpf_helpers.specs.Private.Grid.{IsOffset, IsOnGrid, stride_of}
use Rattle.bpf_helpers.specs.Private.Sizes.{AreSizesOf}
use Rattle.bpf_helpers.proofs.Binned.{written}
use Rattle.bpf_helpers.proofs.OnGrid.{one_offset}

pub record Start (m i : ℕ) (h : MapShape) (p : Span) : Type 0 where
  pub offset : IsOffset p.at m (i * stride_of p.size)
  pub size : p.size ≡ h.value
  pub some : 1 ≤ p.size
  pub room : i * stride_of p.size + p.size ≤ 0x1000_0000
  pub narrow : p.size ≤ 256

element_start : (m i : ℕ) (h : MapShape) → m < 16 → IsMapShape h → i < elements h → Start m i h (element_span m h i)
element_start m i h low shape l =
    let value = shape.value in
    let max = shape.max in
    let spare = shape.spare in
    let some = value.0 in
    let narrow = value.1 in
    let most = max.1 in
    let wide : stride_of h.value ≤ 256 = omega arith in
    let near : i ≤ 131071 = omega arith in
    let product : i * stride_of h.value ≤ 131071 * 256 = mul-le i (stride_of h.value) 131071 256 near wide in
    record {
      offset = record { map = low; near = omega arith; at = refl };
      size = refl;
      some = some;
      room = omega arith;
      narrow = narrow;
    }

pub start_of : (maps : List MapShape) (m : ℕ) (p : Span) (e : IsElementSpan maps m p) → AreMaps maps → Start m e.1 e.0 p
start_of maps m p e are =
    let facts = are m e.0 e.2 in
    subst (λ (q : Span). Start m e.1 e.0 q) (sym e.4) (element_start m e.1 e.0 facts.0 facts.1 e.3)

on : (sizes : List ℕ) (m i : ℕ) (h : MapShape) (p : Span) → Start m i h p → slice_index sizes m ≡ h.value → IsOnGrid sizes p
on sizes m i h p start known = record {
  map = m;
  element = i;
  start = start.offset;
  size = known ∙ sym start.size;
  some = start.some;
  room = start.room;
}

one_shape : (maps : List MapShape) (m : ℕ) (h k : MapShape) → IsMap maps m h → IsMap maps m k → h ≡ k
one_shape maps m h k e f = cc

known : (maps : List MapShape) (sizes : List ℕ) (m : ℕ) (h : MapShape) → IsMap maps m h → (slice_index sizes m ≡ 0 → ⊥)
    → (slice_index sizes m ≡ 0) ⊎ ((k : MapShape) × IsMap maps m k × (slice_index sizes m ≡ k.value)) → slice_index sizes m ≡ h.value
known maps sizes m h is there (inl none) = absurd (there none)
known maps sizes m h is there (inr k) = k.2 ∙ sym (ap (λ (s : MapShape). s.value) (one_shape maps m h k.0 is k.1))

-- ---- an address in the span of an element is in its map
pub map_is : (maps : List MapShape) (m n o : ℕ) (p : Span) → AreMaps maps → IsElementSpan maps m p → IsOffset p.at n o → n ≡ m
map_is maps m n o p are e offset =
    let start = start_of maps m p e are in
    (one_offset p.at n m o (e.1 * stride_of p.size) offset start.offset).0

pub on_known : (maps : List MapShape) (sizes : List ℕ) (m n o : ℕ) (p : Span) → AreMaps maps → AreSizesOf maps sizes → IsElementSpan maps m
    p → IsOffset p.at n o
    → (slice_index sizes n ≡ 0 → ⊥) → IsOnGrid sizes p
on_known maps sizes m n o p are sized e offset there =
    let same = map_is maps m n o p are e offset in
    let there' : slice_index sizes m ≡ 0 → ⊥ = λ z. there (ap (λ (k : ℕ). slice_index sizes k) same ∙ z) in
    on sizes m e.1 e.0 p (start_of maps m p e are) (known maps sizes m e.0 e.2 there' (sized m))

-- ---- the first value of its map
sizes_more : (maps : List MapShape) (sizes : List ℕ) (m v k : ℕ) (h : MapShape) → IsMap maps m h → v ≡ h.value
    → ((k ≡ m) × (get_or (set sizes m v) k 0 ≡ v)) ⊎ ((k ≡ m → ⊥) × (get_or (set sizes m v) k 0 ≡ get_or sizes k 0))
    → (slice_index sizes k ≡ 0) ⊎ ((j : MapShape) × IsMap maps k j × (slice_index sizes k ≡ j.value))
    → (slice_index (set sizes m v) k ≡ 0) ⊎ ((j : MapShape) × IsMap maps k j × (slice_index (set sizes m v) k ≡ j.value))
sizes_more maps sizes m v k h is value (inl w) old = inr (h, subst (λ (n : ℕ). IsMap maps n h) (sym w.0) is, w.1 ∙ value)
sizes_more maps sizes m v k h is value (inr w) (inl none) = inl (w.1 ∙ none)
sizes_more maps sizes m v k h is value (inr w) (inr j) = inr (j.0, j.1, w.1 ∙ j.2)

here : (sizes : List ℕ) (m v : ℕ) → m < length sizes → ((m ≡ m) × (get_or (set sizes m v) m 0 ≡ v)) ⊎
    ((m ≡ m → ⊥) × (get_or (set sizes m v) m 0 ≡ get_or sizes m 0))
    → get_or (set sizes m v) m 0 ≡ v
here sizes m v l (inl w) = w.1
here sizes m v l (inr w) = absurd (w.0 refl)

noted : (maps : List MapShape) (sizes : List ℕ) (m v : ℕ) (p : Span) → AreMaps maps → AreSizesOf maps sizes → IsElementSpan maps m p
    → m < length sizes → v ≡ p.size → AreSizesOf maps (set sizes m v) × IsOnGrid (set sizes m v) p
noted maps sizes m v p are sized e room size =
    let start = start_of maps m p e are in
    let value : v ≡ (e.0).value = size ∙ start.size in (
      λ k. sizes_more maps sizes m v k e.0 e.2 value (written sizes m v k room) (sized k),
      on (set sizes m v) m e.1 e.0 p start (here sizes m v room (written sizes m v m room) ∙ value),
    )

pub on_noted : (maps : List MapShape) (sizes : List ℕ) (m n o v : ℕ) (p : Span) → AreMaps maps → AreSizesOf maps sizes → IsElementSpan maps
    m p → IsOffset p.at n o
    → n < length sizes → v ≡ p.size → AreSizesOf maps (set sizes n v) × IsOnGrid (set sizes n v) p
on_noted maps sizes m n o v p are sized e offset room size =
    let same = map_is maps m n o p are e offset in
    let e' : IsElementSpan maps n p = subst (λ (k : ℕ). IsElementSpan maps k p) (sym same) e in
    noted maps sizes n v p are sized e' room size
