-- Addresses in arrays' values: what may be read and written there.
use Rattle.std.proofs.Common.{◌≡◌, ℕ, ◌+◌, ◌-◌, ◌*◌, ◌/◌, ◌%◌, ◌<◌, ◌≤◌, Bool, true, List, Some, inl, inr, ◌⊎◌, refl, sym, ap, subst, ◌∙◌, arith, slice_get}
use Rattle.std.specs.Prelude.{All}
use Rattle.std.proofs.lemmas.Bool.{cases_eq}
use Rattle.bpf_shared.specs.Access.{bytes_in}
use Rattle.bpf_shared.specs.declared.events.Size.{Size}
use Rattle.bpf_shared.specs.declared.events.Size.TheVariants.{Byte, Half, Word, Double}
use Rattle.bpf_shared.specs.declared.events.Span.{Span}
use Rattle.bpf_shared.specs.declared.shapes.ArrayShape.{ArrayShape}
use Rattle.bpf_shared.specs.Shape.{Shape, IsArrayShape, IsValueSpan, IsWithin, Covers, array_stride, copies, copy_size, copy_stride, fixed_span}
use Rattle.bpf_shared.specs.Passage.{IsFixedPlace, IsReadable, IsWritable}
use Rattle.bpf_shared.proofs.Fixed.{fixed_reached}
use Rattle.bpf_helpers.specs.Arrays.{IsInArray, area_of, array_start, offset_of}
use Rattle.bpf_helpers.specs.Held.{AreHeld, reaches}
use Rattle.bpf_helpers.specs.Reads.{AreReached}
use Rattle.bpf_helpers.specs.Private.Grid.{IsAligned}
use Rattle.bpf_helpers.specs.Private.Target.{IsTarget}
use Rattle.bpf_helpers.proofs.Reaching.{found, held_byte}

pub settled : (x y : ℕ) → ((x ≡ y → ⊥) → ⊥) → x ≡ y
settled x y f = elim (cases_eq x y) [ inl e ↦ e | inr ne ↦ absurd (f ne) ]

-- ---- values begin at multiples of eight
pub fixed_even : (a k i : ℕ) (g : ArrayShape) → (fixed_span a g k i).at % 8 ≡ 0
fixed_even a k i g = go (copy_size g + 63) (g.value + 7)
  where
    go : (x y : ℕ) → (0x10_0000_0000 + 0x1000_0000 * (16 + a) + k * (x / 64 * 64) + i * (y / 8 * 8)) % 8 ≡ 0
    go x y =
        let p : k * (x / 64 * 64) ≡ k * (x / 64) * 64 = grind arith in
        let q : i * (y / 8 * 8) ≡ i * (y / 8) * 8 = grind arith in
        sum (k * (x / 64)) (i * (y / 8)) (k * (x / 64 * 64)) (i * (y / 8 * 8)) p q
      where
        sum : (u v p q : ℕ) → p ≡ u * 64 → q ≡ v * 8 → (0x10_0000_0000 + 0x1000_0000 * (16 + a) + p + q) % 8 ≡ 0
        sum u v p q e f = omega arith

-- ---- an address in an array's area
place_from : (a p q : ℕ) → array_start 0 ≤ a → p + q ≤ offset_of a → 0x10_0000_0000 + 0x1000_0000 * (16 + area_of a) + p + q ≤ a
place_from a p q l m = omega arith

place_to : (a n p q v : ℕ) → array_start 0 ≤ a → offset_of a + n ≤ p + q + v → a + n ≤ 0x10_0000_0000 + 0x1000_0000 * (16 + area_of a) + p + q + v
place_to a n p q v l m = omega arith

pub array_covers : (h : Shape) (a n : ℕ) (is : IsInArray h a n) → Covers (fixed_span (area_of a) is.array is.within.copy is.within.index) a n
array_covers h a n is = (
  place_from a (is.within.copy * copy_stride is.array) (is.within.index * array_stride is.array) is.after is.within.from,
  place_to a n (is.within.copy * copy_stride is.array) (is.within.index * array_stride is.array) is.array.value is.after is.within.to,
)

pub array_place : (h : Shape) (a n : ℕ) → IsInArray h a n → a % n ≡ 0 → IsFixedPlace h a n
array_place h a n is even = record {
  number = area_of a;
  array = is.array;
  copy = is.within.copy;
  index = is.within.index;
  is = is.is;
  has_copy = is.within.has_copy;
  has_index = is.within.has_index;
  covers = array_covers h a n is;
  aligned = even;
}

-- each of the bytes is in the same value
pub array_byte : (h : Shape) (a n : ℕ) (g : ArrayShape) → h.cpus ≤ 16 → IsArrayShape h.cpus g → (is : IsInArray h a n) → is.array ≡ g →
    (k : ℕ) → k < n → IsInArray h (a + k) 1
array_byte h a n g few sized is same k l =
    let x = a + k in
    let w = is.within in
    let covers = array_covers h a n is in
    let sized' : IsArrayShape h.cpus is.array = subst (IsArrayShape h.cpus) (sym same) sized in
    let span = fixed_span (area_of a) is.array w.copy w.index in
    let from : span.at ≤ x = (let c = covers.0 in omega arith) in
    let to : x < span.at + is.array.value = (let c = covers.1 in up a k n (span.at + is.array.value) c l) in
    let r = fixed_reached h.cpus (area_of a) w.copy w.index x is.array few sized' w.has_copy w.has_index (from, to) in
    let area : area_of x ≡ area_of a = area_same x (area_of a) (is.after) (let e = is.after in omega arith) r.area in
    let offset : offset_of x ≡ w.copy * copy_stride is.array + (w.index * array_stride is.array + (x - span.at)) = offset_same x
    (w.copy * copy_stride is.array + (w.index * array_stride is.array + (x - span.at))) (let e = is.after in omega arith) r.within in
    record {
      array = is.array;
      after = (let e = is.after in omega arith);
      is = ap (slice_get h.arrays) area ∙ is.is;
      within = record {
        copy = w.copy;
        index = w.index;
        has_copy = w.has_copy;
        has_index = w.has_index;
        from = low (offset_of x) (w.copy * copy_stride is.array) (w.index * array_stride is.array) (x - span.at) offset;
        to = high (offset_of x) (w.copy * copy_stride is.array) (w.index * array_stride is.array) x span.at is.array.value offset from to;
      };
    }
  where
    up : (a k n e : ℕ) → a + n ≤ e → k < n → a + k < e
    up a k n e l m = omega arith

    area_same : (x b : ℕ) → array_start 0 ≤ a → array_start 0 ≤ x → (x - 0x10_0000_0000) / 0x1000_0000 ≡ 16 + b → area_of x ≡ b
    area_same x b l m e = omega arith

    offset_same : (x y : ℕ) → array_start 0 ≤ x → (x - 0x10_0000_0000) % 0x1000_0000 ≡ y → offset_of x ≡ y
    offset_same x y l e = omega arith

    low : (o p q r : ℕ) → o ≡ p + (q + r) → p + q ≤ o
    low o p q r e = omega arith

    high : (o p q x at v : ℕ) → o ≡ p + (q + (x - at)) → at ≤ x → x < at + v → o + 1 ≤ p + q + v
    high o p q x at v e l m = omega arith

-- ---- what a run may read
pub readable_byte : (h : Shape) (holds : Span → Bool) (held : List Span) (a : ℕ) → AreHeld holds held → (reaches held a ≡ true) ⊎ IsInArray
    h a 1 → IsReadable h holds a 1
readable_byte h holds held a are (inl e) = inl (held_byte holds held a are e)
readable_byte h holds held a are (inr is) = inr (array_place h a 1 is (omega arith))

both_all : (P Q : Span → Type 0) (l : List Span) → All P l → All Q l → All (λ p. P p × Q p) l
both_all P Q l p q = λ k d m. (p k d m, q k d m)

lower : (a at : ℕ) → at % 8 ≡ 0 → a % 4 ≡ 0 → at ≤ a + 3 → at ≤ a
lower a at e f l = omega arith

-- four bytes at once: they are in one value, since values begin at multiples of eight
readable_end : (h : Shape) (holds : Span → Bool) (held : List Span) (a : ℕ) → AreHeld holds held → All IsAligned held →
    (reaches held (a + 3) ≡ true) ⊎ IsInArray h (a + 3) 1 → a % 4 ≡ 0 → IsReadable h holds a 4
readable_end h holds held a are even (inl e) four =
    let f = found (λ p. ((holds p ≡ true) × IsValueSpan p) × IsAligned p) held (a + 3)
    (both_all (λ p. (holds p ≡ true) × IsValueSpan p) IsAligned held are even) e in
    inl (record {
      span = f.span;
      holds = f.fact.0.0;
      covers = (lower a f.span.at f.fact.1 four f.since, (let before = f.before in omega arith));
      aligned = four;
    })
readable_end h holds held a are even (inr is) four =
    let p = array_place h (a + 3) 1 is (omega arith) in
    inr (record {
      number = p.number;
      array = p.array;
      copy = p.copy;
      index = p.index;
      is = p.is;
      has_copy = p.has_copy;
      has_index = p.has_index;
      covers = (
        lower a (fixed_span p.number p.array p.copy p.index).at (fixed_even p.number p.copy p.index p.array) four p.covers.0,
        (let to = p.covers.1 in omega arith),
      );
      aligned = four;
    })

pub readable_word : (h : Shape) (holds : Span → Bool) (held : List Span) (a : ℕ) → AreHeld holds held → All IsAligned held → AreReached h
    held a 4 → a % 4 ≡ 0 → IsReadable h holds a 4
readable_word h holds held a are even reached four = readable_end h holds held a are even (reached 3 (omega arith)) four

-- ---- where an update writes
even_sum : (size : Size) (to done : ℕ) → to % 8 ≡ 0 → done % bytes_in size ≡ 0 → (to + done) % bytes_in size ≡ 0
even_sum Byte to done e f = omega arith
even_sum Half to done e f = omega arith
even_sum Word to done e f = omega arith
even_sum Double to done e f = omega arith

pub target_place : (h : Shape) (holds : Span → Bool) (to n done : ℕ) (size : Size) → IsTarget h to n → done + bytes_in size ≤ n → done %
    bytes_in size ≡ 0 → IsWritable h holds (to + done) (bytes_in size)
target_place h holds to n done size t fits even =
    let span = fixed_span t.number t.array t.copy t.index in
    let at : to ≡ span.at = t.at in
    let same : n ≡ t.array.value = t.size in
    let eight : to % 8 ≡ 0 = ap (λ (x : ℕ). x % 8) at ∙ fixed_even t.number t.copy t.index t.array in
    inr (
      record {
        number = t.number;
        array = t.array;
        copy = t.copy;
        index = t.index;
        is = t.is;
        has_copy = t.has_copy;
        has_index = t.has_index;
        covers = (low to done span.at at, high to done n (bytes_in size) t.array.value span.at at same fits);
        aligned = even_sum size to done eight even;
      },
      t.writable,
    )
  where
    low : (to done at : ℕ) → to ≡ at → at ≤ to + done
    low to done at e = omega arith

    high : (to done n k v at : ℕ) → to ≡ at → n ≡ v → done + k ≤ n → to + done + k ≤ at + v
    high to done n k v at e f l = omega arith

-- an array's values are below the area after the last array's
pub fixed_low : (cpus a k i : ℕ) (g : ArrayShape) → cpus ≤ 16 → IsArrayShape cpus g → a < 16 → k < copies cpus g → i < g.max →
    (fixed_span a g k i).at < array_start 16
fixed_low cpus a k i g few sized low has_copy has_index =
    let at = (fixed_span a g k i).at in
    let some = sized.value.0 in
    let r = fixed_reached cpus a k i at g few sized has_copy has_index (omega arith, omega arith) in
    let area = r.area in
    top at a low area
  where
    top : (x a : ℕ) → a < 16 → (x - 0x10_0000_0000) / 0x1000_0000 ≡ 16 + a → x < 0x12_0000_0000
    top x a l e = omega arith

-- ---- what is in an array, by the number and the offset that the code computes
pub in_array : (h : Shape) (a n cpus i o : ℕ) (g : ArrayShape) → cpus ≡ h.cpus → array_start 0 ≤ a → i ≡ area_of a → o ≡ offset_of a → Some
    g ≡ slice_get h.arrays i → IsWithin cpus g o n
    → (is : IsInArray h a n) × (is.array ≡ g)
in_array h a n cpus i o g served above area at there within = (
  record {
    array = g;
    after = above;
    is = sym (there ∙ ap (slice_get h.arrays) area);
    within = subst (λ (c : ℕ). IsWithin c g (offset_of a) n) served (subst (λ (x : ℕ). IsWithin cpus g x n) at within);
  },
  refl,
)
