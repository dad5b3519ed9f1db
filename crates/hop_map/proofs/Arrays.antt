-- Arrays of a store, and their values in words at rest.
use Rattle.std.proofs.Common.{◌≡◌, ◌+◌, ◌-◌, ◌*◌, ◌/◌, ◌<◌, ◌≤◌, ℕ, Bool, true, false, nat_lt, ◌&&◌, if◌then◌else◌, List, [], Option, Some}
use Rattle.std.proofs.Common.{None, option_map, length, get_or, slice_get, refl, ap, sym, subst, ◌∙◌, arith}
use Rattle.std.proofs.lemmas.Bool.{and_parts, lt-ltb}
use Rattle.std.proofs.lemmas.Bool.Decides.{nat_tests}
use Rattle.std.proofs.lemmas.Option.{slice_get-get_or}
use Rattle.bpf_shared.specs.declared.shapes.ArrayShape.{ArrayShape}
use Rattle.bpf_shared.specs.Shape.{Shape, IsShape, IsArray, IsArrayShape, copies, array_stride, copy_stride}
use Rattle.bpf_shared.specs.Store.{Plain, Value, as_made, fixed_number}
use Rattle.bpf_shared.proofs.Fixed.{whole_fits}
use Rattle.hop_layout.specs.declared.place.Place.TheVariants.{FixedWord}
use Rattle.hop_layout.specs.Layout.{no_array, array_shape, array_words, is_place, words_for}
use Rattle.hop_layout.proofs.Maps.{array_of}
use Rattle.hop_words.specs.Closing.{Ending}
use Rattle.hop_words.specs.Ghost.{array_at, fixed_word}
use Rattle.hop_words.specs.Seats.{view, KeepsWholeHistory}
use Rattle.hop_words.proofs.FixedPlaces.{inside_words, word_at}
use Rattle.hop_words.proofs.Histories.{shape_after}
use Rattle.hop_map.specs.Dumping.{indexed, fixed_of}
use Rattle.hop_map.specs.Private.Dumping.{with_index, array_with, fixed_in}

-- the array that code found among those of a shape
module _ (h : Shape) (is : IsShape h) (gs : List ArrayShape) (same : gs ≡ h.arrays) (b : ℕ) (l : b < length gs) (g : ArrayShape)
    (item : g ≡ get_or gs b no_array) where
  pub array_here : IsArray h.arrays b g
  array_here = subst (λ (x : ArrayShape). IsArray h.arrays b x) (sym item)
      (subst (λ (xs : List ArrayShape). slice_get xs b ≡ Some (get_or gs b no_array)) same (slice_get-get_or gs b no_array l))

  pub array_sized : IsArrayShape h.cpus g
  array_sized = (is.arrays b g array_here).0

-- ---- an index of an array
-- what a test says of it
index_there : (h : Shape) (k i : ℕ) (o : Option ArrayShape) (g : ArrayShape) → with_index h k i o ≡ Some g → (o ≡ Some g) × (k < copies h.cpus g) × (i < g.max)
index_there h k i None g e = cc
index_there h k i (Some x) g e = go (nat_lt k (copies h.cpus x) && nat_lt i x.max) refl e
  where
    go : (b : Bool) → (nat_lt k (copies h.cpus x) && nat_lt i x.max) ≡ b → (if b then Some x else None) ≡ Some g → (Some x ≡ Some g) ×
        (k < copies h.cpus g) × (i < g.max)
    go true is f =
        let same : x ≡ g = cc in
        let tests = and_parts (nat_lt k (copies h.cpus x)) (nat_lt i x.max) is in
        let copy : k < copies h.cpus x = (let t = tests.0 in grind (arith, nat_tests)) in
        let index : i < x.max = (let t = tests.1 in grind (arith, nat_tests)) in
        (f, subst (λ (y : ArrayShape). k < copies h.cpus y) same copy, subst (λ (y : ArrayShape). i < y.max) same index)
    go false is f = cc

pub found_there : (h : Shape) (b k i : ℕ) (g : ArrayShape) → array_with h b k i ≡ Some g → IsArray h.arrays b g × (k < copies h.cpus g) × (i < g.max)
found_there h b k i g e = index_there h k i (slice_get h.arrays b) g e

-- the bytes are there where the index is
indexed_by : (s : Plain) (b k i : ℕ) (o : Option ArrayShape) → indexed s b k i o ≡ option_map (λ g. (s.value (fixed_number b k i)).bytes)
    (with_index s.shape k i o)
indexed_by s b k i None = refl
indexed_by s b k i (Some g) = go (nat_lt k (copies s.shape.cpus g) && nat_lt i g.max)
  where
    go : (t : Bool) → (if t then Some (s.value (fixed_number b k i)).bytes else None) ≡ option_map
        (λ (x : ArrayShape). (s.value (fixed_number b k i)).bytes) (if t then Some g else None)
    go true = refl
    go false = refl

pub fixed_by : (s : Plain) (h : Shape) (b k i : ℕ) → s.shape ≡ h → fixed_of s b k i ≡ option_map (λ g. (s.value (fixed_number b k i)).bytes)
    (array_with h b k i)
fixed_by s h b k i same = indexed_by s b k i (slice_get s.shape.arrays b) ∙ ap
    (λ (x : Shape). option_map (λ (g : ArrayShape). (s.value (fixed_number b k i)).bytes) (array_with x b k i)) same

-- ---- its words
module _ (h : Shape) (shaped : IsShape h) (b k i : ℕ) (g : ArrayShape) (is : IsArray h.arrays b g) (has_copy : k < copies h.cpus g)
    (has_index : i < g.max) where
  here : (b < length h.arrays) × (array_shape h b ≡ g)
  here = array_of h b g is

  -- a word of the value is one of the array's
  inside : (j : ℕ) → j < words_for g.value → fixed_word g k i + j < copies h.cpus g * copy_stride g / 8
  inside j l =
      let base = word_at g k i in
      let o : ℕ = k * copy_stride g + i * array_stride g + 8 * j in
      inside_words h.cpus g o 1 (fixed_word g k i + j) (record {
        copy = k;
        index = i;
        has_copy = has_copy;
        has_index = has_index;
        from =
            omega arith;
        to = omega arith;
      }) (omega arith) (omega arith)

  pub word_there : (j : ℕ) → j < words_for g.value → is_place h (FixedWord b (fixed_word g k i + j)) ≡ true
  word_there j l =
      let low : fixed_word g k i + j < array_words h b = subst (λ (x : ArrayShape). fixed_word g k i + j < copies h.cpus x * copy_stride x /
      8) (sym here.1) (inside j l) in
      rw (lt-ltb b (length h.arrays) here.0, lt-ltb (fixed_word g k i + j) (array_words h b) low) refl

  pub words_room : fixed_word g k i + words_for g.value ≤ 0x200_0000
  words_room =
      let sized = (shaped.arrays b g is).0 in
      let some = sized.value.0 in
      let last = inside (words_for g.value - 1) (omega arith) in
      let whole = whole_fits h.cpus g shaped.cpus.1 sized in
      let turned : copies h.cpus g * copy_stride g ≡ copy_stride g * copies h.cpus g = grind arith in
      omega arith

-- the value's bytes are those that its words spell
pub value_shown : (e : Ending) (w : KeepsWholeHistory e.about (view [] e.history) e.words) (b k i : ℕ) (g : ArrayShape) → IsArray
    e.about.shape.arrays b g → k < copies e.about.shape.cpus g → i < g.max
    → (w.ghost.last.value (fixed_number b k i)).bytes ≡ fixed_in e b (fixed_word g k i) g.value
value_shown e w b k i g is has_copy has_index =
    let there = array_of e.about.shape b g is in
    let same : array_at e.about b ≡ g = there.1 in
    ap (λ (x : Value). x.bytes) (w.rule.fixed b k i (record {
      array = there.0;
      copy = subst (λ (x : ArrayShape). k < copies e.about.shape.cpus x) (sym same) has_copy;
      index = subst (λ (x : ArrayShape). i < x.max) (sym same) has_index;
    }))
    ∙ ap (λ (x : ArrayShape). fixed_in e b (fixed_word x k i) x.value) same

pub last_shape : (e : Ending) (w : KeepsWholeHistory e.about (view [] e.history) e.words) → w.ghost.last.shape ≡ e.about.shape
last_shape e w = shape_after (as_made e.about.shape) w.ghost.last w.ghost.log w.rule.logged.legal
