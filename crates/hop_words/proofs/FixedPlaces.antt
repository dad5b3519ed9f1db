-- Fixed values: where their words are, and that nothing else lies there.
use Rattle.std.proofs.Common.{◌≡◌, ◌≢◌, ℕ, ◌+◌, ◌-◌, ◌*◌, ◌/◌, ◌<◌, ◌≤◌, length, refl, ap, sym, subst, ◌∙◌, arith, true}
use Rattle.bpf_shared.specs.declared.shapes.ArrayShape.{ArrayShape}
use Rattle.bpf_shared.specs.Shape.{IsShape, IsArray, IsArrayShape, IsIn, IsWithin, copies, copy_size, copy_stride, array_stride}
use Rattle.bpf_shared.specs.Shape.{element_span, fixed_span, first_value, map_area}
use Rattle.bpf_shared.specs.Store.{Value, as_made, put, array_of, copy_of, index_of, fixed_number, fixed_count, fixed_value, IsFixed, IsFrozen}
use Rattle.bpf_shared.specs.Sound.{IsSoundStore}
use Rattle.std.proofs.lemmas.Nat.{mul-add-lt}
use Rattle.bpf_shared.proofs.Puts.{put-other}
use Rattle.bpf_shared.proofs.Fixed.{copies_most, value_fits, copy_fits, array_of-number, copy_of-number, index_of-number, fixed_is}
use Rattle.bpf_shared.proofs.Fixed.{fixed_below, fixed_one, element_apart, same_array}
use Rattle.bpf_shared.proofs.Soundness.{as_made_sound, legal_sound}
use Rattle.hop_layout.specs.declared.place.Place.{Place}
use Rattle.hop_layout.specs.declared.about.About.{About}
use Rattle.hop_layout.specs.Layout.{words_for}
use Rattle.hop_layout.proofs.Maps.{array_is, map_is}
use Rattle.hop_words.specs.Ghost.{Ghost, Carries, shape_at, HasElement, array_at, HasFixed, fixed_word}
use Rattle.hop_words.specs.Rule.{Rule, ShowsFixed}

-- where a fixed value's words begin, in bytes
pub word_at : (g : ArrayShape) (k i : ℕ) → 8 * fixed_word g k i ≡ k * copy_stride g + i * array_stride g
word_at g k i = eighth k ((copy_size g + 63) / 64) i ((g.value + 7) / 8)
  where
    eighth : (k q i s : ℕ) → 8 * ((k * (q * 64) + i * (s * 8)) / 8) ≡ k * (q * 64) + i * (s * 8)
    eighth k q i s = let e : k * (q * 64) + i * (s * 8) ≡ (k * (q * 8) + i * s) * 8 = grind arith in omega arith

-- an offset in one of an array's values lies in one of its words
pub inside_words : (cpus : ℕ) (g : ArrayShape) (o n k : ℕ) → IsWithin cpus g o n → 1 ≤ n → 8 * k ≤ o → k < copies cpus g * copy_stride g / 8
inside_words cpus g o n k t some from =
    let fits = value_fits cpus g in
    let all = copy_fits cpus g in
    let e = mul-add-lt t.copy (copy_stride g) (t.index * array_stride g + (o - (t.copy * copy_stride g + t.index * array_stride g))) (copies cpus g) t.has_copy
    (let y = mul-add-lt t.index (array_stride g) (o - (t.copy * copy_stride g + t.index * array_stride g)) g.max t.has_index (let f = t.from in let l = t.to in omega arith) in
    let c : array_stride g * g.max ≡ copy_size g = refl in let swap : g.max * array_stride g ≡ array_stride g * g.max = grind arith in omega arith) in
    let f = t.from in
    eighth (copies cpus g) ((copy_size g + 63) / 64) o k from (omega arith)
  where
    eighth : (n q o k : ℕ) → 8 * k ≤ o → o < n * (q * 64) → k < n * (q * 64) / 8
    eighth n q o k from l = let e : n * (q * 64) ≡ n * q * 8 * 8 = grind arith in omega arith

module _ (a : About) (shaped : IsShape a.shape) where
  pub sized_array : (b : ℕ) → b < length a.shape.arrays → IsArrayShape a.shape.cpus (array_at a b)
  sized_array b l = (shaped.arrays b (array_at a b) (array_is a.shape b l)).0

  module _ (b k i : ℕ) (has : HasFixed a b k i) where
    few : k < 16
    few = let l = copies_most a.shape.cpus (array_at a b) shaped.cpus.1 in let h = has.copy in omega arith

    low : i < 65536
    low = let l = (sized_array b has.array).max.1 in let h = has.index in omega arith

    pub array_back : array_of (fixed_number b k i) ≡ b
    array_back = array_of-number b k i few low

    pub copy_back : copy_of (fixed_number b k i) ≡ k
    copy_back = copy_of-number b k i few low

    pub index_back : index_of (fixed_number b k i) ≡ i
    index_back = index_of-number b k i low

    abbrev pub as_fixed : IsFixed a.shape (fixed_number b k i)
    as_fixed = record {
      array = array_at a b;
      is = subst (λ (n : ℕ). IsArray a.shape.arrays n (array_at a b)) (sym array_back) (array_is a.shape b has.array);
      copy = subst (λ (n : ℕ). n < copies a.shape.cpus (array_at a b)) (sym copy_back) has.copy;
      index = subst (λ (n : ℕ). n < (array_at a b).max) (sym index_back) has.index;
    }

    pub span_at : (fixed_value a.shape (fixed_number b k i)).span ≡ fixed_span b (array_at a b) k i
    span_at = ap (λ (y : Value). y.span) (fixed_is a.shape (fixed_number b k i) as_fixed) ∙
        (λ j. fixed_span (array_back j) (array_at a b) (copy_back j) (index_back j))

    pub before : fixed_number b k i < fixed_count a.shape
    before = fixed_below a.shape (fixed_number b k i) as_fixed

    -- its array's words, from its first on, lie in its span
    pub word_inside : (j : ℕ) → j < words_for (array_at a b).value → IsIn
        (first_value + map_area * (16 + b) + 8 * (fixed_word (array_at a b) k i + j)) (fixed_value a.shape (fixed_number b k i)).span
    word_inside j l = subst (IsIn (first_value + map_area * (16 + b) + 8 * (fixed_word (array_at a b) k i + j))) (sym span_at)
        (let z = word_at (array_at a b) k i in (omega arith, omega arith))

    -- it may only be read where its array is
    pub frozen_back : IsFrozen a.shape (fixed_number b k i) → (array_at a b).frozen ≡ true
    frozen_back f =
        let same : f.0 ≡ array_at a b = same_array a.shape.arrays b f.0 (array_at a b)
        (subst (λ (n : ℕ). IsArray a.shape.arrays n f.0) array_back f.1) (array_is a.shape b has.array) in
        sym (ap (λ (g : ArrayShape). g.frozen) same) ∙ f.2

  -- two fixed values that have a word in common are one
  pub word_once : (b k i c m n j d : ℕ) → HasFixed a b k i → HasFixed a c m n → j < words_for (array_at a b).value → d < words_for (array_at a c).value → b ≡ c
      → fixed_word (array_at a b) k i + j ≡ fixed_word (array_at a c) m n + d → fixed_number b k i ≡ fixed_number c m n
  word_once b k i c m n j d p q l few same_b same_w =
      fixed_one a.shape shaped (fixed_number b k i) (fixed_number c m n)
      (first_value + map_area * (16 + b) + 8 * (fixed_word (array_at a b) k i + j)) (as_fixed b k i p) (as_fixed c m n q)
      (word_inside b k i p j l)
      (subst (λ (x : ℕ). IsIn x (fixed_value a.shape (fixed_number c m n)).span)
      (λ t. first_value + map_area * (16 + sym same_b t) + 8 * sym same_w t) (word_inside c m n q d few))

  -- a value that is made later, or written
  pub fixed_later : (words : ℕ → ℕ → ℕ) (value : ℕ → Value) (v : ℕ) (x : Value) → fixed_count a.shape ≤ v → ShowsFixed a words value →
      ShowsFixed a words (put value v x)
  fixed_later words value v x l p b k i has = put-other value v (fixed_number b k i) x
      (λ (q : fixed_number b k i ≡ v). let z = before b k i has in omega arith) ∙ p b k i has

module _ (a : About) (w : Place → ℕ) (g : Ghost) (r : Rule a w g) where
  pub sound : IsSoundStore g.last
  sound = legal_sound (as_made a.shape) g.last g.log (as_made_sound a.shape r.shaped) r.logged.legal

  -- no fixed value lies in an element
  pub element_else : (m e b k i : ℕ) → HasElement a m e → Carries (g.holder m e) → HasFixed a b k i → g.number m e ≢ fixed_number b k i
  element_else m e b k i at_e has f q =
      let spans : element_span m (shape_at a m) e ≡ fixed_span b (array_at a b) k i = ap (λ (x : Value). x.span)
      (sym (r.valued.lies m e at_e has) ∙ (ap g.last.value q ∙ r.fixed b k i f)) in
      let sized = r.shaped.each m (shape_at a m) (map_is a.shape m at_e.0) in
      let start : IsIn (element_span m (shape_at a m) e).at (element_span m (shape_at a m) e) = (let z = sized.value.0 in (omega arith, omega arith)) in
      element_apart a.shape r.shaped m e (fixed_number b k i) (shape_at a m) (let l = at_e.0 in let n = r.shaped.count in omega arith) sized
      at_e.1 (as_fixed a r.shaped b k i f) (element_span m (shape_at a m) e).at start
      (subst (IsIn (element_span m (shape_at a m) e).at) (spans ∙ sym (span_at a r.shaped b k i f)) start)
