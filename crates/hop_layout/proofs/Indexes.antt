-- In closed form, for the code that computes where a word is.
use Rattle.std.proofs.Common.{sym, [], ◌++◌, Some, ◌≡◌, ℕ, zero, suc, ◌+◌, ◌*◌, ◌<◌, true, ◌&&◌, List, ◌∷◌, length, ap, ◌∙◌, arith, nat_lt}
use Rattle.std.specs.Prelude.{slice_get}
use Rattle.std.proofs.Math.ListN.{set}
use Rattle.std.proofs.lemmas.Bool.Decides.{nat_tests}
use Rattle.std.proofs.lemmas.Bool.{and_parts}
use native.Mathlib.Decide.{dec_lt}
use mathlib.Core.Logic.{dite}
use Rattle.bpf_base.proofs.Lists.{slice_get-append, slice_get-front, slice_get-set_other, slice_get-set_same}
use Rattle.hop_layout.specs.declared.index.Bases.{Bases}
use Rattle.hop_layout.specs.Private.Index.{bases, bases_from, end_from, AreBases, AreArrayBases}
use Rattle.bpf_shared.specs.declared.shapes.MapShape.{MapShape}
use Rattle.bpf_shared.specs.Shape.{Shape, elements}
use Rattle.hop_layout.specs.declared.place.Place.TheVariants.{RunCount, KeyCount, FreeBits, Stamp, Head, Hop, Slot, Link, KeyWord, ValueWord, FixedWord}
use Rattle.hop_layout.specs.Layout.{sum_below, layout_size, is_path, layout, at, size, words_for, free_words, segments, first_depth}
use Rattle.hop_layout.specs.Layout.{map_shape, segment_layout, map_layout, map_words, line_rest, array_words}

pub sum_same : (n k : ℕ) → sum_below n (λ j. k) ≡ n * k
sum_same zero k = omega arith
sum_same (suc n) k = let r = sum_same n k in grind arith

ones : (n : ℕ) → sum_below n (λ j. 1) ≡ n
ones n = sum_same n 1 ∙ omega arith

pub at_runs : (h : Shape) (c : ℕ) → at h (RunCount c) ≡ 8 * c
at_runs h c = let z = sum_same c 8 in omega arith

module _ (h : Shape) (m : ℕ) where
  abbrev g : MapShape
  g = map_shape h m

  pub at_bits : (i : ℕ) → at h (FreeBits m i) ≡ at h (KeyCount m) + 8 + i
  at_bits i = let z = ones i in omega arith

  pub at_first_stamp : at h (Stamp m 0) ≡ at h (KeyCount m) + 8 + free_words g + line_rest (free_words g)
  at_first_stamp = let f = ones (free_words g) in let r = ones (line_rest (free_words g)) in omega arith

  pub at_stamp : (s : ℕ) → at h (Stamp m s) ≡ at h (Stamp m 0) + 130 * s
  at_stamp s = let t : sum_below s (λ j. layout_size segment_layout) ≡ s * 130 = sum_same s 130 in omega arith

  pub at_head : (s : ℕ) → at h (Head m s) ≡ at h (Stamp m 0) + 130 * s + 1
  at_head s = let t : sum_below s (λ j. layout_size segment_layout) ≡ s * 130 = sum_same s 130 in omega arith

  pub at_hop : (s b : ℕ) → at h (Hop m s b) ≡ at h (Stamp m 0) + 130 * s + 2 + 2 * b
  at_hop s b = let t : sum_below s (λ j. layout_size segment_layout) ≡ s * 130 = sum_same s 130 in let u = sum_same b 2 in omega arith

  pub at_slot : (s b : ℕ) → at h (Slot m s b) ≡ at h (Stamp m 0) + 130 * s + 3 + 2 * b
  at_slot s b = let t : sum_below s (λ j. layout_size segment_layout) ≡ s * 130 = sum_same s 130 in let u = sum_same b 2 in omega arith

  pub at_first_link : at h (Link m 0) ≡ at h (Stamp m 0) + 130 * segments g
  at_first_link = let t : sum_below (segments g) (λ j. layout_size segment_layout) ≡ segments g * 130 = sum_same (segments g) 130 in omega arith

  pub at_link : (e : ℕ) → at h (Link m e) ≡ at h (Link m 0) + e
  at_link e = let z = ones e in omega arith

  pub at_first_key : at h (KeyWord m 0 0) ≡ at h (Link m 0) + elements g
  at_first_key = let z = ones (elements g) in omega arith

  pub at_key : (e k : ℕ) → at h (KeyWord m e k) ≡ at h (KeyWord m 0 0) + e * words_for g.key + k
  at_key e k = let w = ones (words_for g.key) in let n = ones k in
      let t : sum_below e (λ j. sum_below (words_for g.key) (λ i. 1)) ≡ e * sum_below (words_for g.key) (λ i. 1) = sum_same e
      (sum_below (words_for g.key) (λ i. 1)) in
      let u : e * sum_below (words_for g.key) (λ i. 1) ≡ e * words_for g.key = ap (λ (x : ℕ). e * x) w in omega arith

  pub at_first_value : at h (ValueWord m 0 0) ≡ at h (KeyWord m 0 0) + elements g * words_for g.key
  at_first_value = let w = ones (words_for g.key) in
      let t : sum_below (elements g) (λ j. sum_below (words_for g.key) (λ i. 1)) ≡ elements g * sum_below (words_for g.key) (λ i. 1) =
      sum_same (elements g) (sum_below (words_for g.key) (λ i. 1)) in
      let u : elements g * sum_below (words_for g.key) (λ i. 1) ≡ elements g * words_for g.key = ap (λ (x : ℕ). elements g * x) w in omega arith

  pub at_value : (e k : ℕ) → at h (ValueWord m e k) ≡ at h (ValueWord m 0 0) + e * words_for g.value + k
  at_value e k = let w = ones (words_for g.value) in let n = ones k in
      let t : sum_below e (λ j. sum_below (words_for g.value) (λ i. 1)) ≡ e * sum_below (words_for g.value) (λ i. 1) = sum_same e
      (sum_below (words_for g.value) (λ i. 1)) in
      let u : e * sum_below (words_for g.value) (λ i. 1) ≡ e * words_for g.value = ap (λ (x : ℕ). e * x) w in omega arith

  pub at_next : at h (KeyCount (suc m)) ≡ at h (ValueWord m 0 0) + elements g * words_for g.value + line_rest (map_words g)
  at_next = let w = ones (words_for g.value) in let r = ones (line_rest (map_words g)) in
      let t : sum_below (elements g) (λ j. sum_below (words_for g.value) (λ i. 1)) ≡ elements g * sum_below (words_for g.value) (λ i. 1) =
      sum_same (elements g) (sum_below (words_for g.value) (λ i. 1)) in
      let u : elements g * sum_below (words_for g.value) (λ i. 1) ≡ elements g * words_for g.value = ap (λ (x : ℕ). elements g * x) w in omega arith

-- arrays' words follow those of the last map
pub at_first_array : (h : Shape) → at h (FixedWord 0 0) ≡ at h (KeyCount (length h.maps))
at_first_array h = omega arith

pub at_fixed : (h : Shape) (a k : ℕ) → at h (FixedWord a k) ≡ at h (FixedWord a 0) + k
at_fixed h a k = let z = ones k in omega arith

pub at_next_array : (h : Shape) (a : ℕ) → at h (FixedWord (suc a) 0) ≡ at h (FixedWord a 0) + array_words h a
at_next_array h a = let z = ones (array_words h a) in omega arith

pub at_end : (h : Shape) → size h ≡ at h (FixedWord (length h.arrays) 0)
at_end h = omega arith

pub at_start : (h : Shape) → at h (KeyCount 0) ≡ 8 * h.cpus
at_start h = let z = sum_same h.cpus 8 in omega arith

-- ---- the parts of a place of a map
pub map_there : (h : Shape) (m : ℕ) (p : List ℕ) → is_path (layout h) (1 ∷ m ∷ p) ≡ true → m < length h.maps
map_there h m p e = let b = and_parts (nat_lt m (length h.maps)) (is_path (map_layout (map_shape h m)) p) e in (let t = b.0 in grind (arith, nat_tests))

pub array_there : (h : Shape) (a k : ℕ) → is_path (layout h) (2 ∷ a ∷ k ∷ []) ≡ true → (a < length h.arrays) × (k < array_words h a)
array_there h a k e =
    let b = and_parts (nat_lt a (length h.arrays)) (nat_lt k (array_words h a) && true) e in
    let c = and_parts (nat_lt k (array_words h a)) true b.1 in
    ((let t = b.0 in grind (arith, nat_tests)), (let t = c.0 in grind (arith, nat_tests)))

-- a map's words begin where those of the map before it end
pub bases_at : (h : Shape) (m start : ℕ) → start ≡ at h (KeyCount m) → bases_from start (map_shape h m) ≡ bases h m
bases_at h m start e = λ i. record {
  start = e i;
  segments = stamps i;
  links = links i;
  keys = keys i;
  values = values i;
  key_words = words_for (map_shape h m).key;
  value_words = words_for (map_shape h m).value;
  first = first_depth (map_shape h m);
}
  where
    b : Bases
    b = bases_from start (map_shape h m)

    stamps : (bases_from start (map_shape h m)).segments ≡ at h (Stamp m 0)
    stamps = ap (λ (n : ℕ). n + 8 + free_words (map_shape h m) + line_rest (free_words (map_shape h m))) e ∙ sym (at_first_stamp h m)

    links : (bases_from start (map_shape h m)).links ≡ at h (Link m 0)
    links = ap (λ (n : ℕ). n + 130 * segments (map_shape h m)) stamps ∙ sym (at_first_link h m)

    keys : (bases_from start (map_shape h m)).keys ≡ at h (KeyWord m 0 0)
    keys = ap (λ (n : ℕ). n + elements (map_shape h m)) links ∙ sym (at_first_key h m)

    values : (bases_from start (map_shape h m)).values ≡ at h (ValueWord m 0 0)
    values = ap (λ (n : ℕ). n + elements (map_shape h m) * words_for (map_shape h m).key) keys ∙ sym (at_first_value h m)

pub end_at : (h : Shape) (m start : ℕ) → start ≡ at h (KeyCount m) → end_from start (map_shape h m) ≡ at h (KeyCount (m + 1))
end_at h m start e =
    ap (λ (b : Bases). b.values + elements (map_shape h m) * words_for (map_shape h m).value + line_rest (map_words (map_shape h m))) (bases_at h m start e)
    ∙ (sym (at_next h m) ∙ ap (λ (n : ℕ). at h (KeyCount n)) (let z : suc m ≡ m + 1 = omega arith in z))

-- one map more
pub one_more : (h : Shape) (n : ℕ) (bs : List Bases) (b : Bases) → n < length bs → b ≡ bases h n → AreBases h n bs → AreBases h (n + 1) (set bs n b)
one_more h n bs b room is old m less = dite (dec_lt m n)
    (λ (l : m < n). slice_get-set_other bs n m b (λ e. omega arith) ∙ old m l)
    (λ nl.
    let e : m ≡ n = grind arith in
    ap (slice_get (set bs n b)) e ∙ (slice_get-set_same bs n b room ∙ (ap Some is ∙ ap (λ (k : ℕ). Some (bases h k)) (sym e))))

-- one array more
pub one_array_more : (h : Shape) (n : ℕ) (starts : List ℕ) (start : ℕ) → length starts ≡ n → start ≡ at h (FixedWord n 0) → AreArrayBases h
    n starts → AreArrayBases h (n + 1) (starts ++ start ∷ [])
one_array_more h n starts start len is old a less = dite (dec_lt a n)
    (λ (l : a < n). slice_get-front starts (start ∷ []) a (omega arith) ∙ old a l)
    (λ nl. let e : a ≡ n = grind arith in slice_get-append starts (start ∷ []) 0 a (omega arith) ∙
    (ap Some is ∙ ap (λ (k : ℕ). Some (at h (FixedWord k 0))) (sym e)))
