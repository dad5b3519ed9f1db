-- The pairs of a map's elements, collected and then sorted by their keys.
use Rattle.std.proofs.Common.{◌≡◌, ◌≢◌, ℕ, zero, suc, ◌+◌, ◌-◌, ◌<◌, ◌≤◌, true, false, List, [], ◌∷◌, ◌++◌, length, map, get_or}
use Rattle.std.proofs.Common.{slice_index_or, ◌⊎◌, inl, inr, refl, sym, ap, subst, ◌∙◌, arith, length-append}
use Rattle.std.specs.Prelude.{Vec}
use Rattle.std.specs.declared.alloc.Global.{Global}
use Rattle.std.specs.declared.cmp.Ordering.{Ordering}
use Rattle.std.specs.declared.cmp.Ordering.TheVariants.{Less, Equal, Greater}
use Rattle.std.specs.Ordering.{nat_cmp, is_lt, ordering_then, ordering_reverse}
use Rattle.std.specs.Cmp.Lexicographic.{slice_cmp}
use Rattle.std.specs.List.{swap, Contains}
use Rattle.std.specs.List.Sorted.{IsPermutation, IsSorted}
use Rattle.std.proofs.lemmas.Bool.{cases_lt}
use Rattle.std.proofs.lemmas.Cmp.{nat_list_cmp_total}
use Rattle.std.proofs.lemmas.Map.Lookups.{exact_bytes}
use Rattle.std.proofs.Math.ListN.{get_or-append}
use Rattle.std.proofs.lemmas.List.{length-map, get_or-map, get_or-append_right}
use Rattle.std.proofs.lemmas.List.Edits.{swapped_from_swap}
use Rattle.std.proofs.lemmas.List.Sorted.{IsPermutation-keeps, IsPermutation-sym, IsPermutation-map, length_permutation, Contains-permutation}
use Rattle.bpf_hash.specs.Private.Rows.{Rows, IsLinked, IsTable}
use Rattle.bpf_shared.specs.Listing.{Pair, pair_at, pair_of}
use Rattle.bpf_hash.specs.Private.Pairs.{row_pair, AreRowPairs, ArePairsBelow}
use Rattle.bpf_shared.proofs.Puts.{equal_or_not}
use Rattle.bpf_hash.proofs.Linking.{marked_inside}

abbrev key_at : List Pair → ℕ → List ℕ
key_at pairs k = (pair_at pairs k).0

-- ---- one more element

pub pairs_past : (t : Rows) (n : ℕ) (pairs : List Pair) → (IsLinked t n → ⊥) → ArePairsBelow t n pairs → ArePairsBelow t (n + 1) pairs
pairs_past t n pairs unset a = record {
  each = λ k l. (let f = a.each k l in (f.0, f.1, omega (arith, f.2), f.3));
  all = λ i linked l. elim (equal_or_not i n) [
    | inl e ↦ absurd (unset (subst (IsLinked t) e linked))
    | inr ne ↦ a.all i linked (below i n l ne)
  ];
  once = a.once;
}
  where
    below : (i n : ℕ) → i < n + 1 → i ≢ n → i < n
    below i n l ne = elim (cases_lt i n) [ inl k ↦ k | inr k ↦ absurd (ne (omega arith)) ]

pub pairs_more : (t : Rows) → IsTable t → (n : ℕ) (pairs : List Pair) (q : Pair) → IsLinked t n → q ≡ row_pair t n → ArePairsBelow t n pairs
    → ArePairsBelow t (n + 1) (pairs ++ q ∷ [])
pairs_more t is n pairs q linked e a = record {
  each = λ k l. elim (cases_lt k (length pairs)) [
    | inl b ↦ (let f = a.each k b in (f.0, f.1, omega (arith, f.2), front k b ∙ f.3))
    | inr b ↦ (n, linked, omega arith, last k (omega (arith, b, l, long)) ∙ e)
  ];
  all = λ i there l. elim (cases_lt i n) [
    | inl b ↦ (let f = a.all i there b in (f.0, omega (arith, f.1, long), front f.0 f.1 ∙ f.2))
    | inr b ↦ (length pairs, omega (arith, long), last (length pairs) refl ∙ (e ∙ ap (row_pair t) (let s : n ≡ i = omega arith in s)))
  ];
  once = λ j k l m same. elim (cases_lt j (length pairs)) [
    | inl bj ↦ elim (cases_lt k (length pairs)) [
      | inl bk ↦ a.once j k bj bk (ap (λ (x : Pair). x.0) (sym (front j bj)) ∙ (same ∙ ap (λ (x : Pair). x.0) (front k bk)))
      | inr bk ↦ absurd (apart j bj (ap (λ (x : Pair). x.0) (sym (front j bj)) ∙ (same ∙ ap (λ (x : Pair). x.0) (last k (omega (arith, bk, m, long))))))
    ]
    | inr bj ↦ elim (cases_lt k (length pairs)) [
      | inl bk ↦ absurd (apart k bk (ap (λ (x : Pair). x.0) (sym (front k bk)) ∙ (sym same ∙ ap (λ (x : Pair). x.0) (last j (omega (arith, bj, l, long))))))
      | inr bk ↦ omega (arith, bj, bk, l, m, long)
    ]
  ];
}
  where
    long : length (pairs ++ q ∷ []) ≡ length pairs + 1
    long = length-append pairs (q ∷ [])

    front : (k : ℕ) → k < length pairs → pair_at (pairs ++ q ∷ []) k ≡ pair_at pairs k
    front k l = get_or-append pairs (q ∷ []) ([], []) k l

    last : (k : ℕ) → k ≡ length pairs → pair_at (pairs ++ q ∷ []) k ≡ q
    last k s = get_or-append_right pairs (q ∷ []) k k ([], []) (sym s) (omega arith) ∙ ap (λ (n : ℕ). get_or (q ∷ []) n ([], []))
        (let z : k - k ≡ 0 = omega arith in z)

    apart : (k : ℕ) → k < length pairs → key_at pairs k ≡ q.0 → ⊥
    apart k l s =
        let f = a.each k l in
        let one : f.0 ≡ n = is.distinct f.0 n f.1 linked (ap (λ (x : Pair). x.0) (sym f.3) ∙ (s ∙ ap (λ (x : Pair). x.0) e)) in
        (let b = f.2 in omega arith)

pub pairs_all : (t : Rows) (n : ℕ) (pairs : List Pair) → length t.linked ≤ n → ArePairsBelow t n pairs → ArePairsBelow t (length t.linked) pairs
pairs_all t n pairs most a = record {
  each = λ k l. (let f = a.each k l in (f.0, f.1, marked_inside t.linked f.0 f.1, f.3));
  all = λ i linked l. a.all i linked (omega arith);
  once = a.once;
}

-- ---- the same pairs in another order
abbrev HasOnce : List Pair → Type 0
HasOnce pairs = (j k : ℕ) → j < length pairs → k < length pairs → key_at pairs j ≡ key_at pairs k → j ≡ k

-- where a pair of a list was, before two changed places
abbrev Was : ℕ → ℕ → ℕ → ℕ → Type 0
Was a b m p = ((m ≡ a) × (p ≡ b)) ⊎ (((m ≡ b) × (p ≡ a)) ⊎ ((m ≢ a) × (m ≢ b) × (p ≡ m)))

one_was : (a b j k p q : ℕ) → Was a b j p → Was a b k q → p ≡ q → j ≡ k
one_was a b j k p q (inl x) (inl y) e = x.0 ∙ sym y.0
one_was a b j k p q (inl x) (inr (inl y)) e = x.0 ∙ (sym y.1 ∙ (sym e ∙ (x.1 ∙ sym y.0)))
one_was a b j k p q (inl x) (inr (inr y)) e = absurd (y.1 (sym y.2 ∙ (sym e ∙ x.1)))
one_was a b j k p q (inr (inl x)) (inl y) e = x.0 ∙ (sym y.1 ∙ (sym e ∙ (x.1 ∙ sym y.0)))
one_was a b j k p q (inr (inl x)) (inr (inl y)) e = x.0 ∙ sym y.0
one_was a b j k p q (inr (inl x)) (inr (inr y)) e = absurd (y.0 (sym y.2 ∙ (sym e ∙ x.1)))
one_was a b j k p q (inr (inr x)) (inl y) e = absurd (x.1 (sym x.2 ∙ (e ∙ y.1)))
one_was a b j k p q (inr (inr x)) (inr (inl y)) e = absurd (x.0 (sym x.2 ∙ (e ∙ y.1)))
one_was a b j k p q (inr (inr x)) (inr (inr y)) e = sym x.2 ∙ (e ∙ y.2)

once_swapped : (l : List Pair) (a b : ℕ) → a < length l → b < length l → HasOnce l → HasOnce (swap l a b)
once_swapped l a b la lb once j k lj lk same =
    let p = was j (omega (arith, lj, long)) in
    let q = was k (omega (arith, lk, long)) in
    one_was a b j k p.0 q.0 p.3 q.3 (once p.0 q.0 p.1 q.1 (ap (λ (x : Pair). x.0) (sym p.2) ∙ (same ∙ ap (λ (x : Pair). x.0) q.2)))
  where
    long : length (swap l a b) ≡ length l
    long = length_permutation l (swap l a b) (Rattle.std.proofs.lemmas.List.Sorted.IsPermutation-swap l (swap l a b) a b la lb refl)

    was : (m : ℕ) → m < length l → (p : ℕ) × (p < length l) × (pair_at (swap l a b) m ≡ pair_at l p) × Was a b m p
    was m lm =
        let s = swapped_from_swap l (swap l a b) a b ([], []) la lb refl in
        elim (equal_or_not m a) [
          | inl e ↦ (b, lb, ap (pair_at (swap l a b)) e ∙ s.0, inl (e, refl))
          | inr na ↦ elim (equal_or_not m b) [
            | inl e ↦ (a, la, ap (pair_at (swap l a b)) e ∙ s.1, inr (inl (e, refl)))
            | inr nb ↦ (m, lm, s.2 m na nb, inr (inr (na, nb, refl)))
          ]
        ]

abbrev Two : Type 0
Two = Vec ℕ Global × Vec ℕ Global

module _ (t : Rows) (n : ℕ) (whole : (i : ℕ) → IsLinked t i → i < n) (old new : List Two) (below : ArePairsBelow t n (map pair_of old))
    (moved : IsPermutation old new)
    (compare : Two → Two → Ordering) (second : Two → Two → Ordering)
    (first : (x y : Two) → compare x y ≡ ordering_then (slice_cmp nat_cmp x.0.items y.0.items) (second x y)) (up : IsSorted compare new) where
  abbrev before : List Pair
  before = map pair_of old

  abbrev after : List Pair
  after = map pair_of new

  pairs_moved : IsPermutation before after
  pairs_moved = IsPermutation-map pair_of old new moved

  once : HasOnce after
  once = IsPermutation-keeps before HasOnce below.once (λ l i j li lj h. once_swapped l i j li lj h) after pairs_moved

  count : length after ≡ length new
  count = length-map new pair_of

  -- neighbours rise
  module _ (v : Two) (vs : List Two) (sorted : IsSorted compare (v ∷ vs)) (one : HasOnce (map pair_of (v ∷ vs))) (k : ℕ)
      (l : k + 1 < length (map pair_of (v ∷ vs))) where
    abbrev all : List Two
    all = v ∷ vs

    long : length (map pair_of all) ≡ length all
    long = length-map all pair_of

    inside : k + 1 < length all
    inside = omega (arith, l, long)

    abbrev low : List ℕ
    low = (get_or all k v).0.items

    abbrev high : List ℕ
    high = (get_or all (k + 1) v).0.items

    at_low : key_at (map pair_of all) k ≡ low
    at_low = ap (λ (x : Pair). x.0) (get_or-map pair_of all k v ([], []) (omega (arith, inside)))

    at_high : key_at (map pair_of all) (k + 1) ≡ high
    at_high = ap (λ (x : Pair). x.0) (get_or-map pair_of all (k + 1) v ([], []) inside)

    not_less : is_lt (compare (get_or all (k + 1) v) (get_or all k v)) ≡ false
    not_less = sorted k v (omega arith) inside

    rises : (o : Ordering) → slice_cmp nat_cmp high low ≡ o → slice_cmp nat_cmp (key_at (map pair_of all) k) (key_at (map pair_of all) (k + 1)) ≡ Less
    rises Less e = absurd
        (let f : true ≡ false = sym (ap is_lt (first (get_or all (k + 1) v) (get_or all k v) ∙ ap (λ (o : Ordering). ordering_then o (second (get_or all (k + 1) v) (get_or all k v))) e)) ∙ not_less in
        cc)
    rises Equal e = absurd (let s : k + 1 ≡ k = one (k + 1) k l (omega (arith, l)) (at_high ∙ (exact_bytes high low e ∙ sym at_low)) in omega arith)
    rises Greater e = ap (λ (x : List ℕ). slice_cmp nat_cmp x (key_at (map pair_of all) (k + 1))) at_low ∙
        (ap (slice_cmp nat_cmp low) at_high ∙ (nat_list_cmp_total.antisymm low high ∙ ap ordering_reverse e))

  next : (vs : List Two) → IsSorted compare vs → HasOnce (map pair_of vs) → (k : ℕ) → k + 1 < length (map pair_of vs)
      → slice_cmp nat_cmp (key_at (map pair_of vs) k) (key_at (map pair_of vs) (k + 1)) ≡ Less
  next [] sorted one k l = absurd (omega arith)
  next (v ∷ vs) sorted one k l = rises v vs sorted one k l (slice_cmp nat_cmp (get_or (v ∷ vs) (k + 1) v).0.items (get_or (v ∷ vs) k v).0.items) refl

  far : (j d : ℕ) → j + suc d < length after → slice_cmp nat_cmp (key_at after j) (key_at after (j + suc d)) ≡ Less
  far j zero l = next new up once j l
  far j (suc d) l =
      let m : j + suc (suc d) ≡ j + suc d + 1 = omega arith in
      ap (λ (x : ℕ). slice_cmp nat_cmp (key_at after j) (key_at after x)) m
      ∙ nat_list_cmp_total.trans (key_at after j) (key_at after (j + suc d)) (key_at after (j + suc d + 1)) (far j d (omega arith))
      (next new up once (j + suc d) (omega arith))

  pub sorted_pairs : AreRowPairs t after
  sorted_pairs = record {
    sorted = λ j k l m.
        (let s : k ≡ j + suc (k - j - 1) = omega arith in
        ap (λ (x : ℕ). slice_cmp nat_cmp (key_at after j) (key_at after x)) s ∙ far j (k - j - 1) (subst (λ (x : ℕ). x < length after) s m));
    each = λ k l.
        (let c : Contains before (pair_at after k) = Contains-permutation after before (pair_at after k) (IsPermutation-sym before after pairs_moved) (k, l, own after k l) in
        let f = below.each c.0 c.1 in
        (f.0, f.1, sym (in_list before c.0 (pair_at after k) c.1 c.2) ∙ f.3));
    all = λ i linked.
        (let f = below.all i linked (whole i linked) in
        let c : Contains after (row_pair t i) = Contains-permutation before after (row_pair t i) pairs_moved
        (f.0, f.1, (get_any before f.0 (row_pair t i) f.1) ∙ f.2) in
        (c.0, c.1, in_list after c.0 (row_pair t i) c.1 c.2));
  }
    where
      get_any : (l : List Pair) (k : ℕ) (d : Pair) → k < length l → get_or l k d ≡ pair_at l k
      get_any [] k d m = absurd (omega arith)
      get_any (x ∷ xs) zero d m = refl
      get_any (x ∷ xs) (suc k) d m = get_any xs k d (omega arith)

      own : (l : List Pair) (k : ℕ) → k < length l → slice_index_or l k (pair_at l k) ≡ pair_at l k
      own l k m = get_any l k (pair_at l k) m

      in_list : (l : List Pair) (k : ℕ) (x : Pair) → k < length l → slice_index_or l k x ≡ x → pair_at l k ≡ x
      in_list l k x m e = sym (get_any l k x m) ∙ e
