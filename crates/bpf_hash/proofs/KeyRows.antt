-- The keys of a `HashStore`'s map, listed.
use Rattle.std.proofs.Common.{◌≡◌, ℕ, ◌+◌, ◌*◌, ◌<◌, ◌≤◌, Bool, true, false, true≢false, ◌||◌, List, [], ◌∷◌, ◌++◌, Option, Some, None}
use Rattle.std.proofs.Common.{is_some, length, length-append, take, refl, ap, sym, subst, ◌∙◌, arith, inl, inr}
use Rattle.std.specs.List.{count_by, IsDistinct}
use Rattle.std.specs.Ordering.{nat_cmp, eq_by_cmp, is_eq}
use Rattle.std.specs.declared.cmp.Ordering.{Ordering}
use Rattle.std.specs.declared.cmp.Ordering.TheVariants.{Less, Equal, Greater}
use Rattle.std.specs.Cmp.{eq_by_cmp_equiv}
use Rattle.std.specs.Cmp.Lexicographic.{slice_cmp}
use Rattle.std.specs.FinMap.{get, keys}
use Rattle.std.proofs.lemmas.Cmp.{nat_list_cmp_total}
use Rattle.std.proofs.lemmas.List.Sums.{count_by_more_yes, count_by_more_no, sum_by-take-le}
use Rattle.std.proofs.lemmas.Map.Keys.{IsDistinct-push}
use Rattle.std.proofs.lemmas.Map.Lookups.{exact_bytes}
use Rattle.bpf_shared.specs.declared.events.Event.TheVariants.{Keys}
use Rattle.bpf_shared.specs.Store.{Plain}
use Rattle.bpf_shared.specs.KeyOrder.{is_among}
use Rattle.bpf_hash.specs.Private.Rows.{Rows, shape_of, key_of, IsLinked, IsTable}
use Rattle.bpf_hash.specs.Private.Contents.{Contents, rows, StandsFor, has_cpu, shapes_of, Makes}
use Rattle.bpf_hash.specs.Private.Pairs.{AreKeysBelow, AreRowKeys}
use Rattle.bpf_shared.proofs.KeyOrder.{in_order_is}
use Rattle.bpf_shared.proofs.Puts.{equal_or_not}
use Rattle.bpf_shared.specs.Shape.{elements}
use Rattle.bpf_hash.proofs.Blocks.{length-part, block_fits}
use Rattle.bpf_hash.proofs.Linking.{marked_inside}
use Rattle.bpf_hash.proofs.Passages.{calls}
use Rattle.bpf_hash.proofs.Counting.{served}
use Rattle.std.proofs.lemmas.List.{length-map}

among-append : (q : List ℕ) (xs ys : List (List ℕ)) → is_among q (xs ++ ys) ≡ (is_among q xs || is_among q ys)
among-append q [] ys = refl
among-append q (x ∷ xs) ys = go (eq_by_cmp (slice_cmp nat_cmp) q x) (among-append q xs ys)
  where
    go : (b : Bool) → is_among q (xs ++ ys) ≡ (is_among q xs || is_among q ys) → (b || is_among q (xs ++ ys)) ≡ ((b || is_among q xs) || is_among q ys)
    go true e = refl
    go false e = e

same_key : (q k : List ℕ) → eq_by_cmp (slice_cmp nat_cmp) q k ≡ true → q ≡ k
same_key q k h = go (slice_cmp nat_cmp q k) refl
  where
    go : (o : Ordering) → slice_cmp nat_cmp q k ≡ o → q ≡ k
    go Less is = absurd (true≢false (sym (sym (ap is_eq is) ∙ h)))
    go Equal is = exact_bytes q k is
    go Greater is = absurd (true≢false (sym (sym (ap is_eq is) ∙ h)))

itself : (q : List ℕ) → is_among q (q ∷ []) ≡ true
itself q = ap (λ (b : Bool). b || false) ((eq_by_cmp_equiv nat_list_cmp_total).refl q)

or_true : (b : Bool) → (b || true) ≡ true
or_true true = refl
or_true false = refl

not_true : (b : Bool) → (b ≡ true → ⊥) → b ≡ false
not_true true h = absurd (h refl)
not_true false h = refl

pub keys_none : (t : Rows) → AreKeysBelow t 0 []
unfolding IsDistinct
keys_none t = record { each = λ q h. absurd (true≢false (sym h)); all = λ i l b. absurd (omega arith); distinct = tt; few = refl }

module _ (t : Rows) (n : ℕ) (ks : List (List ℕ)) (a : AreKeysBelow t n ks) (inside : n < length t.linked) where
  pub keys_past : (IsLinked t n → ⊥) → AreKeysBelow t (n + 1) ks
  keys_past unset = record {
    each = λ q h. (let f = a.each q h in (f.0, f.1, (let z = f.2 in omega arith), f.3));
    all = λ i l b. elim (equal_or_not i n) [ inl e ↦ absurd (unset (subst (IsLinked t) e l)) | inr ne ↦ a.all i l (omega arith) ];
    distinct = a.distinct;
    few = a.few ∙ sym (count_by_more_no (λ (b : Bool). b) t.linked n false inside (not_true _ unset));
  }

  module _ (is : IsTable t) (linked : IsLinked t n) where
    pub keys_room : length ks < t.shape.max
    keys_room =
        let more = count_by_more_yes (λ (b : Bool). b) t.linked n false inside linked in
        let most = is.count in
        let few = a.few in
        let less = part_below (n + 1) t.linked in
        omega arith
      where
        part_below : (k : ℕ) (xs : List Bool) → count_by (λ (b : Bool). b) (take k xs) ≤ count_by (λ (b : Bool). b) xs
        part_below k xs = sum_by-take-le _ xs k

    new_key : is_among (key_of t n) ks ≡ false
    new_key = not_true (is_among (key_of t n) ks)
        (λ h. (let f = a.each (key_of t n) h in let same = is.distinct n f.0 linked f.1 f.3 in let z = f.2 in omega arith))

    pub keys_more : AreKeysBelow t (n + 1) (ks ++ key_of t n ∷ [])
    keys_more = record {
      each = λ q h. at q (sym (among-append q ks (key_of t n ∷ [])) ∙ h);
      all = λ i l b. elim (equal_or_not i n) [
        | inl e ↦ among-append (key_of t i) ks (key_of t n ∷ []) ∙
            (ap (λ (b : Bool). is_among (key_of t i) ks || b) (ap (λ (j : ℕ). is_among (key_of t j) (key_of t n ∷ [])) e ∙ itself
            (key_of t n)) ∙ or_true (is_among (key_of t i) ks))
        | inr ne ↦ among-append (key_of t i) ks (key_of t n ∷ []) ∙ ap (λ (b : Bool). b || is_among (key_of t i) (key_of t n ∷ [])) (a.all i l (omega arith))
      ];
      distinct = IsDistinct-push (eq_by_cmp_equiv nat_list_cmp_total) ks (key_of t n) a.distinct new_key;
      few = length-append ks (key_of t n ∷ []) ∙ (ap (λ (i : ℕ). i + 1) a.few ∙ sym (count_by_more_yes (λ (b : Bool). b) t.linked n false inside linked));
    }
      where
        at : (q : List ℕ) → (is_among q ks || is_among q (key_of t n ∷ [])) ≡ true → (i : ℕ) × IsLinked t i × (i < n + 1) × (q ≡ key_of t i)
        at q h = go (is_among q ks) refl h
          where
            go : (b : Bool) → is_among q ks ≡ b → (b || is_among q (key_of t n ∷ [])) ≡ true → (i : ℕ) × IsLinked t i × (i < n + 1) × (q ≡ key_of t i)
            go true here h = let f = a.each q here in (f.0, f.1, (let z = f.2 in omega arith), f.3)
            go false here h = (n, linked, (omega arith), same_key q (key_of t n) (or_none (eq_by_cmp (slice_cmp nat_cmp) q (key_of t n)) h))
              where
                or_none : (b : Bool) → (b || false) ≡ true → b ≡ true
                or_none true h = refl
                or_none false h = h

-- ---- the event
module _ (p : Contents) (m : ℕ) (ks : List (List ℕ)) (is : AreRowKeys (rows p m) ks) (s : Plain) (h : StandsFor p s) where
  abbrev found : List (List ℕ)
  found = is.0

  below : AreKeysBelow (rows p m) (length (rows p m).linked) found
  below = is.1

  key_there : (q : List ℕ) (o : Option ℕ) → get (s.maps m) q ≡ o → is_some o ≡ is_among q found
  key_there q (Some v) at =
      let f = h.found m q v at in
      sym (ap (λ (z : List ℕ). is_among z found) (sym f.2) ∙ below.all f.0 f.1 (marked_inside (rows p m).linked f.0 f.1))
  key_there q None at = sym (not_true (is_among q found) (λ among.
      (let f = below.each q among in
      let z : Some (h.number m f.0) ≡ None = sym (h.leads m f.0 f.1) ∙ (ap (get (s.maps m)) (sym f.3) ∙ at) in cc)))

  pub keys_are : ks ≡ keys (s.maps m)
  keys_are = is.2 ∙ in_order_is (s.maps m) found (λ q. key_there q (get (s.maps m) q) refl)

pub keys_calls : (p : Contents) (c m : ℕ) (ks : List (List ℕ)) → has_cpu p c ≡ true → m < length p.tables → AreRowKeys (rows p m) ks → Makes p p c (Keys m ks)
keys_calls p c m ks serves there is = calls p p c (Keys m ks) (λ s so h. (
  s,
  (
    subst (λ (n : ℕ). c < n) (sym h.cpus) (served p c serves),
    (let e : length s.shape.maps ≡ length (shapes_of p) = ap (λ xs. length xs) h.maps in let g = length-map p.tables shape_of in omega arith),
    keys_are p m ks is s h,
    refl,
  ),
  tt,
  h,
))

-- an element's key has its size
pub key_size : (t : Rows) → IsTable t → (i : ℕ) → i < length t.linked → length (key_of t i) ≡ t.shape.key
key_size t is i inside = length-part t.keys (i * t.shape.key) t.shape.key
    (let b = block_fits i (elements t.shape) t.shape.key (let e = is.linked in omega arith) in let k = is.keys in omega arith)
