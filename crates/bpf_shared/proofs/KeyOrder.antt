-- Keys in their order: a map's keys are what any list of them, put in order, is.
use Rattle.std.proofs.Common.{◌≡◌, ℕ, zero, suc, ◌+◌, ◌-◌, ◌≤◌, true, false, true≢false, Bool, length, get_or, arith, cond, ◌&&◌, ◌||◌}
use Rattle.std.proofs.Common.{List, [], ◌∷◌, Option, Some, None, is_some, T, map, refl, ap, sym, subst, ◌∙◌}
use Rattle.std.specs.Prelude.{Vec}
use Rattle.std.specs.declared.alloc.Global.{Global}
use Rattle.std.specs.declared.cmp.Ordering.{Ordering}
use Rattle.std.specs.declared.cmp.Ordering.TheVariants.{Less, Equal, Greater}
use Rattle.std.specs.List.{AllByRecursion, IsDistinct}
use Rattle.std.specs.List.Sorted.{IsPermutation, IsSorted, IsStrictlySortedBy}
use Rattle.std.specs.Cmp.{eq_by_cmp_equiv}
use Rattle.std.specs.Ordering.{nat_cmp, eq_by_cmp, is_lt, is_eq, ordering_reverse}
use Rattle.std.proofs.lemmas.List.{length-map, get_or-map}
use Rattle.std.proofs.lemmas.List.Sorted.{IsPermutation-map, list_any-IsPermutation}
use Rattle.std.proofs.lemmas.Map.Keys.{sorted_from_all_adjacent, apart_from_distinct, IsDistinct-IsPermutation}
use Rattle.std.specs.Cmp.Lexicographic.{slice_cmp}
use Rattle.std.specs.FinMap.{find, is_sorted, entries, entries_sorted, get, keys, from_sorted, from_entries, len, remove, len-remove}
use Rattle.std.specs.FinMap.{get-remove, get-empty, empty_of_len, get-entries, get-from_entries, get-from_sorted, entries-from_sorted}
use Rattle.std.specs.FinMap.{same_map, contains_key}
use Rattle.std.specs.FinMap.Entries.{below_all}
use Rattle.std.proofs.lemmas.Cmp.{nat_list_cmp_total}
use Rattle.std.proofs.lemmas.Map.Lookups.{exact_bytes}
use Rattle.bpf_shared.specs.Store.{KeyMap}
use Rattle.bpf_shared.specs.KeyOrder.{in_order, is_among, alone, AreDistinct}

abbrev R : List ℕ → List ℕ → Ordering
R = slice_cmp nat_cmp

-- keys alone
abbrev bare : List (List ℕ × ℕ) → List (List ℕ × ℕ)
bare = map (λ (e : List ℕ × ℕ). (e.0, 0))

abbrev names : List (List ℕ × ℕ) → List (List ℕ)
names = map (λ (e : List ℕ × ℕ). e.0)

bare_below : (k : List ℕ) (es : List (List ℕ × ℕ)) → below_all R k (bare es) ≡ below_all R k es
bare_below k [] = refl
bare_below k (e ∷ es) = ap (λ (b : Bool). is_lt (R k e.0) && b) (bare_below k es)

bare_sorted : (es : List (List ℕ × ℕ)) → is_sorted R (bare es) ≡ is_sorted R es
bare_sorted [] = refl
bare_sorted (e ∷ es) = ap (λ (b : Bool). b && is_sorted R (bare es)) (bare_below e.0 es) ∙ ap (λ (b : Bool). below_all R e.0 es && b) (bare_sorted es)

bare_names : (es : List (List ℕ × ℕ)) → names (bare es) ≡ names es
bare_names [] = refl
bare_names (e ∷ es) = ap (λ (ks : List (List ℕ)). e.0 ∷ ks) (bare_names es)

abbrev pick : Bool → Option ℕ
pick b = cond b (Some 0) None

bare_find : (q : List ℕ) (es : List (List ℕ × ℕ)) → find R q (bare es) ≡ pick (is_some (find R q es))
bare_find q [] = refl
bare_find q (e ∷ es) = go (eq_by_cmp R q e.0) (bare_find q es)
  where
    go : (b : Bool) → find R q (bare es) ≡ pick (is_some (find R q es)) → cond b (Some 0) (find R q (bare es)) ≡ pick
        (is_some (cond b (Some e.1) (find R q es)))
    go true rest = refl
    go false rest = rest

abbrev stripped : KeyMap → KeyMap
stripped m = from_sorted {R = R} (bare (entries m))

still_sorted : (m : KeyMap) → T (is_sorted R (bare (entries m)))
still_sorted m = subst T (sym (bare_sorted (entries m))) (entries_sorted m)

stripped_get : (m : KeyMap) (q : List ℕ) → get (stripped m) q ≡ pick (contains_key m q)
stripped_get m q = get-from_sorted R (bare (entries m)) q (still_sorted m) ∙
    (bare_find q (entries m) ∙ ap (λ (o : Option ℕ). pick (is_some o)) (sym (get-entries m q)))

-- two maps with the same keys have them in one order
pub same_keys : (m n : KeyMap) → ((q : List ℕ) → contains_key m q ≡ contains_key n q) → keys m ≡ keys n
same_keys m n is =
    let one : stripped m ≡ stripped n = same_map nat_list_cmp_total exact_bytes (stripped m) (stripped n)
    (λ q. stripped_get m q ∙ (ap pick (is q) ∙ sym (stripped_get n q))) in
    let bares : bare (entries m) ≡ bare (entries n) = sym (entries-from_sorted R (bare (entries m)) (still_sorted m)) ∙
    (ap entries one ∙ entries-from_sorted R (bare (entries n)) (still_sorted n)) in
    sym (bare_names (entries m)) ∙ (ap names bares ∙ bare_names (entries n))

-- ---- any list of keys
zipped : (ks : List (List ℕ)) → names (map alone ks) ≡ ks
zipped [] = refl
zipped (k ∷ ks) = ap (λ (xs : List (List ℕ)). k ∷ xs) (zipped ks)

found_among : (q : List ℕ) (ks : List (List ℕ)) → is_some (find R q (map alone ks)) ≡ is_among q ks
found_among q [] = refl
found_among q (k ∷ ks) = go (eq_by_cmp R q k) (found_among q ks)
  where
    go : (b : Bool) → is_some (find R q (map alone ks)) ≡ is_among q ks → is_some (cond b (Some 0) (find R q (map alone ks))) ≡ (b || is_among q ks)
    go true rest = refl
    go false rest = rest

made_has : (ks : List (List ℕ)) (q : List ℕ) → contains_key (from_entries {R = R} (map alone ks)) q ≡ is_among q ks
made_has ks q = ap is_some (get-from_entries nat_list_cmp_total (map alone ks) q) ∙ found_among q ks

-- a list that has a map's keys and no others is, in order, the map's keys
pub in_order_is : (m : KeyMap) (ks : List (List ℕ)) → ((q : List ℕ) → contains_key m q ≡ is_among q ks) → in_order ks ≡ keys m
in_order_is m ks is = same_keys (from_entries {R = R} (map alone ks)) m (λ q. made_has ks q ∙ sym (is q))

-- two lists with the same keys are one list in order
pub in_order_same : (ks js : List (List ℕ)) → ((q : List ℕ) → is_among q ks ≡ is_among q js) → in_order ks ≡ in_order js
in_order_same ks js is = in_order_is (from_entries {R = R} (map alone js)) ks (λ q. made_has js q ∙ sym (is q))

-- ---- a list that was sorted
-- what strictly rises is a map's keys already
strict_below : (k : List ℕ) (ks : List (List ℕ)) → AllByRecursion (λ y. R k y ≡ Less) ks → T (below_all R k (map alone ks))
strict_below k [] all = tt
strict_below k (x ∷ ks) all = rw all.0 (strict_below k ks all.1)

strict_sorted : (ks : List (List ℕ)) → IsStrictlySortedBy R ks → T (is_sorted R (map alone ks))
unfolding IsStrictlySortedBy
strict_sorted [] s = tt
strict_sorted (k ∷ ks) s = both (below_all R k (map alone ks)) (is_sorted R (map alone ks)) (strict_below k ks s.0) (strict_sorted ks s.1)
  where
    both : (a b : Bool) → T a → T b → T (a && b)
    both true b p q = q
    both false b p q = p

itself : (ks : List (List ℕ)) → IsStrictlySortedBy R ks → in_order ks ≡ ks
itself ks s =
    let there : entries (from_sorted {R = R} (map alone ks)) ≡ map alone ks = entries-from_sorted R (map alone ks) (strict_sorted ks s) in
    in_order_is (from_sorted {R = R} (map alone ks)) ks (λ q. ap is_some (get-from_sorted R (map alone ks) q (strict_sorted ks s)) ∙ found_among q ks)
    ∙ (ap names there ∙ zipped ks)

rises : (x y : List ℕ) (o : Ordering) → R x y ≡ o → eq_by_cmp R x y ≡ false → is_lt (R y x) ≡ false → R x y ≡ Less
rises x y Less is apart above = is
rises x y Equal is apart above = absurd (true≢false (sym (ap is_eq is) ∙ apart))
rises x y Greater is apart above = absurd (true≢false (sym (ap is_lt (nat_list_cmp_total.antisymm y x ∙ ap ordering_reverse is)) ∙ above))

strict : (ks : List (List ℕ)) → IsSorted R ks → AreDistinct ks → IsStrictlySortedBy R ks
strict ks sorted apart = sorted_from_all_adjacent nat_list_cmp_total ks [] (λ k l.
    rises (get_or ks k []) (get_or ks (k + 1) []) (R (get_or ks k []) (get_or ks (k + 1) [])) refl
    (apart_from_distinct (eq_by_cmp R) ks k (k + 1) [] apart (omega arith) l) (sorted k [] (omega arith) l))

-- a sort puts distinct keys in order
pub sorted_is : (ks js : List (List ℕ)) → IsPermutation ks js → IsSorted R js → AreDistinct ks → in_order ks ≡ js
sorted_is ks js moved sorted apart =
    in_order_same ks js (λ q. list_any-IsPermutation (eq_by_cmp R q) ks js moved)
    ∙ itself js (strict js sorted (IsDistinct-IsPermutation (eq_by_cmp R) (eq_by_cmp_equiv nat_list_cmp_total).symm ks js moved apart))

-- the same of vectors
abbrev bytes_of : Vec ℕ Global → List ℕ
bytes_of v = v.items

sorted_vectors : (vs : List (Vec ℕ Global)) → IsSorted (λ x y. R x.items y.items) vs → IsSorted R (map bytes_of vs)
sorted_vectors [] sorted k d low high = absurd (omega arith)
sorted_vectors (v ∷ vs) sorted k d low high =
    let long : length (map bytes_of (v ∷ vs)) ≡ length (v ∷ vs) = length-map (v ∷ vs) bytes_of in
    ap (λ (x : List ℕ). is_lt (R x (get_or (map bytes_of (v ∷ vs)) k d))) (get_or-map bytes_of (v ∷ vs) (k + 1) v d (omega arith))
    ∙ (ap (λ (x : List ℕ). is_lt (R (get_or (v ∷ vs) (k + 1) v).items x)) (get_or-map bytes_of (v ∷ vs) k v d (omega arith)) ∙ sorted k v low (omega arith))

pub sorted_list : (vs ws : List (Vec ℕ Global)) → IsPermutation vs ws → IsSorted (λ x y. R x.items y.items) ws → AreDistinct
    (map bytes_of vs) → in_order (map bytes_of vs) ≡ map bytes_of ws
sorted_list vs ws moved sorted apart = sorted_is (map bytes_of vs) (map bytes_of ws) (IsPermutation-map bytes_of vs ws moved) (sorted_vectors ws sorted) apart

-- ---- how many there may be
-- distinct keys of a map are no more than it has
pub distinct_fits : (ks : List (List ℕ)) (m : KeyMap) → AreDistinct ks → AllByRecursion (λ k. contains_key m k ≡ true) ks → length ks ≤ len m
unfolding IsDistinct
distinct_fits [] m apart there = omega arith
distinct_fits (k ∷ ks) m apart there =
    let gone = len-remove nat_list_cmp_total m k in
    let less : len (remove m k) ≡ len m - 1 = gone ∙ ap (λ (b : Bool). cond b (len m - 1) (len m)) there.0 in
    let some : 1 ≤ len m = some_there there.0 in
    let rest = distinct_fits ks (remove m k) apart.1 (still ks apart.0 there.1) in
    omega arith
  where
    some_there : contains_key m k ≡ true → 1 ≤ len m
    some_there is = go (len m) refl
      where
        go : (n : ℕ) → len m ≡ n → 1 ≤ len m
        go zero none = absurd (true≢false (sym is ∙ (ap (λ (z : KeyMap). contains_key z k) (empty_of_len m none) ∙ ap is_some (get-empty R k))))
        go (suc n) e = omega arith

    still : (js : List (List ℕ)) → AllByRecursion (λ y. eq_by_cmp R k y ≡ false) js → AllByRecursion (λ j. contains_key m j ≡ true) js →
        AllByRecursion (λ j. contains_key (remove m k) j ≡ true) js
    still [] a t = tt
    still (j ∷ js) a t = (
      ap is_some (get-remove nat_list_cmp_total m k j ∙ ap (λ (b : Bool). cond b None (get m j)) ((eq_by_cmp_equiv nat_list_cmp_total).symm j k ∙ a.0)) ∙ t.0,
      still js a.1 t.1,
    )
