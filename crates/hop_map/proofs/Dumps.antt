-- The pairs of a map, as the words of a store at rest have them.
use Rattle.std.proofs.Common.{◌≡◌, ℕ, zero, suc, ◌+◌, ◌-◌, ◌<◌, ◌≤◌, nat_lt, if◌then◌else◌, ◌==◌, Bool, true, false, ◌&&◌, List, [], ◌∷◌}
use Rattle.std.proofs.Common.{◌++◌, Option, Some, None, inl, inr, length, get_or, refl, ap, sym, subst, ◌∙◌, arith, ⊎_elim, append_assoc}
use Rattle.std.proofs.Common.{Vec}
use Rattle.std.proofs.lemmas.List.{get_or-map, length-map, append-nil}
use Rattle.std.proofs.lemmas.Map.Keys.{Less-from_sorted}
use Rattle.std.proofs.lemmas.Map.Lookups.{exact_bytes}
use Rattle.std.specs.declared.alloc.Global.{Global}
use Rattle.std.specs.declared.cmp.Ordering.{Ordering}
use Rattle.std.specs.declared.cmp.Ordering.TheVariants.{Less, Equal, Greater}
use Rattle.std.specs.Ordering.{nat_cmp, match_ordering}
use Rattle.std.specs.Cmp.Lexicographic.{slice_cmp}
use Rattle.std.specs.BTreeMap.{insert_entry}
use Rattle.std.specs.FinMap.{get}
use Rattle.std.specs.List.{AllByRecursion}
use Rattle.std.specs.List.Sorted.{IsStrictlySortedBy}
use Rattle.std.specs.Map.{keys_of}
use Rattle.std.proofs.lemmas.Bool.{cases_lt, lt-ltb, and_from}
use Rattle.bpf_base.specs.Bytes.{low_bytes}
use Rattle.bpf_shared.specs.declared.events.Entry.{Entry}
use Rattle.bpf_shared.specs.Store.{Plain, Value, Finds, as_made}
use Rattle.bpf_shared.specs.History.{Legal}
use Rattle.bpf_shared.specs.Listing.{Pair, pair_at, pair_of, IsListing, listed}
use Rattle.hop_layout.specs.Home.{home_of}
use Rattle.hop_layout.specs.Layout.{depth, power, segments}
use Rattle.hop_layout.specs.Births.{is_born}
use Rattle.hop_layout.proofs.Births.{low_is, high_is, ge_is, power_mono, born_small, each_has_one_owner}
use Rattle.hop_layout.specs.Words.{bytes_of_words}
use Rattle.hop_words.specs.Content.{IsOnList, IsShare, item}
use Rattle.hop_words.specs.Depths.{IsBorn, home_by}
use Rattle.hop_words.specs.Ghost.{shape_at, HasElement, Carries, Each}
use Rattle.hop_words.specs.Rule.{numbered}
use Rattle.hop_words.specs.Seats.{view as whole_view, KeepsWholeHistory}
use Rattle.hop_words.specs.Closing.{Ending}
use Rattle.hop_seg.specs.Words.{Words as SegWords}
use Rattle.hop_seg.specs.Segment.{Sound as SegSound}
use Rattle.hop_seg.specs.Content.{IsInOverflow}
use Rattle.hop_seg.proofs.Walking.{Counted}
use Rattle.hop_map.specs.Private.LockedSegment.{segment_view}
use Rattle.hop_map.specs.Private.Dumping.{words_in, key_in, IsReached, IsKeyAmong, IsPairFound, AreFound, AddsPairs}
use Rattle.hop_map.specs.Dumping.{born_below, rest_depths, IsBornHere, IsLast}
use Rattle.hop_map.proofs.Keys.{spells}
use Rattle.hop_map.proofs.Bridge.{seg_sound, reached_of, chain_of, among_of}

-- ---- words and their bytes
-- one word more
spelled_suc : (n : ℕ) (f : ℕ → ℕ) → bytes_of_words (suc n) f ≡ bytes_of_words n f ++ low_bytes 8 (f n)
spelled_suc zero f = append-nil (low_bytes 8 (f 0))
spelled_suc (suc n) f =
    ap (λ (bs : List ℕ). low_bytes 8 (f 0) ++ bs) (spelled_suc n (λ k. f (k + 1)) ∙ ap
    (λ (k : ℕ). bytes_of_words n (λ i. f (i + 1)) ++ low_bytes 8 (f k)) (let e : n + 1 ≡ suc n = omega arith in e))
    ∙ sym (append_assoc (low_bytes 8 (f 0)) (bytes_of_words n (λ i. f (i + 1))) (low_bytes 8 (f (suc n))))

pub spelled_more : (n : ℕ) (f : ℕ → ℕ) → bytes_of_words (n + 1) f ≡ bytes_of_words n f ++ low_bytes 8 (f n)
spelled_more n f = ap (λ (k : ℕ). bytes_of_words k f) (let e : n + 1 ≡ suc n = omega arith in e) ∙ spelled_suc n f

-- ---- one pair more
abbrev pub by_key : Vec ℕ Global → Vec ℕ Global → Ordering
by_key x y = slice_cmp nat_cmp x.items y.items

over : (o : Ordering) (xs ys zs : List (Vec ℕ Global × Vec ℕ Global)) → listed (match_ordering o xs ys zs) ≡ match_ordering o (listed xs)
    (listed ys) (listed zs)
over Less xs ys zs = refl
over Equal xs ys zs = refl
over Greater xs ys zs = refl

pub listed_insert : (es : List (Vec ℕ Global × Vec ℕ Global)) (k v : Vec ℕ Global) → listed (insert_entry by_key es k v) ≡ insert_entry
    (slice_cmp nat_cmp) (listed es) k.items v.items
listed_insert [] k v = refl
listed_insert (e ∷ es) k v =
    over (by_key k e.0) ((k, v) ∷ e ∷ es) ((e.0, v) ∷ es) (e ∷ insert_entry by_key es k v)
    ∙ ap (λ (z : List Pair). match_ordering (by_key k e.0) ((k.items, v.items) ∷ pair_of e ∷ listed es) ((e.0.items, v.items) ∷ listed es)
    (pair_of e ∷ z)) (listed_insert es k v)

each_insert : (P : Pair → Type 0) (k v : List ℕ) → P (k, v) → (ps : List Pair) → Each P ps → Each P (insert_entry (slice_cmp nat_cmp) ps k v)
each_insert P k v p [] all = (p, tt)
each_insert P k v p (q ∷ qs) all = by (slice_cmp nat_cmp k q.0) refl (each_insert P k v p qs all.1)
  where
    by : (o : Ordering) → slice_cmp nat_cmp k q.0 ≡ o → Each P (insert_entry (slice_cmp nat_cmp) qs k v)
        → Each P (match_ordering o ((k, v) ∷ q ∷ qs) ((q.0, v) ∷ qs) (q ∷ insert_entry (slice_cmp nat_cmp) qs k v))
    by Less is more = (p, all)
    by Equal is more = (subst (λ (z : List ℕ). P (z, v)) (exact_bytes k q.0 is) p, all.1)
    by Greater is more = (all.0, more)

new_key : (k v : List ℕ) (ps : List Pair) → IsKeyAmong k (insert_entry (slice_cmp nat_cmp) ps k v)
new_key k v [] = inl refl
new_key k v (q ∷ qs) = by (slice_cmp nat_cmp k q.0) refl (new_key k v qs)
  where
    by : (o : Ordering) → slice_cmp nat_cmp k q.0 ≡ o → IsKeyAmong k (insert_entry (slice_cmp nat_cmp) qs k v)
        → IsKeyAmong k (match_ordering o ((k, v) ∷ q ∷ qs) ((q.0, v) ∷ qs) (q ∷ insert_entry (slice_cmp nat_cmp) qs k v))
    by Less is more = inl refl
    by Equal is more = inl (sym (exact_bytes k q.0 is))
    by Greater is more = inr more

old_key : (key k v : List ℕ) (ps : List Pair) → IsKeyAmong key ps → IsKeyAmong key (insert_entry (slice_cmp nat_cmp) ps k v)
old_key key k v [] h = absurd h
old_key key k v (q ∷ qs) h = by (slice_cmp nat_cmp k q.0) (λ t. old_key key k v qs t)
  where
    by : (o : Ordering) → (IsKeyAmong key qs → IsKeyAmong key (insert_entry (slice_cmp nat_cmp) qs k v))
        → IsKeyAmong key (match_ordering o ((k, v) ∷ q ∷ qs) ((q.0, v) ∷ qs) (q ∷ insert_entry (slice_cmp nat_cmp) qs k v))
    by Less more = inr h
    by Equal more = ⊎_elim (λ (e : q.0 ≡ key). inl e) (λ (t : IsKeyAmong key qs). inr t) h
    by Greater more = ⊎_elim (λ (e : q.0 ≡ key). inl e) (λ (t : IsKeyAmong key qs). inr (more t)) h

module _ (e : Ending) (m : ℕ) where
  pub adds_none : (ps : List Pair) → AddsPairs e m ps ps
  adds_none ps = record { found = λ all. all; kept = λ key h. h }

  pub adds_on : (ps qs rs : List Pair) → AddsPairs e m ps qs → AddsPairs e m qs rs → AddsPairs e m ps rs
  adds_on ps qs rs p q = record { found = λ all. q.found (p.found all); kept = λ key h. q.kept key (p.kept key h) }

  module _ (es fs : List (Vec ℕ Global × Vec ℕ Global)) (k v : Vec ℕ Global) (is : fs ≡ insert_entry by_key es k v) where
    same : listed fs ≡ insert_entry (slice_cmp nat_cmp) (listed es) k.items v.items
    same = ap (λ (xs : List (Vec ℕ Global × Vec ℕ Global)). listed xs) is ∙ listed_insert es k v

    pub adds_pair : IsPairFound e m (k.items, v.items) → AddsPairs e m (listed es) (listed fs)
    adds_pair found = record {
      found = λ all. subst (AreFound e m) (sym same) (each_insert (IsPairFound e m) k.items v.items found (listed es) all);
      kept = λ key h. subst (IsKeyAmong key) (sym same) (old_key key k.items v.items (listed es) h);
    }

    pub adds_key : IsKeyAmong k.items (listed fs)
    adds_key = subst (IsKeyAmong k.items) (sym same) (new_key k.items v.items (listed es))

-- ---- pairs by their places
each_at : (P : Pair → Type 0) (ps : List Pair) → Each P ps → (k : ℕ) → k < length ps → P (pair_at ps k)
each_at P [] all k l = absurd (omega arith)
each_at P (p ∷ ps) all zero l = all.0
each_at P (p ∷ ps) all (suc k) l = each_at P ps all.1 k (omega arith)

has_at : (key : List ℕ) (ps : List Pair) → IsKeyAmong key ps → (k : ℕ) × (k < length ps) × ((pair_at ps k).0 ≡ key)
has_at key [] h = absurd h
has_at key (p ∷ ps) (inl e) = (0, (omega arith), e)
has_at key (p ∷ ps) (inr h) = let t = has_at key ps h in (suc t.0, (let l = t.1 in omega arith), t.2)

below : (k : Vec ℕ Global) (es : List (Vec ℕ Global × Vec ℕ Global)) → AllByRecursion (λ y. by_key k y ≡ Less) (keys_of es) → AllByRecursion
    (λ y. slice_cmp nat_cmp k.items y ≡ Less) (keys_of (listed es))
below k [] all = tt
below k (e ∷ es) all = (all.0, below k es all.1)

pub sorted_keys : (es : List (Vec ℕ Global × Vec ℕ Global)) → IsStrictlySortedBy by_key (keys_of es) → IsStrictlySortedBy
    (slice_cmp nat_cmp) (keys_of (listed es))
unfolding IsStrictlySortedBy
sorted_keys [] s = tt
sorted_keys (e ∷ es) s = (below e.0 es s.0, sorted_keys es s.1)

key_at : (ps : List Pair) (k : ℕ) → k < length ps → get_or (keys_of ps) k [] ≡ (pair_at ps k).0
key_at ps k l = get_or-map (λ (p : Pair). p.0) ps k ([], []) [] l

-- ---- a store at rest
pub last_of : (e : Ending) → KeepsWholeHistory e.about (whole_view [] e.history) e.words → (last : Plain) × IsLast e last × Legal
    (as_made e.about.shape) e.history last
last_of e w = (w.ghost.last, (w, refl), subst (λ (log : List Entry). Legal (as_made e.about.shape) log w.ghost.last) (sym w.whole) w.rule.logged.legal)

-- depths that agree on what one of them bears bear the same
none_and : (b : Bool) → (b && false) ≡ false
none_and true = refl
none_and false = refl

high_same : (d d' : ℕ → ℕ) (n p : ℕ) (b : Bool) → is_born d n p ≡ b → is_born d' n p ≡ is_born d n p → (is_born d n p ≡ true → d' p ≡ d p) →
    (nat_lt n (d' p) && is_born d' n p) ≡ (nat_lt n (d p) && is_born d n p)
high_same d d' n p true is births depths = (λ j. nat_lt n (depths is j) && births j)
high_same d d' n p false is births depths = ap (λ (b : Bool). nat_lt n (d' p) && b) (births ∙ is) ∙
    (none_and (nat_lt n (d' p)) ∙ sym (ap (λ (b : Bool). nat_lt n (d p) && b) is ∙ none_and (nat_lt n (d p))))

births_same : (d d' : ℕ → ℕ) (n s : ℕ) → ((t : ℕ) → is_born d n t ≡ true → d' t ≡ d t) → is_born d' n s ≡ is_born d n s
births_same d d' zero s agree = refl
births_same d d' (suc n) s agree =
    let lower : (t : ℕ) → is_born d n t ≡ true → d' t ≡ d t = (λ t b. agree t (low_is d n t (born_small d n t b) ∙ b)) in
    ⊎_elim
    (λ (l : s < power n). low_is d' n s l ∙ (births_same d d' n s lower ∙ sym (low_is d n s l)))
    (λ (g : power n ≤ s). high_is d' n s g ∙ (high_same d d' n (s - power n) (is_born d n (s - power n)) refl
    (births_same d d' n (s - power n) lower) (lower (s - power n)) ∙ sym (high_is d n s g)))
    (cases_lt s (power n))

-- a segment's birth, a bit at a time
pub bit_low : (d : ℕ → ℕ) (n s : ℕ) (o : Bool) → is_born d (suc n) s ≡ o → s < power n → is_born d n s ≡ o
bit_low d n s o is l = sym (low_is d n s l) ∙ is

pub bit_high : (d : ℕ → ℕ) (n s : ℕ) (o : Bool) → is_born d (suc n) s ≡ o → power n ≤ s → n < d (s - power n) → is_born d n (s - power n) ≡ o
bit_high d n s o is g deep = sym (high_is d n s g ∙ ap (λ (b : Bool). b && is_born d n (s - power n)) (lt-ltb n (d (s - power n)) deep)) ∙ is

pub bit_none : (d : ℕ → ℕ) (n s : ℕ) → power n ≤ s → d (s - power n) ≤ n → is_born d (suc n) s ≡ false
bit_none d n s g flat = high_is d n s g ∙ ap (λ (b : Bool). b && is_born d n (s - power n)) (ge_is n (d (s - power n)) flat)

module _ (e : Ending) (w : KeepsWholeHistory e.about (whole_view [] e.history) e.words) (m : ℕ) where
  -- the stamps as they are bear the segments that are born
  births_here : m < length e.about.shape.maps → (s : ℕ) → is_born (rest_depths e m) (depth (shape_at e.about m)) s ≡ is_born
      (w.ghost.depths m) (depth (shape_at e.about m)) s
  births_here there s = births_same (w.ghost.depths m) (rest_depths e m) (depth (shape_at e.about m)) s
      (λ t b. w.rule.deep.stamped m t (there, born_small (w.ghost.depths m) (depth (shape_at e.about m)) t b, b))

  born_there : (s : ℕ) → IsBornHere e m s → IsBorn e.about w.ghost.depths m s
  born_there s b = (b.0, b.1, sym (births_here b.0 s) ∙ b.2)

  -- the words show a born segment's share
  shows_here : (s : ℕ) → IsBornHere e m s → IsShare e.about.seed (shape_at e.about m) (home_by e.about m (rest_depths e m s)) (words_in e) m
      s (w.ghost.linked m)
  shows_here s b = subst (λ (i : ℕ). IsShare e.about.seed (shape_at e.about m) (home_by e.about m i) (words_in e) m s (w.ghost.linked m))
      (sym (w.rule.deep.stamped m s (born_there s b))) (w.shows m s (born_there s b))

  pub reached_inside : (s i : ℕ) → IsBornHere e m s → IsReached e m s i → HasElement e.about m i
  reached_inside s i inside r = let q = (shows_here s inside).each i r in (w.rule.linked.within m q.0 i q.3).0

  -- in a map that doesn't grow each segment is born
  module _ (there : m < length e.about.shape.maps) (fixed : (shape_at e.about m).grow ≡ false) where
    born_fixed : (n s : ℕ) → s < power n → n ≤ depth (shape_at e.about m) → is_born (w.ghost.depths m) n s ≡ true
    born_fixed zero s few le = let is : s ≡ 0 = omega arith in ap (λ (i : ℕ). i == 0) is
    born_fixed (suc n) s few le = ⊎_elim
        (λ (low : s < power n). low_is (w.ghost.depths m) n s low ∙ born_fixed n s low (omega arith))
        (λ (high : power n ≤ s).
        let up = power_mono n (depth (shape_at e.about m)) (omega arith) in
        let z = w.rule.deep.whole m (s - power n) there (omega arith) fixed in
        high_is (w.ghost.depths m) n s high ∙ and_from _ _ (lt-ltb n (w.ghost.depths m (s - power n)) (omega arith))
        (born_fixed n (s - power n) (omega arith) (omega arith)))
        (cases_lt s (power n))

    born_all : (n : ℕ) → n ≤ segments (shape_at e.about m) → born_below e m n ≡ n
    born_all zero le = refl
    born_all (suc n) le =
        let born : is_born (rest_depths e m) (depth (shape_at e.about m)) n ≡ true = births_here there n ∙ born_fixed
        (depth (shape_at e.about m)) n (omega arith) (omega arith) in
        let more = born_all n (omega arith) in
        ap (λ (b : Bool). if b then born_below e m n + 1 else born_below e m n) born ∙ omega arith

    pub born_whole : born_below e m (segments (shape_at e.about m)) ≡ segments (shape_at e.about m)
    born_whole = born_all (segments (shape_at e.about m)) (omega arith)

  -- the born segment that a key is at home in
  home_inside : m < length e.about.shape.maps → (key : List ℕ) → (s : ℕ) × IsBornHere e m s × (home_by e.about m (rest_depths e m s) key ≡ s)
  home_inside there key =
      let o = each_has_one_owner (w.ghost.depths m) (depth (shape_at e.about m)) (home_of key e.about.seed (shape_at e.about m).mask)
      (w.rule.deep.sound m there) in
      let small = born_small (w.ghost.depths m) (depth (shape_at e.about m)) o.0 o.1.born in (
        o.0,
        (there, small, births_here there o.0 ∙ o.1.born),
        ap (λ (i : ℕ). home_by e.about m i key)
            (w.rule.deep.stamped m o.0 (there, small, o.1.born)) ∙ o.1.here,
      )

  -- the element that a found key leads to
  leads : (key : List ℕ) (v : ℕ) → Finds w.ghost.last m key v → (i : ℕ) × (w.ghost.linked m key ≡ Some i)
  leads key v is = go (w.ghost.linked m key) refl
    where
      go : (o : Option ℕ) → w.ghost.linked m key ≡ o → (i : ℕ) × (w.ghost.linked m key ≡ Some i)
      go (Some i) at = (i, at)
      go None at = absurd (let z : Some v ≡ None = sym is ∙ (w.rule.keyed.leads m key ∙ ap (numbered (w.ghost.number m)) at) in cc)

  module _ (ps : List Pair) (found : AreFound e m ps) (keys : (s i : ℕ) → IsBornHere e m s → IsReached e m s i → IsKeyAmong (key_in e m i) ps)
      (sorted : IsStrictlySortedBy (slice_cmp nat_cmp) (keys_of ps)) where
    value_there : (k : ℕ) → k < length ps → (v : ℕ) × Finds w.ghost.last m (pair_at ps k).0 v × ((pair_at ps k).1 ≡ (w.ghost.last.value v).bytes)
    value_there k l =
        let f = each_at (IsPairFound e m) ps found k l in
        let i = f.1 in
        let q = (shows_here f.0 f.2).each i f.3 in
        let key : (pair_at ps k).0 ≡ q.0 = ap (λ (p : Pair). p.0) f.4 ∙ spells e.about m (words_in e) i q.0 q.1 in
        let linked = w.rule.linked.within m q.0 i q.3 in
        let carries : Carries (w.ghost.holder m i) = subst Carries (sym linked.1) tt in
        let lies = w.rule.valued.lies m i linked.0 carries in (
          w.ghost.number m i,
          ap (λ (x : List ℕ). get (w.ghost.last.maps m) x) key ∙ (w.rule.keyed.leads m q.0 ∙ ap (numbered (w.ghost.number m)) q.3),
          ap (λ (p : Pair). p.1) f.4 ∙ sym (ap (λ (x : Value). x.bytes) lies),
        )

    key_there : (key : List ℕ) (v : ℕ) → Finds w.ghost.last m key v → (k : ℕ) × (k < length ps) × ((pair_at ps k).0 ≡ key)
    key_there key v is =
        let i = leads key v is in
        let within = w.rule.linked.within m key i.0 i.1 in
        let inside = home_inside within.0.0 key in
        let here = (shows_here inside.0 inside.1).all key i.0 i.1 inside.2 in
        has_at key ps (subst (λ (x : List ℕ). IsKeyAmong x ps) (spells e.about m (words_in e) i.0 key here.1) (keys inside.0 i.0 inside.1 here.0))

    pub listing : IsListing w.ghost.last m ps
    listing = record {
      sorted = λ j k l b.
          (let before : j < length ps = omega arith in
          let count : length (keys_of ps) ≡ length ps = length-map ps (λ (p : Pair). p.0) in
          ap (λ (x : List ℕ). slice_cmp nat_cmp x (pair_at ps k).0) (sym (key_at ps j before))
          ∙ (ap (λ (x : List ℕ). slice_cmp nat_cmp (get_or (keys_of ps) j []) x) (sym (key_at ps k b)) ∙ Less-from_sorted
          (slice_cmp nat_cmp) (keys_of ps) j k [] sorted l (omega arith)));
      each = value_there;
      all = key_there;
    }

  pub no_listing : length e.about.shape.maps ≤ m → IsListing w.ghost.last m []
  no_listing none = record {
    sorted = λ j k l b. absurd (omega arith);
    each = λ k b. absurd (omega arith);
    all = λ key v is. (let i = leads key v is in let within = (w.rule.linked.within m key i.0 i.1).0.0 in absurd (omega arith));
  }

  -- ---- the overflow list
  module _ (s : ℕ) (inside : IsBornHere e m s) where
    abbrev pub seen : SegWords
    seen = segment_view e.about m s (rest_depths e m s) (λ i. true) (words_in e)

    pub sound : SegSound seen
    sound = seg_sound e.about m s (rest_depths e m s) (λ i. true) (words_in e) (w.ghost.linked m) (shows_here s inside)
        (λ key i is home. ((w.rule.linked.within m key i is).0.1, refl))

    pub listed_reached : (i : ℕ) → IsInOverflow seen i → IsReached e m s i
    listed_reached i l = reached_of e.about m s (rest_depths e m s) (λ i. true) (words_in e) i (inr l)

    pub on_list : (i : ℕ) → IsOnList (words_in e) m s i → IsInOverflow seen i
    on_list i h = (h.0, chain_of ((words_in e).link m) ((words_in e).head m s) h.0 h.1, among_of i h.0 h.2)

    -- the elements at places
    pub at_place : (p i : ℕ) → p < 64 → item ((words_in e).slot m s p) ≡ Some i → IsReached e m s i
    at_place p i l is = let h = (shows_here s inside).sound.hopped p i l is in inl (h.0, h.1, h.2)

-- ---- a walk whose goal gets weaker
pub walk_weaker : (w : SegWords) (P Q : ℕ → Type 0) (before at : Option ℕ) (passed : ℕ) → ((i : ℕ) → P i → Q i) → Counted w P before at
    passed → Counted w Q before at passed
walk_weaker w P Q before at passed f k = record {
  walk = record {
    rest = k.walk.rest;
    chain = k.walk.chain;
    differ = k.walk.differ;
    listed = k.walk.listed;
    passed = λ i l. elim (k.walk.passed i l) [ inl here ↦ inl here | inr p ↦ inr (f i p) ];
    link = k.walk.link;
  };
  short = k.short;
}
