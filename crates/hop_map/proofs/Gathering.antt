-- A listing on its way: one segment more.
use Rattle.std.proofs.Common.{◌≡◌, ◌≢◌, ℕ, suc, ◌+◌, ◌%◌, ◌<◌, ◌≤◌, Bool, true, false, true≢false, ◌||◌, List, [], ◌∷◌, ◌++◌, length, refl}
use Rattle.std.proofs.Common.{ap, sym, subst, ◌∙◌, arith, inl, inr, ⊎_elim}
use Rattle.std.specs.List.{AllByRecursion, IsDistinct}
use Rattle.std.specs.Ordering.{nat_cmp, eq_by_cmp, is_eq}
use Rattle.std.specs.declared.cmp.Ordering.{Ordering}
use Rattle.std.specs.declared.cmp.Ordering.TheVariants.{Less, Equal, Greater}
use Rattle.std.specs.Cmp.Lexicographic.{slice_cmp}
use Rattle.std.proofs.lemmas.Map.Lookups.{exact_bytes}
use Rattle.std.proofs.lemmas.Nat.{mod_below}
use Rattle.std.proofs.Math.Nat.{mod-le}
use Rattle.bpf_shared.specs.declared.events.Event.TheVariants.{Keys}
use Rattle.bpf_shared.specs.KeyOrder.{is_among, AreDistinct}
use Rattle.hop_layout.specs.declared.about.About.{About}
use Rattle.hop_words.specs.declared.known.Known.{Known}
use Rattle.hop_words.specs.declared.known.Lock.{Lock}
use Rattle.hop_layout.specs.Home.{home_of}
use Rattle.hop_layout.specs.Layout.{power, depth, segments}
use Rattle.hop_layout.proofs.Births.{mod_small, mod_low, some_power}
use Rattle.hop_words.specs.Depths.{stamp_depth, home_by}
use Rattle.hop_words.specs.Ghost.{shape_at, IsHomeIn, IsSegment, Each}
use Rattle.hop_words.specs.Kinds.{SaysDepth, LocksSegment, locking, ShowsIn, IsShownIn, AreElsewhere, TakesEffect}
use Rattle.std.specs.Prelude.{slice_index_or}
use Rattle.std.proofs.lemmas.Bool.{false_from_ne_true}
use Rattle.hop_words.specs.Locking.{lock_of, other_locks, unlocking_last, no_lock, HasLastLock}
use Rattle.hop_words.specs.Owning.{tail_of}
use Rattle.hop_words.specs.Listing.{ListsSegment, ListsMap, IsHomeAmong, lock_given, AnswersGiving}
use Rattle.hop_words.specs.declared.known.Sight.{Sight}
use Rattle.hop_words.specs.Sights.{sight, sighted, lock_taken}
use Rattle.hop_map.specs.Noting.{steps_undone, TakesLocks}
use Rattle.hop_map.specs.Private.Listing.{Falls, IsOwnedAmong, Covers, Gathers, Opens, Adds, taken_by, given_back, NotesLock, NotesLocks}
use Rattle.hop_map.specs.Private.Listing.{LocksMore, ReadsMore, Listed}
use Rattle.hop_map.specs.Private.Locks.{Sought, IsUnborn}
use Rattle.hop_map.proofs.Locking.{locked_contents}
use Rattle.hop_map.proofs.Ports.{by_equal}

-- ---- keys of lists
pub among-append : (q : List ℕ) (xs ys : List (List ℕ)) → is_among q (xs ++ ys) ≡ (is_among q xs || is_among q ys)
among-append q [] ys = refl
among-append q (x ∷ xs) ys = go (eq_by_cmp (slice_cmp nat_cmp) q x) (among-append q xs ys)
  where
    go : (b : Bool) → is_among q (xs ++ ys) ≡ (is_among q xs || is_among q ys) → (b || is_among q (xs ++ ys)) ≡ ((b || is_among q xs) || is_among q ys)
    go true e = refl
    go false e = e

same_key : (q k : List ℕ) → eq_by_cmp (slice_cmp nat_cmp) q k ≡ true → q ≡ k
same_key q k h = go (slice_cmp nat_cmp q k) refl
  where
    go : (o : Ordering) → slice_cmp nat_cmp q k ≡ o → q ≡ k
    go Less is = absurd (true≢false (sym (sym (ap is_eq is) ∙ h)))
    go Equal is = exact_bytes q k is
    go Greater is = absurd (true≢false (sym (sym (ap is_eq is) ∙ h)))

-- what is true of each key is true of one that is among them
pub at_key : (P : List ℕ → Type 0) (q : List ℕ) (ks : List (List ℕ)) → AllByRecursion P ks → is_among q ks ≡ true → P q
at_key P q [] all h = absurd (true≢false (sym h))
at_key P q (k ∷ ks) all h = go (eq_by_cmp (slice_cmp nat_cmp) q k) refl (λ t. at_key P q ks all.1 t)
  where
    go : (b : Bool) → eq_by_cmp (slice_cmp nat_cmp) q k ≡ b → (is_among q ks ≡ true → P q) → P q
    go true is rest = subst P (sym (same_key q k is)) all.0
    go false is rest = rest (subst (λ (b : Bool). (b || is_among q ks) ≡ true) is h)

pub all_append : (P : List ℕ → Type 0) (xs ys : List (List ℕ)) → AllByRecursion P xs → AllByRecursion P ys → AllByRecursion P (xs ++ ys)
all_append P [] ys p q = q
all_append P (x ∷ xs) ys p q = (p.0, all_append P xs ys p.1 q)

all_weaker : (P Q : List ℕ → Type 0) (xs : List (List ℕ)) → ((x : List ℕ) → P x → Q x) → AllByRecursion P xs → AllByRecursion Q xs
all_weaker P Q [] f p = tt
all_weaker P Q (x ∷ xs) f p = (f x p.0, all_weaker P Q xs f p.1)

-- ---- the locks of the born segments below a number
pub falls_clean : (m n : ℕ) (ks : List Lock) → Falls m n ks → Each (λ (j : Lock). j.dirty ≡ false) ks
falls_clean m n [] f = tt
falls_clean m n (k ∷ ks) f = (f.2, falls_clean m k.segment ks f.3)

pub falls_of_map : (m n : ℕ) (ks : List Lock) → Falls m n ks → Each (λ (j : Lock). j.map ≡ m) ks
falls_of_map m n [] f = tt
falls_of_map m n (k ∷ ks) f = (f.0, falls_of_map m k.segment ks f.3)

falls_up : (m n i : ℕ) (ks : List Lock) → n ≤ i → Falls m n ks → Falls m i ks
falls_up m n i [] le f = tt
falls_up m n i (k ∷ ks) le f = (f.0, (let z = f.1 in omega arith), f.2, f.3)

falls_below : (m n : ℕ) (ks : List Lock) → Falls m n ks → (top : ℕ) → n ≤ top → (k : Lock) → k.segment ≡ top → AreElsewhere k ks
falls_below m n [] f top l k is = tt
falls_below m n (j ∷ ks) f top l k is = ((λ same e. let z = f.1 in omega arith), falls_below m j.segment ks f.3 top (let z = f.1 in omega arith) k is)

pub falls_elsewhere : (m n : ℕ) (k : Lock) (ks : List Lock) → Falls m n (k ∷ ks) → AreElsewhere k ks
falls_elsewhere m n k ks f = falls_below m k.segment ks f.3 k.segment (omega arith) k refl

-- of the locks none but s has a home that s has
abbrev Own : ℕ → ℕ → ℕ → ℕ → Lock → Type 0
Own m s home d k = k.map ≡ m → home % power (stamp_depth k.stamp) ≡ k.segment → (k.segment ≡ s) × (stamp_depth k.stamp ≡ d)

-- a number that belongs to a segment below it belongs to that segment's lock
moves : (m s owner d : ℕ) (ks : List Lock) → s % power d ≡ owner → Each (λ (j : Lock). j.map ≡ m) ks → Each (Own m owner owner d) ks →
    IsOwnedAmong owner ks → IsOwnedAmong s ks
moves m s owner d [] is of owns h = absurd h
moves m s owner d (k ∷ ks) is of owns h = ⊎_elim
    (λ (own : owner % power (stamp_depth k.stamp) ≡ k.segment). let t = owns.0 of.0 own in inl (ap (λ (i : ℕ). s % power i) t.1 ∙ (is ∙ sym t.0)))
    (λ (more : IsOwnedAmong owner ks). inr (moves m s owner d ks is of.1 owns.1 more))
    h

-- a lock that owns the number of its segment is among those that fall
below : (m s n d : ℕ) (ks : List Lock) → Falls m n ks → Each (Own m s s d) ks → IsOwnedAmong s ks → s < n
below m s n d [] f owns h = absurd h
below m s n d (k ∷ ks) f owns h = ⊎_elim
    (λ (own : s % power (stamp_depth k.stamp) ≡ k.segment). let t = owns.0 f.0 own in let z = f.1 in let y = t.0 in omega arith)
    (λ (more : IsOwnedAmong s ks). let r = below m s k.segment d ks f.3 owns.1 more in let z = f.1 in omega arith)
    h

-- and is the first where none is above
pub found_first : (m s d : ℕ) (ks : List Lock) → Falls m (s + 1) ks → Each (Own m s s d) ks → IsOwnedAmong s ks → (k : Lock) ×
    (rest : List Lock) × (ks ≡ k ∷ rest) × (k.map ≡ m) × (k.segment ≡ s)
found_first m s d [] f owns h = absurd h
found_first m s d (k ∷ ks) f owns h = ⊎_elim
    (λ (own : s % power (stamp_depth k.stamp) ≡ k.segment). (k, ks, refl, f.0, (owns.0 f.0 own).0))
    (λ (more : IsOwnedAmong s ks). absurd (let r = below m s k.segment d ks f.3 owns.1 more in let z = f.1 in omega arith))
    h

-- ---- the lock
module _ (a : About) (l : Known) (m s n : ℕ) (at_s : IsSegment a m s) (keys : List (List ℕ)) (g : Gathers a l m s keys) (l2 : Known)
    (t : LocksSegment a l m s n l2) where
  abbrev mine : Known
  mine = locking l m s n t.words t.known

  abbrev Apart : Lock → Type 0
  Apart k = k.map ≡ m → (key : List ℕ) → IsHomeIn a k key → home_by a m (stamp_depth n) key ≢ s

  still_shown : AllByRecursion (IsShownIn a m l2.locks) keys
  still_shown = subst (λ (x : Known). AllByRecursion (IsShownIn a m x.locks) keys) (sym t.after)
      (all_weaker (IsShownIn a m l.locks) (IsShownIn a m mine.locks) keys (λ q h. inr h) g.shown)

  -- a key that the other locks show isn't at home here
  shown_apart : (q : List ℕ) (ks : List Lock) → Each Apart ks → IsShownIn a m ks q → home_by a m (stamp_depth n) q ≢ s
  shown_apart q [] apart h = absurd h
  shown_apart q (k ∷ ks) apart h = ⊎_elim
      (λ (x : ShowsIn a m q k). apart.0 x.0 q x.1)
      (λ (x : IsShownIn a m ks q). shown_apart q ks apart.1 x)
      h

  -- none of the keys is at home here
  none_home : (q : List ℕ) → home_by a m (stamp_depth n) q ≡ s → is_among q keys ≡ false
  none_home q home = false_from_ne_true (is_among q keys) (λ h. shown_apart q l.locks t.others (at_key (IsShownIn a m l.locks) q keys g.shown h) home)

  pub opened : Opens a l2 m s keys
  opened = record {
    shows = locked_contents a l m s n at_s l2 t;
    last = subst (λ (x : Known). HasLastLock x m s) (sym t.after) (refl, refl, refl);
    none = subst (λ (x : Known). (q : List ℕ) → IsHomeIn a (lock_of x) q → is_among q keys ≡ false) (sym t.after) none_home;
    shown = still_shown;
    room = t.room (falls_clean m s l.locks g.covers.falls);
    distinct = g.distinct;
  }

  -- ---- and its keys
  module _ (new : List (List ℕ)) (d : Adds a l2 m keys new) where
    abbrev k : Lock
    k = lock_of mine

    add_lists : ListsSegment a d.more k
    add_lists = subst (λ (x : Known). ListsSegment a d.more (lock_of x)) t.after d.lists

    add_here : (q : List ℕ) → is_among q d.more ≡ true → home_by a m (stamp_depth n) q ≡ s
    add_here = subst (λ (x : Known). (q : List ℕ) → is_among q d.more ≡ true → IsHomeIn a (lock_of x) q) t.after d.here

    list_here : ListsSegment a (keys ++ d.more) k
    list_here f share q home = add_lists f share q home ∙ sym (among-append q keys d.more ∙ ap (λ (b : Bool). b || is_among q d.more) (none_home q home))

    list_there : (ks : List Lock) → Each Apart ks → Each (λ (j : Lock). j.map ≡ m) ks → Each (ListsSegment a keys) ks → Each
        (ListsSegment a (keys ++ d.more)) ks
    list_there [] apart of p = tt
    list_there (k ∷ ks) apart of p = (
      (λ f share q home.
          let away : is_among q d.more ≡ false = false_from_ne_true (is_among q d.more) (λ h. apart.0 of.0 q home (add_here q h)) in
          p.0 f share q home ∙ sym (among-append q keys d.more ∙ (ap (λ (b : Bool). is_among q keys || b) away ∙ or_false (is_among q keys)))),
      list_there ks apart.1 of.1 p.1,
    )
      where
        or_false : (b : Bool) → (b || false) ≡ b
        or_false true = refl
        or_false false = refl

    covered : Covers a m (s + 1) mine.locks
    covered = record {
      falls = (refl, omega arith, refl, g.covers.falls);
      deep = (t.deep, g.covers.deep);
      owned = λ i le. by_equal i s
          (λ same. inl (ap (λ (z : ℕ). z % power (stamp_depth n)) same ∙ mod_small s (power (stamp_depth n)) t.deep.room))
          (λ ne. inr (g.covers.owned i (grind arith)));
    }

    gathered_in : Gathers a mine m (s + 1) (keys ++ d.more)
    gathered_in = record {
      covers = covered;
      lists = (list_here, list_there l.locks t.others (falls_of_map m s l.locks g.covers.falls) g.lists);
      shown = subst (λ (x : Known). AllByRecursion (IsShownIn a m x.locks) (keys ++ d.more)) t.after
          (all_append (IsShownIn a m l2.locks) keys d.more still_shown d.shown);
      distinct = subst AreDistinct d.is d.distinct;
    }

    pub gathered : Gathers a l2 m (s + 1) new
    gathered =
        subst (λ (x : Known). Gathers a x m (s + 1) new) (sym t.after)
        (subst (Gathers a mine m (s + 1)) (sym d.is) gathered_in)

-- ---- a segment that isn't born
module _ (a : About) (l : Known) (m s : ℕ) (l2 : Known) (u : IsUnborn a l m s l2) where
  same_locks : l2.locks ≡ l.locks
  same_locks = ap (λ (x : Known). x.locks) u.sought.noted.after

  less : u.owner < s
  less = let z = u.sought.here in let y = u.other in let x = mod-le s (power (stamp_depth u.stamp)) in grind arith

  itself : u.owner % power (stamp_depth u.stamp) ≡ u.owner
  itself = mod_small u.owner (power (stamp_depth u.stamp)) u.sought.noted.deep.room

  unborn_grows : s < segments (shape_at a m) → (shape_at a m).grow ≡ true
  unborn_grows inside = go (shape_at a m).grow refl
    where
      go : (b : Bool) → (shape_at a m).grow ≡ b → b ≡ true
      go true is = refl
      go false is = absurd (u.other (sym u.sought.here ∙ (ap (λ (i : ℕ). s % power i) (u.sought.noted.deep.whole is) ∙ mod_small s
          (segments (shape_at a m)) inside)))

  unborn_owned : Each (λ (j : Lock). j.map ≡ m) l.locks → IsOwnedAmong u.owner l.locks → IsOwnedAmong s l.locks
  unborn_owned of own = moves m s u.owner (stamp_depth u.stamp) l.locks u.sought.here of (u.sought.noted.owns u.owner itself) own

  pub passed_over : (keys : List (List ℕ)) → Gathers a l m s keys → Gathers a l2 m (s + 1) keys
  passed_over keys g = subst (λ (x : Known). Gathers a x m (s + 1) keys) (sym u.sought.noted.after) (record {
    covers = record {
      falls = falls_up m s (s + 1) l.locks (omega arith) g.covers.falls;
      deep = g.covers.deep;
      owned = λ i le. by_equal i s
          (λ same. subst (λ (z : ℕ). IsOwnedAmong z l.locks) (sym same) (unborn_owned (falls_of_map m s l.locks g.covers.falls) (g.covers.owned u.owner less)))
          (λ ne. g.covers.owned i (grind arith));
    };
    lists = g.lists;
    shown = g.shown;
    distinct = g.distinct;
  })

  pub passed_notes : s < segments (shape_at a m) → NotesLock a m s l l2
  passed_notes inside = inr (unborn_grows inside, ap (λ (x : Known). x.tally) u.sought.noted.after, same_locks)

  pub passed_more : LocksMore l l2
  passed_more = u.sought.noted.after ∙ ap (λ (x : Known). record l { locks = x.locks; readings = x.readings; tally = x.tally }) (sym u.sought.noted.after)

  -- on the way back: it has no lock
  pub not_locked : Covers a m (s + 1) l.locks → Covers a m s l2.locks
  not_locked c = subst (λ (ks : List Lock). Covers a m s ks) (sym same_locks) (record {
    falls = go l.locks c.falls c.deep (u.sought.noted.owns s u.sought.here);
    deep = c.deep;
    owned = λ i le. c.owned i (omega arith);
  })
    where
      go : (ks : List Lock) → Falls m (s + 1) ks → Each (λ (k : Lock). SaysDepth a m k.segment k.stamp) ks → Each
          (Own m u.owner s (stamp_depth u.stamp)) ks → Falls m s ks
      go [] f d o = tt
      go (k ∷ ks) f d o = (
        f.0,
        by_equal k.segment s
            (λ same. absurd (u.other (sym (o.0 f.0 (mod_small s (power (stamp_depth k.stamp)) (let z = d.0.room in omega arith) ∙ sym same)).0 ∙ same)))
            (λ ne. let z = f.1 in grind arith),
        f.2,
        f.3,
      )

-- a segment that is born: its lock is the last
pub has_last : (a : About) (l : Known) (m s n : ℕ) (y : Known) → Sought a l m s s n y → Covers a m (s + 1) l.locks → HasLastLock y m s
has_last a l m s n y q c =
    let f = found_first m s (stamp_depth n) l.locks c.falls (q.noted.owns s q.here) (c.owned s (omega arith)) in
    let e : y.locks ≡ f.0 ∷ f.1 = ap (λ (x : Known). x.locks) q.noted.after ∙ f.2 in
    let head : lock_of y ≡ f.0 = ap (λ (ks : List Lock). slice_index_or ks 0 no_lock) e in (
      e ∙ ap (λ (ks : List Lock). slice_index_or ks 0 no_lock ∷ tail_of ks) (sym e),
      ap (λ (k : Lock). k.map) head ∙ f.3,
      ap
          (λ (k : Lock). k.segment) head ∙ f.4,
    )

-- nothing is locked yet
empty_distinct : AreDistinct []
unfolding IsDistinct
empty_distinct = tt

pub gathers_none : (a : About) (l : Known) (m : ℕ) → l.locks ≡ [] → Gathers a l m 0 []
gathers_none a l m idle = record {
  covers = subst (Covers a m 0) (sym idle) (record { falls = tt; deep = tt; owned = λ t less. absurd (omega arith) });
  lists = subst (Each (ListsSegment a [])) (sym idle) tt;
  shown = tt;
  distinct = empty_distinct;
}

pub covers_none : (a : About) (m : ℕ) (ks : List Lock) → Covers a m 0 ks → ks ≡ []
covers_none a m [] c = refl
covers_none a m (k ∷ ks) c = absurd (let z = c.falls.1 in omega arith)

-- one lock more was taken, and noted
pub takes_one : (a : About) (m s : ℕ) (l x y : Known) → NotesLocks a l m s x → NotesLock a m s x y → NotesLocks a l m (s + 1) y
takes_one a m s l x y h = ⊎_elim
    (λ (more : (n : ℕ) × (y.tally ≡ lock_taken m s n ∷ x.tally) × (taken_by y.locks ≡ lock_taken m s n ∷ taken_by x.locks)). record {
      tally = more.1 ∙ (ap (λ (z : List Sight). lock_taken m s more.0 ∷ z) h.tally ∙ ap (λ (z : List Sight). z ++ l.tally) (sym more.2));
      takes = subst (TakesLocks a m (s + 1)) (sym more.2) (subst (λ (i : ℕ). TakesLocks a m i (lock_taken m s more.0 ∷ taken_by x.locks))
          (sym next) (inl (more.0, taken_by x.locks, refl, h.takes)));
    })
    (λ (none : ((shape_at a m).grow ≡ true) × (y.tally ≡ x.tally) × (y.locks ≡ x.locks)). record {
      tally = none.1 ∙ (h.tally ∙ ap (λ (ks : List Lock). taken_by ks ++ l.tally) (sym none.2));
      takes = subst (λ (i : ℕ). TakesLocks a m i (taken_by y.locks)) (sym next)
          (inr (none.0, subst (λ (ks : List Lock). TakesLocks a m s (taken_by ks)) (sym none.2) h.takes));
    })
  where
    next : s + 1 ≡ suc s
    next = omega arith

pub notes_none : (a : About) (l : Known) (m : ℕ) → l.locks ≡ [] → NotesLocks a l m 0 l
notes_none a l m idle = record { tally = ap (λ (ks : List Lock). taken_by ks ++ l.tally) (sym idle); takes = ap taken_by idle }

pub notes_read : (a : About) (l : Known) (m n : ℕ) (x y : Known) → NotesLocks a l m n x → ReadsMore x y → NotesLocks a l m n y
notes_read a l m n x y h q =
    let locks : y.locks ≡ x.locks = ap (λ (u : Known). u.locks) q in
    record {
      tally = ap (λ (u : Known). u.tally) q ∙ (h.tally ∙ ap (λ (ks : List Lock). taken_by ks ++ l.tally) (sym locks));
      takes = subst (λ (ks : List Lock). TakesLocks a m n (taken_by ks)) (sym locks) h.takes;
    }

undone-append : (xs ys zs : List Sight) → steps_undone xs (ys ++ zs) ≡ steps_undone xs ys ++ zs
undone-append [] ys zs = refl
undone-append (x ∷ xs) ys zs = undone-append xs (sight x.place x.left x.found ∷ ys) zs

-- the locks are given back, each with the number at which it was taken
given_undone : (ks : List Lock) (sights : List Sight) → given_back ks sights ≡ steps_undone (taken_by ks) sights
given_undone [] sights = refl
given_undone (k ∷ ks) sights = given_undone ks (lock_given k ∷ sights)

-- from before the first lock to after the last unlock
pub listed_whole : (a : About) (l l1 l2 l3 : Known) (m : ℕ) (keys : List (List ℕ)) → l.locks ≡ [] → LocksMore l l1 → NotesLocks a l m
    (segments (shape_at a m)) l1 → l1.locks ≡ lock_of l1 ∷ other_locks l1 → AnswersGiving a l1 (Keys m keys) l2
    → l3 ≡ record l2 { locks = l3.locks; readings = l3.readings; tally = l3.tally } → given_back l3.locks l3.tally ≡ given_back l2.locks
    l2.tally → l3.locks ≡ [] → Listed a l m keys l3
listed_whole a l l1 l2 l3 m keys idle locked noted last (x, p, is) kept gives none = record {
  seen = subst (TakesEffect a l (Keys m keys)) (sym (ap (λ (u : Known). u.seen) whole))
      (let w = subst (λ (u : Known). TakesEffect a u (Keys m keys) x.seen) locked p.seen in record
      { others = w.others; foreign = w.foreign; after = w.after; legal = w.legal });
  noted = (steps_undone ts ts, tally, (ts, noted.takes, refl));
  after = whole ∙ (λ j. record l { seen = sym (ap (λ (u : Known). u.seen) whole) j; locks = (none ∙ sym idle) j; readings = l3.readings; tally = l3.tally });
}
  where
    whole : l3 ≡ record l { seen = x.seen; locks = l3.locks; readings = l3.readings; tally = l3.tally }
    whole = kept ∙ (ap (λ (u : Known). record u { locks = l3.locks; readings = l3.readings; tally = l3.tally }) is
        ∙ (ap (λ (u : Known). record u { locks = l3.locks; readings = l3.readings; tally = l3.tally }) p.after
        ∙ ap (λ (u : Known). record u { seen = x.seen; locks = l3.locks; readings = l3.readings; tally = l3.tally }) locked))

    ts : List Sight
    ts = taken_by l1.locks

    -- the listing's own unlock comes first
    first : given_back l2.locks l2.tally ≡ given_back l1.locks l1.tally
    first =
        ap (λ (u : Known). given_back u.locks u.tally) is
        ∙ (ap (λ (u : Known). given_back u.locks (lock_given (lock_of l1) ∷ u.tally)) p.after
        ∙ ap (λ (ks : List Lock). given_back ks l1.tally) (sym last))

    tally : l3.tally ≡ steps_undone ts ts ++ l.tally
    tally =
        ap (λ (ks : List Lock). given_back ks l3.tally) (sym none)
        ∙ (gives ∙ (first ∙ (given_undone l1.locks l1.tally
        ∙ (ap (steps_undone ts) noted.tally ∙ undone-append ts ts l.tally))))

pub locked_on : (l l1 l2 : Known) → LocksMore l l1 → LocksMore l1 l2 → LocksMore l l2
locked_on l l1 l2 p q = q ∙ ap (λ (x : Known). record x { locks = l2.locks; readings = l2.readings; tally = l2.tally }) p

pub locked_read : (l l1 l2 : Known) → LocksMore l l1 → ReadsMore l1 l2 → LocksMore l l2
locked_read l l1 l2 p q = q ∙ (ap (λ (x : Known). record x { readings = l2.readings }) p ∙
    (λ j. record l { locks = sym (ap (λ (x : Known). x.locks) q) j; readings = l2.readings; tally = sym (ap (λ (x : Known). x.tally) q) j }))

-- one lock of the others is given back, or none
pub unlocked_on : (l x y z : Known) → x ≡ record l { locks = x.locks; readings = x.readings; tally = x.tally } → ReadsMore x y → z ≡ sighted
    (unlocking_last y) (lock_given (lock_of y)) → z ≡ record l { locks = z.locks; readings = z.readings; tally = z.tally }
unlocked_on l x y z p q given =
    given ∙ (ap (λ (u : Known). record u { locks = other_locks y; tally = lock_given (lock_of y) ∷ y.tally }) q
    ∙ (ap (λ (u : Known). record u { locks = other_locks y; readings = y.readings; tally = lock_given (lock_of y) ∷ y.tally }) p
    ∙ (λ j. record l {
      locks = sym (ap (λ (u : Known). u.locks) given) j;
      readings = sym (ap (λ (u : Known). u.readings) given) j;
      tally =
          sym (ap (λ (u : Known). u.tally) given) j;
    })))

pub passed_on : (l x y : Known) → x ≡ record l { locks = x.locks; readings = x.readings; tally = x.tally } → ReadsMore x y → y ≡ record l
    { locks = y.locks; readings = y.readings; tally = y.tally }
passed_on l x y p q = q ∙ (ap (λ (u : Known). record u { readings = y.readings }) p ∙
    (λ j. record l { locks = sym (ap (λ (u : Known). u.locks) q) j; readings = y.readings; tally = sym (ap (λ (u : Known). u.tally) q) j }))

-- what the tally is once all are given back stays
pub passed_gives : (x y : Known) → ReadsMore x y → given_back y.locks y.tally ≡ given_back x.locks x.tally
passed_gives x y q = ap (λ (u : Known). given_back u.locks u.tally) q

pub gives_on : (x y z : Known) → ReadsMore x y → y.locks ≡ lock_of y ∷ other_locks y → z ≡ sighted (unlocking_last y)
    (lock_given (lock_of y)) → given_back z.locks z.tally ≡ given_back x.locks x.tally
gives_on x y z q last given = ap (λ (u : Known). given_back u.locks u.tally) given ∙
    (ap (λ (ks : List Lock). given_back ks y.tally) (sym last) ∙ passed_gives x y q)

-- ---- the lock taken last
module _ (a : About) (l : Known) (m n : ℕ) (last : HasLastLock l m n) (c : Covers a m (n + 1) l.locks) where
  parted : Covers a m (n + 1) (lock_of l ∷ other_locks l)
  parted = subst (Covers a m (n + 1)) last.0 c

  pub covers_apart : AreElsewhere (lock_of l) (other_locks l)
  covers_apart = falls_elsewhere m (n + 1) (lock_of l) (other_locks l) parted.falls

  pub covers_same : (lock_of l).dirty ≡ false
  covers_same = parted.falls.2

  -- lower numbers belong to others
  pub covers_others : Covers a m n (other_locks l)
  covers_others = record {
    falls = subst (λ (i : ℕ). Falls m i (other_locks l)) last.2 parted.falls.3;
    deep = parted.deep.1;
    owned = λ t le. ⊎_elim
        (λ (own : t % power (stamp_depth (lock_of l).stamp) ≡ (lock_of l).segment). absurd
        (let z = mod-le t (power (stamp_depth (lock_of l).stamp)) in let y = last.2 in omega arith))
        (λ (more : IsOwnedAmong t (other_locks l)). more)
        (parted.owned t (omega arith));
  }

-- ---- all segments
module _ (a : About) (m : ℕ) (key : List ℕ) where
  abbrev all : ℕ
  all = depth (shape_at a m)

  abbrev g : ℕ
  g = home_of key a.seed (shape_at a m).mask

  home_among : (ks : List Lock) → Each (λ (j : Lock). j.map ≡ m) ks → Each (λ (k : Lock). SaysDepth a m k.segment k.stamp) ks → IsOwnedAmong
      (g % power all) ks → IsHomeAmong a key ks
  home_among [] of deep h = absurd h
  home_among (k ∷ ks) of deep h = ⊎_elim
      (λ (own : g % power all % power (stamp_depth k.stamp) ≡ k.segment). inl
      (ap (λ (i : ℕ). home_by a i (stamp_depth k.stamp) key) of.0 ∙ (sym (mod_low g (stamp_depth k.stamp) all deep.0.most) ∙ own)))
      (λ (more : IsOwnedAmong (g % power all) ks). inr (home_among ks of.1 deep.1 more))
      h

pub lists_map : (a : About) (l : Known) (m n : ℕ) (keys : List (List ℕ)) → m < length a.shape.maps → HasLastLock l m n → Covers a m (n + 1)
    l.locks → Each (ListsSegment a keys) l.locks → ((t : ℕ) → t < segments (shape_at a m) → IsOwnedAmong t l.locks) → ListsMap a l m keys
lists_map a l m n keys there last c lists owned = record {
  map = there;
  locks = last.0;
  of_map = falls_of_map m (n + 1) l.locks c.falls;
  clean = falls_clean m (n + 1) l.locks c.falls;
  elsewhere = covers_apart a l m n last c;
  all = λ key. home_among a m key l.locks (falls_of_map m (n + 1) l.locks c.falls) c.deep
      (owned _ (mod_below _ (power (depth (shape_at a m))) (some_power (depth (shape_at a m)))));
  lists = lists;
}
