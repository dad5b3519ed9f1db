-- A listing on its way: what the CPU has locked and listed so far.
use Rattle.std.specs.Prelude.{◌≡◌, ℕ, ◌%◌, ◌<◌, ◌≤◌, ◌⊎◌, false, true, List, [], ◌∷◌, ◌++◌, Some}
use Rattle.std.specs.List.{AllByRecursion}
use Rattle.bpf_shared.specs.declared.events.Event.TheVariants.{Keys}
use Rattle.bpf_shared.specs.KeyOrder.{is_among, AreDistinct}
use Rattle.hop_layout.specs.declared.about.About.{About}
use Rattle.hop_words.specs.declared.known.Known.{Known}
use Rattle.hop_words.specs.declared.known.Lock.{Lock}
use Rattle.hop_layout.specs.Layout.{power}
use Rattle.hop_words.specs.declared.known.Sight.{Sight}
use Rattle.hop_words.specs.Sights.{lock_taken}
use Rattle.hop_words.specs.Depths.{stamp_depth}
use Rattle.hop_words.specs.Content.{Reached, item, times}
use Rattle.hop_words.specs.Ghost.{IsHomeIn, shape_at, Each}
use Rattle.hop_words.specs.Rule.{image}
use Rattle.hop_words.specs.Kinds.{TakesEffect, IsShownIn, KeysHaveRoom, SaysDepth}
use Rattle.hop_words.specs.Locking.{lock_of, HasLastLock}
use Rattle.hop_words.specs.Listing.{ListsSegment, lock_given}
use Rattle.hop_map.specs.Noting.{TakesLocks, CallNotes}
use Rattle.hop_map.specs.Private.LockedSegment.{spelled_key}
use Rattle.hop_map.specs.Private.UnderLock.{LockShows}

-- these are locks of segments below n, the highest first, and nothing has changed under any
abbrev pub Falls : ℕ → ℕ → List Lock → Type 0
Falls m n [] = Unit {0}
Falls m n (k ∷ ks) = (k.map ≡ m) × (k.segment < n) × (k.dirty ≡ false) × Falls m k.segment ks

-- the home belongs to one of these locks' segments
abbrev pub IsOwnedAmong : ℕ → List Lock → Type 0
IsOwnedAmong home [] = ⊥
IsOwnedAmong home (k ∷ ks) = (home % power (stamp_depth k.stamp) ≡ k.segment) ⊎ IsOwnedAmong home ks

-- they are those of all born segments below n: each number below n belongs to one, as a home
pub record Covers (a : About) (m n : ℕ) (ks : List Lock) : Type 0 where
  pub falls : Falls m n ks
  pub deep : Each (λ (k : Lock). SaysDepth a m k.segment k.stamp) ks
  pub owned : (t : ℕ) → t < n → IsOwnedAmong t ks

-- the born segments below n are locked, and the list has their keys
pub record Gathers (a : About) (l : Known) (m n : ℕ) (keys : List (List ℕ)) : Type 0 where
  pub covers : Covers a m n l.locks
  pub lists : Each (ListsSegment a keys) l.locks
  pub shown : AllByRecursion (IsShownIn a m l.locks) keys
  pub distinct : AreDistinct keys

-- what was noted when these locks were taken, and what their tally is once they are given back
abbrev pub taken_by : List Lock → List Sight
taken_by [] = []
taken_by (k ∷ ks) = lock_taken k.map k.segment k.stamp ∷ taken_by ks

abbrev pub given_back : List Lock → List Sight → List Sight
given_back [] sights = sights
given_back (k ∷ ks) sights = given_back ks (lock_given k ∷ sights)

-- the segment's lock was taken; or the map grows, and none was
abbrev pub NotesLock : About → ℕ → ℕ → Known → Known → Type 0
NotesLock a m s l l' =
    ((n : ℕ) × (l'.tally ≡ lock_taken m s n ∷ l.tally)
    × (taken_by l'.locks ≡ lock_taken m s n ∷ taken_by l.locks))
    ⊎ (((shape_at a m).grow ≡ true) × (l'.tally ≡ l.tally) × (l'.locks ≡ l.locks))

-- since it had no lock the CPU noted that it took those that it has, of the born segments below n
pub record NotesLocks (a : About) (l : Known) (m n : ℕ) (l' : Known) : Type 0 where
  pub tally : l'.tally ≡ taken_by l'.locks ++ l.tally
  pub takes : TakesLocks a m n (taken_by l'.locks)

-- what the keys of the segment that was locked last are added to: keys of other segments, each
-- once, with room for all that the locks show
pub record Opens (a : About) (l : Known) (m s : ℕ) (old : List (List ℕ)) : Type 0 where
  pub shows : LockShows a l m s
  pub last : HasLastLock l m s
  pub none : (key : List ℕ) → IsHomeIn a (lock_of l) key → is_among key old ≡ false
  pub shown : AllByRecursion (IsShownIn a m l.locks) old
  pub room : KeysHaveRoom a m l.locks
  pub distinct : AreDistinct old

-- what that segment adds to the list, whose keys were of other segments
pub record Adds (a : About) (l : Known) (m : ℕ) (old new : List (List ℕ)) : Type 0 where
  pub more : List (List ℕ)
  pub is : new ≡ old ++ more
  pub here : (key : List ℕ) → is_among key more ≡ true → IsHomeIn a (lock_of l) key
  pub lists : ListsSegment a more (lock_of l)
  pub shown : AllByRecursion (IsShownIn a m l.locks) more
  pub distinct : AreDistinct new

-- of the elements of that segment, those that P speaks of are listed, after the keys before
pub record Part (a : About) (l : Known) (m s : ℕ) (old now : List (List ℕ)) (P : ℕ → Type 0)
    : Type 0 where
  pub more : List (List ℕ)
  pub is : now ≡ old ++ more
  pub from : AllByRecursion (λ key. (e : ℕ) × Reached (image a (lock_of l).copy) m s e × P e
      × (key ≡ spelled_key a m (image a (lock_of l).copy) e)) more
  pub all : (e : ℕ) → Reached (image a (lock_of l).copy) m s e → P e
      → is_among (spelled_key a m (image a (lock_of l).copy) e) more ≡ true
  pub distinct : AreDistinct now

-- the element is at one of the first n places
abbrev pub StandsBelow : About → Known → ℕ → ℕ → ℕ → ℕ → Type 0
StandsBelow a l m s n e = (p : ℕ) × (p < n) × (p < 64)
    × (item ((image a (lock_of l).copy).slot m s p) ≡ Some e)

-- at some place, or among these of the overflow list
abbrev pub StandsOr : About → Known → ℕ → ℕ → List ℕ → ℕ → Type 0
StandsOr a l m s es e = StandsBelow a l m s 64 e ⊎ (1 ≤ times e es)

-- more is locked now, and noted; all else but what was read is as it was
abbrev pub LocksMore : Known → Known → Type 0
LocksMore l l' = l' ≡ record l { locks = l'.locks; readings = l'.readings; tally = l'.tally }

-- all but what was read is as it was
abbrev pub ReadsMore : Known → Known → Type 0
ReadsMore l l' = l' ≡ record l { readings = l'.readings }

-- the listing's event, and what the CPU noted at it; all else but what was read is as it was
pub record Listed (a : About) (l : Known) (m : ℕ) (keys : List (List ℕ)) (l' : Known) : Type 0
  where
    pub seen : TakesEffect a l (Keys m keys) l'.seen
    pub noted : CallNotes a (Keys m keys) l l'
    pub after : l' ≡ record l { seen = l'.seen; readings = l'.readings; tally = l'.tally }
