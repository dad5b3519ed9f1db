-- Lookups, from what a CPU knows before to what it knows after.
use Rattle.std.specs.Prelude.{◌≡◌, ◌≢◌, ◌⊎◌, ℕ, ◌+◌, ◌*◌, ◌%◌, ◌<◌, ◌≤◌, true, false, List, [], ◌∷◌, ◌++◌, Option, Some, None, length}
use Rattle.bpf_shared.specs.declared.events.Event.TheVariants.{Lookup}
use Rattle.bpf_shared.specs.declared.events.Span.{Span}
use Rattle.bpf_shared.specs.History.{events_of}
use Rattle.hop_layout.specs.declared.about.About.{About}
use Rattle.hop_words.specs.declared.known.Known.{Known}
use Rattle.hop_map.specs.declared.once.Once.{Once}
use Rattle.hop_map.specs.declared.once.Once.TheVariants.{Found, Absent, Disturbed}
use Rattle.hop_words.specs.declared.known.Sight.{Sight}
use Rattle.hop_layout.specs.declared.place.Place.TheVariants.{Stamp}
use Rattle.hop_layout.specs.Home.{home_of}
use Rattle.hop_layout.specs.Layout.{power, depth, first_depth, words_for}
use Rattle.bpf_shared.specs.Shape.{elements}
use Rattle.hop_words.specs.Sights.{look, lock_taken, IsLook}
use Rattle.hop_words.specs.Ghost.{shape_at, Each}
use Rattle.hop_words.specs.Depths.{stamp_depth}
use Rattle.hop_words.specs.Kinds.{SaysDepth, TakesEffect}
use Rattle.bpf_shared.specs.Own.{in_run}

-- a CPU in a run asks for a key of the map, with no element in hand and no lock
pub record AsksForKey (a : About) (l : Known) (m : ℕ) (key : List ℕ) : Type 0 where
  pub map : m < length a.shape.maps
  pub size : length key ≡ (shape_at a m).key
  pub runs : in_run (events_of l.cpu l.seen) ≡ true
  pub fresh : l.fresh ≡ []
  pub locks : l.locks ≡ []

-- the lookup's event; all else is as it was, but for readings and what was noted
pub record Looked (a : About) (l : Known) (m : ℕ) (key : List ℕ) (found : Option Span)
    (l' : Known) : Type 0 where
  pub seen : TakesEffect a l (Lookup m key found) l'.seen
  pub after : l' ≡ record l { seen = l'.seen; readings = l'.readings; tally = l'.tally }

-- by this stamp of a segment, a segment comes next on the way of a home: it has the home's next bit
-- above those that the first has, below the stamp's depth
abbrev pub ComesNext : ℕ → ℕ → ℕ → ℕ → Type 0
ComesNext home t n s = (u : ℕ) × (u < stamp_depth n) × (t < power u) × (s ≡ t + power u)
    × (home % power (u + 1) ≡ s)

-- the looks lead to the segment, the last first: the way begins at the first segment, and from each
-- one, whose stamp was unlocked, it goes to the one that comes next
abbrev pub LeadsAlong : About → ℕ → ℕ → ℕ → List Sight → Type 0
LeadsAlong a m home s [] = home % power (first_depth (shape_at a m)) ≡ s
LeadsAlong a m home s (x ∷ way) = (t : ℕ) × (n : ℕ) × (x ≡ look (Stamp m t) n) × (n % 2 ≡ 0)
    × ComesNext home t n s × LeadsAlong a m home t way

-- on its way to the segment of a home a reading looks at the stamps of others; in a map that
-- doesn't grow at none, and the segment is the home's own at the map's depth
pub record IsWay (a : About) (m home s : ℕ) (way : List Sight) : Type 0 where
  pub leads : LeadsAlong a m home s way
  pub at_once : (shape_at a m).grow ≡ false
      → (way ≡ []) × (home % power (depth (shape_at a m)) ≡ s)

abbrev pub home_in : About → ℕ → List ℕ → ℕ
home_in a m key = home_of key a.seed (shape_at a m).mask

-- a reading of the segment that was disturbed, as it was noted: the first stamp was locked, or the
-- last is another; between the two it looked at words
abbrev pub IsDisturbed : ℕ → ℕ → ℕ → ℕ → List Sight → Type 0
IsDisturbed m s first last sights =
    ((first % 2 ≡ 1) × (first ≡ last) × (sights ≡ look (Stamp m s) first ∷ []))
    ⊎ ((first ≢ last) × ((words : List Sight) × Each IsLook words
    × (sights ≡ look (Stamp m s) last ∷ (words ++ look (Stamp m s) first ∷ []))))

-- a reading that was not: its stamp was unlocked, first and last the same
abbrev pub IsUndisturbed : ℕ → ℕ → List Sight → Type 0
IsUndisturbed m s sights = (n : ℕ) × (words : List Sight) × (n % 2 ≡ 0) × Each IsLook words
    × (sights ≡ look (Stamp m s) n ∷ (words ++ look (Stamp m s) n ∷ []))

-- a disturbed reading, of the key's segment or of one on the way there, and nothing else came of it
pub record Disturbs (a : About) (l : Known) (m : ℕ) (key : List ℕ) (first last : ℕ)
    (l' : Known) : Type 0 where
  pub segment : ℕ
  pub way : List Sight
  pub is_way : IsWay a m (home_in a m key) segment way
  pub sights : List Sight
  pub disturbed : IsDisturbed m segment first last sights
  pub after : l' ≡ record l { readings = l'.readings; tally = sights ++ (way ++ l.tally) }

-- one undisturbed reading was noted, and nothing else
pub record ReadsOnce (a : About) (l : Known) (m : ℕ) (key : List ℕ) (l' : Known) : Type 0 where
  pub segment : ℕ
  pub way : List Sight
  pub is_way : IsWay a m (home_in a m key) segment way
  pub sights : List Sight
  pub undisturbed : IsUndisturbed m segment sights
  pub tally : l'.tally ≡ sights ++ (way ++ l.tally)

-- how a lookup without a lock ends
abbrev pub OnceEnds : About → Known → ℕ → List ℕ → Once → Known → Type 0
OnceEnds a l m key (Found p) l' = Looked a l m key (Some p) l' × ReadsOnce a l m key l'
OnceEnds a l m key Absent l' = Looked a l m key None l' × ReadsOnce a l m key l'
OnceEnds a l m key (Disturbed first last) l' = Disturbs a l m key first last l'

-- the most words that a lookup without a lock loads: of each depth a stamp and of the last one the
-- same again, a hop word and a list's head; of each of 32 places and of each element the word that
-- leads to it and those of its key
abbrev pub most_loads : About → ℕ → ℕ
most_loads a m = depth (shape_at a m) + 4
    + (32 + elements (shape_at a m)) * (1 + words_for (shape_at a m).key)

-- the CPU noted looks and nothing else, at most n
pub record LooksAtMost (most : ℕ) (l l' : Known) : Type 0 where
  pub sights : List Sight
  pub noted : l'.tally ≡ sights ++ l.tally
  pub looks : Each IsLook sights
  pub few : length sights ≤ most

-- all that readings noted, the last first
abbrev pub all_sights : List (List Sight) → List Sight
all_sights [] = []
all_sights (x ∷ xs) = x ++ all_sights xs

-- by this stamp the segment is the one that the key is at home in
abbrev pub OwnsKey : About → ℕ → List ℕ → ℕ → ℕ → Type 0
OwnsKey a m key s n = SaysDepth a m s n × (home_in a m key % power (stamp_depth n) ≡ s)

-- the lock of the key's segment was taken, and nothing else was noted
abbrev pub TakesLock : About → Known → ℕ → List ℕ → Known → Type 0
TakesLock a l m key l' = (s : ℕ) × (n : ℕ) × OwnsKey a m key s n
    × (l'.tally ≡ lock_taken m s n ∷ l.tally)

-- what one reading noted that was disturbed, and what one that was not
abbrev pub IsDisturbedTry : About → ℕ → List ℕ → List Sight → Type 0
IsDisturbedTry a m key x = (s : ℕ) × (way : List Sight) × (sights : List Sight) × (first : ℕ)
    × (last : ℕ) × IsWay a m (home_in a m key) s way × IsDisturbed m s first last sights
    × (x ≡ sights ++ way)

abbrev pub IsUndisturbedTry : About → ℕ → List ℕ → List Sight → Type 0
IsUndisturbedTry a m key x = (s : ℕ) × (way : List Sight) × (sights : List Sight)
    × IsWay a m (home_in a m key) s way × IsUndisturbed m s sights × (x ≡ sights ++ way)

-- what a lookup may note, the last first: readings that were disturbed, and then one that wasn't;
-- or eight that were disturbed, and only then the lock
pub record IsSparing (a : About) (m : ℕ) (key : List ℕ) (sights : List Sight) : Type 0 where
  pub tries : List (List Sight)
  pub disturbed : Each (IsDisturbedTry a m key) tries
  pub last : List Sight
  pub all : sights ≡ last ++ all_sights tries
  pub ends : IsUndisturbedTry a m key last
      ⊎ ((length tries ≡ 8)
      × ((s : ℕ) × (n : ℕ) × OwnsKey a m key s n × (last ≡ lock_taken m s n ∷ [])))
