-- The batches of a CPU and what it knows of them.
use Rattle.std.specs.Prelude.{◌≡◌, ◌≢◌, ◌⊎◌, ℕ, ◌+◌, ◌%◌, ◌<◌, Bool, false, List, [], ◌∷◌, ◌++◌, Option, Some, None, length, slice_index}
use Rattle.hop_layout.specs.declared.about.About.{About}
use Rattle.hop_words.specs.declared.known.Known.{Known}
use Rattle.hop_words.specs.declared.known.Sight.{Sight}
use Rattle.hop_layout.specs.declared.place.Place.TheVariants.{RunCount}
use Rattle.hop_words.specs.Sights.{look, LeavesLocks}
use Rattle.hop_words.specs.Ghost.{HasElement, Each, limbo_at}

-- the first element of a batch
abbrev pub front : List ℕ → Option ℕ
front [] = None
front (e ∷ es) = Some e

-- the counters noted with the old batch, by CPU
abbrev pub Notes : About → List ℕ → List ℕ → Type 0
Notes a known noted = (length known ≡ a.shape.cpus)
    × ((d : ℕ) → d < a.shape.cpus → slice_index known d ≡ slice_index noted d)

-- the batches begin with these elements, and these counters were noted with the old one
pub record Tracks (a : About) (l : Known) (m : ℕ) (young old : Option ℕ) (noted : List ℕ) : Type 0
  where
    pub room : m < length l.limbo
    pub young_is : young ≡ front (limbo_at l.limbo m).young
    pub old_is : old ≡ front (limbo_at l.limbo m).old
    pub young_inside : Each (HasElement a m) (limbo_at l.limbo m).young
    pub old_inside : Each (HasElement a m) (limbo_at l.limbo m).old
    pub counters : ((limbo_at l.limbo m).old ≡ []) ⊎ Notes a (limbo_at l.limbo m).noted noted

-- of what the CPU knows only its batches of the map changed, and what it noted
pub record KeepsBatches (m : ℕ) (l l' : Known) : Type 0 where
  pub cpu : l'.cpu ≡ l.cpu
  pub seen : l'.seen ≡ l.seen
  pub fresh : l'.fresh ≡ l.fresh
  pub locks : l'.locks ≡ l.locks
  pub readings : l'.readings ≡ l.readings
  pub size : length l'.limbo ≡ length l.limbo
  pub others : (n : ℕ) → n ≢ m → limbo_at l'.limbo n ≡ limbo_at l.limbo n
  pub used : (limbo_at l'.limbo m).used ≡ (limbo_at l.limbo m).used
  -- nothing that was noted is forgotten, and no lock was taken
  pub sights : (more : List Sight) × (l'.tally ≡ more ++ l.tally) × Each LeavesLocks more

-- the word that leads to an element, or to none
abbrev pub link_word : Option ℕ → ℕ
link_word None = 0
link_word (Some e) = e + 1

-- the batches are as they were, but for the counters noted, and something more was noted
pub record LooksAtCounters (m : ℕ) (l l' : Known) : Type 0 where
  pub keeps : KeepsBatches m l l'
  pub young : (limbo_at l'.limbo m).young ≡ (limbo_at l.limbo m).young
  pub old : (limbo_at l'.limbo m).old ≡ (limbo_at l.limbo m).old
  pub more : List Sight
  pub sights : l'.tally ≡ more ++ l.tally

abbrev pub AreEven : ℕ → List ℕ → Type 0
AreEven cpus noted = (d : ℕ) → d < cpus → slice_index noted d % 2 ≡ 0

-- the last that was noted on the way is a CPU that is still in the run noted with the old batch
abbrev pub SeesRunning : ℕ → Known → Known → Type 0
SeesRunning m l l' =
    (d : ℕ) × (more : List Sight) × (l'.tally
    ≡ look (RunCount d) (slice_index (limbo_at l'.limbo m).noted d) ∷ (more ++ l.tally))
    × (slice_index (limbo_at l'.limbo m).noted d % 2 ≡ 1)

-- an old batch waits for others where this CPU's own run isn't the one that was noted with it
abbrev pub WaitsForOthers : Option ℕ → Type 0 → Bool → Type 0
WaitsForOthers None own waits = waits ≡ false
WaitsForOthers (Some e) own waits = (own → waits ≡ false) × (waits ≡ false → own)
