-- A whole call of a CPU, from what it knows before to what it knows after.
use Rattle.std.specs.Prelude.{◌≡◌, ◌≢◌, ◌⊎◌, ℕ, ◌+◌, ◌-◌, ◌%◌, ◌^◌, ◌<◌, ◌≤◌, List, [], ◌∷◌, ◌++◌, length, slice_index}
use Rattle.bpf_shared.specs.declared.events.Event.{Event}
use Rattle.bpf_shared.specs.declared.events.MapAnswer.{MapAnswer}
use Rattle.bpf_shared.specs.declared.events.MapAnswer.TheVariants.{Busy, NoMemory}
use Rattle.bpf_shared.specs.Shape.{elements}
use Rattle.hop_layout.specs.declared.about.About.{About}
use Rattle.hop_words.specs.declared.known.Known.{Known}
use Rattle.hop_words.specs.declared.known.Sight.{Sight}
use Rattle.hop_layout.specs.declared.place.Place.TheVariants.{RunCount}
use Rattle.hop_words.specs.Sights.{LeavesElements, look}
use Rattle.hop_words.specs.Ghost.{shape_at, limbo_at, Each}
use Rattle.hop_words.specs.Shortage.{done_in}
use Rattle.hop_words.specs.Kinds.{TakesEffect}
use Rattle.hop_arena.specs.declared.arena.Arena.{Arena}
use Rattle.hop_arena.specs.Claiming.{IsArena, IsSeenTaken}
use Rattle.hop_epoch.specs.declared.batches.Batches.{Batches}
use Rattle.hop_epoch.specs.Batch.{Tracks}
use Rattle.hop_layout.specs.Layout.{gained}

-- the arena is the map's
abbrev pub Searches : About → ℕ → Arena → Type 0
Searches a m x = (x.map ≡ m) × IsArena a x.map x.elements x.start

-- the batches are the CPU's of this map
abbrev pub AreBatchesOf : About → Known → ℕ → Batches → Type 0
AreBatchesOf a l m x = (x.map ≡ m) × Tracks a l x.map x.young x.aged x.noted

-- between two calls a CPU has no element in hand, and no lock
pub record IsBetweenCalls (l : Known) (m : ℕ) : Type 0 where
  pub fresh : l.fresh ≡ []
  pub locks : l.locks ≡ []
  pub used : (limbo_at l.limbo m).used ≡ []

-- the call's event was made; of all else only the batches of the map changed, and what was noted
pub record IsOneCall (a : About) (l : Known) (m : ℕ) (event : Event) (l' : Known) : Type 0 where
  pub seen : TakesEffect a l event l'.seen
  pub rests : IsBetweenCalls l' m
  pub cpu : l'.cpu ≡ l.cpu
  pub size : length l'.limbo ≡ length l.limbo
  pub others : (n : ℕ) → n ≢ m → limbo_at l'.limbo n ≡ limbo_at l.limbo n

-- the call looked for a free element in vain. First its two batches of the map were empty, or a CPU
-- was still in the run that was noted with the old one; after that each element of the map was seen
-- not free, while the call took none and gave none back
pub record SearchesInVain (a : About) (l : Known) (m : ℕ) (l' : Known) : Type 0 where
  pub sooner : List Sight
  pub later : List Sight
  pub sights : l'.tally ≡ later ++ (sooner ++ l.tally)
  pub still : Each (LeavesElements m) later
  pub kept :
      (((limbo_at l'.limbo m).old ≡ []) × ((limbo_at l'.limbo m).young ≡ []))
      ⊎ ((d : ℕ) × (more : List Sight)
      × (sooner ≡ look (RunCount d) (slice_index (limbo_at l'.limbo m).noted d) ∷ more)
      × (slice_index (limbo_at l'.limbo m).noted d % 2 ≡ 1))
  pub taken : (e : ℕ) → e < elements (shape_at a m) → IsSeenTaken later m e

-- the CPU looked at its batches of the map: both are empty, or after these sights it saw a CPU
-- still in the run that was noted with the old one
abbrev pub IsReclaimed : ℕ → List Sight → Known → Type 0
IsReclaimed m before l' =
    (((limbo_at l'.limbo m).old ≡ []) × ((limbo_at l'.limbo m).young ≡ []))
    ⊎ ((d : ℕ) × (later : List Sight) × (sooner : List Sight)
    × (l'.tally ≡ later ++ (look (RunCount d) (slice_index (limbo_at l'.limbo m).noted d)
    ∷ (sooner ++ before)))
    × (slice_index (limbo_at l'.limbo m).noted d % 2 ≡ 1))

-- Busy only at a segment's last version, which n changes of the map have paid for; NoMemory
-- only where the call looked for a free element in vain
abbrev pub IsShortage : About → Known → ℕ → MapAnswer → Known → Type 0
IsShortage a l m Busy l' = 2 ^ 56 - 1 ≤ a.version + gained (shape_at a m) + done_in m l'.seen
IsShortage a l m NoMemory l' = SearchesInVain a l m l'
IsShortage a l m answer l' = Unit {0}
