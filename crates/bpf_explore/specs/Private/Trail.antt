-- How kept machines came about.
use Rattle.std.specs.Prelude.{◌≡◌, ℕ, ◌<◌, List, [], ◌∷◌, ◌++◌, length, replicate, slice_index_or}
use Rattle.bpf_machine.specs.Machine.{MachineState}
use Rattle.bpf_machine.specs.Schedule.{World}
use Rattle.bpf_explore.specs.declared.explorer.Origin.{Origin}
use Rattle.bpf_explore.specs.Album.{LeadsThrough}

abbrev pub no_origin : Origin
no_origin = record { from = 0; ahead = 0; cpu = 0 }

abbrev pub origin_at : List Origin → ℕ → Origin
origin_at origins i = slice_index_or origins i no_origin

-- a turn of the CPU, and n more, led to the i-th from an earlier one, by runs of this kind
pub record IsOrigin (runs : World → List ℕ → World → Type 0) (kept : List MachineState) (i : ℕ)
    (o : Origin) : Type 0 where
  pub before : o.«from» < i
  pub leads : LeadsThrough runs kept o.«from» (o.cpu ∷ replicate o.ahead o.cpu) i

-- so each came about but the first
pub record AreOrigins (runs : World → List ℕ → World → Type 0) (kept : List MachineState)
    (origins : List Origin) : Type 0 where
  pub count : length origins ≡ length kept
  pub each : (i : ℕ) → 0 < i → i < length kept → IsOrigin runs kept i (origin_at origins i)

-- ---- kinds of runs
-- no turn leads nowhere, and turns may come after others
abbrev pub StayAndJoin : (World → List ℕ → World → Type 0) → Type 0
StayAndJoin runs = ((w : World) → runs w [] w)
    × ((w m z : World) (cs ds : List ℕ) → runs w cs m → runs m ds z → runs w (cs ++ ds) z)
