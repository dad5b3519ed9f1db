-- How kept machines came about.
use Rattle.std.specs.Prelude.{◌≡◌, ℕ, ◌<◌, ◌+◌, Bool, true, false, List, Some, length, map, replicate, slice_get, slice_index_or}
use Rattle.bpf_x86.specs.Machine.{X86, Move, RunsMoves}
use Rattle.bpf_buffering.specs.Search.{BufferedState, ShowsX86, move_of}
use Rattle.bpf_buffering.specs.Album.{IsShownAt}
use Rattle.bpf_patience.specs.Patience.{RunsFreelyX86}
use Rattle.bpf_reorderings.specs.declared.explorer.Origin.{Origin}

abbrev pub no_origin : Origin
no_origin = record { from = 0; more = 0; made = 0 }

abbrev pub origin_at : List Origin → ℕ → Origin
origin_at origins i = slice_index_or origins i no_origin

-- the run of moves; in a patient search one in which jobs in hand may be given steps on the way
abbrev pub Runs : Bool → X86 → List Move → X86 → Type 0
Runs false x moves z = RunsMoves x moves z
Runs true x moves z = RunsFreelyX86 x moves z

-- the moves lead from what the i-th shows to what the j-th shows
abbrev pub LeadsBy : Bool → List BufferedState → ℕ → List Move → ℕ → Type 0
LeadsBy patient kept i moves j = (x : X86) → IsShownAt kept i x
    → (z : X86) × Runs patient x moves z × IsShownAt kept j z

-- some moves do
abbrev pub LeadsOn : Bool → List BufferedState → ℕ → ℕ → Type 0
LeadsOn patient kept i j = (moves : List Move) × LeadsBy patient kept i moves j

-- from what the first shows to what the second shows
abbrev pub LeadsTo : Bool → BufferedState → List Move → BufferedState → Type 0
LeadsTo patient old moves new =
    (x : X86) → ShowsX86 old x → (z : X86) × Runs patient x moves z × ShowsX86 new z

-- the moves of an origin
abbrev pub moves_of : Origin → List Move
moves_of o = map move_of (replicate (o.more + 1) o.made)

-- they led to the i-th from an earlier one
pub record IsOrigin (patient : Bool) (kept : List BufferedState) (i : ℕ) (o : Origin) : Type 0 where
  pub before : o.«from» < i
  pub leads : LeadsBy patient kept o.«from» (moves_of o) i

-- so each came about but the first
pub record AreOrigins (patient : Bool) (kept : List BufferedState) (origins : List Origin) : Type 0 where
  pub count : length origins ≡ length kept
  pub each : (i : ℕ) → 0 < i → i < length kept → IsOrigin patient kept i (origin_at origins i)

-- the moves lead from a kept machine to this one
abbrev pub IsLedFrom : Bool → List BufferedState → ℕ → List Move → BufferedState → Type 0
IsLedFrom patient kept place moves m = (old : BufferedState) × (slice_get kept place ≡ Some old)
    × LeadsTo patient old moves m
