-- Moves that were made from kept machines, and how far a search came.
use Rattle.std.specs.Prelude.{◌≡◌, ℕ, ◌<◌, ◌≤◌, ◌++◌, ◌⊎◌, Bool, true, false, List, Option, Some, None, length, map, slice_get}
use Rattle.bpf_machine.specs.Laws.{IsFresh}
use Rattle.bpf_machine.specs.Patient.{IsRefilled}
use Rattle.bpf_machine.specs.Schedule.{World}
use Rattle.bpf_x86.specs.Machine.{X86, Move, FlushOf, drained}
use Rattle.bpf_buffering.specs.Alike.{IsKeptAlikeX86, IsKeptAlikeAtX86}
use Rattle.bpf_buffering.specs.Search.{BufferedState, ShowsX86, CannotMove, move_of}
use Rattle.bpf_buffering.specs.Ahead.{MovesAhead, IsClosedX86}
use Rattle.bpf_buffering.specs.Album.{IsShownAt}
use Rattle.bpf_flushes.specs.Moves.{MakesAll}
use Rattle.bpf_patience.specs.Patience.{IsClosedRichlyX86, IsKeptRichlyX86}
use Rattle.bpf_patience.specs.Ends.{IsKeptRichlyAtX86}
use Rattle.bpf_explore.specs.declared.frontier.Extent.{Extent}
use Rattle.bpf_explore.specs.declared.frontier.Extent.TheVariants.{Whole, Limited, Refused}
use Rattle.bpf_reorderings.specs.Private.Trail.{LeadsBy}

-- a search that is patient or not: a machine to work with, and the kept ones
pub record Searched : Type 0 where
  pub patient : Bool
  pub machine : BufferedState
  pub kept : List BufferedState

-- more machines are after those that were there
abbrev pub Extends : List BufferedState → List BufferedState → Type 0
Extends old new = (more : List BufferedState) × (new ≡ old ++ more)

-- after a CPU's turn its job in hand has its whole budget back, in a patient search
abbrev pub IsFilled : Bool → BufferedState → ℕ → BufferedState → Type 0
IsFilled false old cpu new = new ≡ old
IsFilled true old cpu new = IsRefilled old.machine cpu new.machine × (new.buffers ≡ old.buffers)

-- all that the machine shows, a kept one shows but for dead registers; in a patient search but for richer
-- jobs, too
abbrev pub IsKept : Bool → List BufferedState → BufferedState → Type 0
IsKept false kept m = IsKeptAlikeX86 kept m
IsKept true kept m = IsKeptRichlyX86 kept m

-- the k-th shows all that so
abbrev pub IsKeptAt : Bool → List BufferedState → ℕ → BufferedState → Type 0
IsKeptAt false kept k m = IsKeptAlikeAtX86 kept k m
IsKeptAt true kept k m = IsKeptRichlyAtX86 kept k m

-- there is a k-th, which shows all that the machine shows but for dead registers
abbrev pub IsFoundAt : List BufferedState → ℕ → BufferedState → Type 0
IsFoundAt kept k m = (k < length kept) × IsKeptAlikeAtX86 kept k m

-- the move from the i-th kept machine, and turns that are unseen after it, lead to the k-th
abbrev pub IsMovedTo : Bool → List BufferedState → ℕ → Move → ℕ → Type 0
IsMovedTo patient kept i move k = (k < length kept) × ((m : BufferedState) → slice_get kept i ≡ Some m
    → (new : BufferedState) × MovesAhead m move new × IsKeptAt patient kept k new)

-- it can't be made from the i-th
abbrev pub CannotMoveAt : List BufferedState → ℕ → Move → Type 0
CannotMoveAt kept i move = (m : BufferedState) → slice_get kept i ≡ Some m → CannotMove m move

-- so it is with the flush of a CPU's buffer, or it can't be made
abbrev pub IsFlushedTo : Bool → List BufferedState → ℕ → ℕ → Option ℕ → Type 0
IsFlushedTo patient kept i c None = CannotMoveAt kept i (FlushOf c)
IsFlushedTo patient kept i c (Some k) = IsMovedTo patient kept i (FlushOf c) k

-- the move from the i-th kept machine, and turns that are unseen after it, lead to one that is kept; or
-- it can't be made
abbrev pub IsMoved : Bool → List BufferedState → ℕ → Move → Type 0
IsMoved patient kept i move = (m : BufferedState) → slice_get kept i ≡ Some m
    → ((new : BufferedState) × MovesAhead m move new × IsKept patient kept new)
    ⊎ CannotMove m move

-- so does each move
abbrev pub IsExpanded : Bool → List BufferedState → ℕ → Type 0
IsExpanded patient kept i = (move : Move) → IsMoved patient kept i move

-- and each move of each
abbrev pub IsClosed : Bool → List BufferedState → Type 0
IsClosed false kept = IsClosedX86 kept
IsClosed true kept = IsClosedRichlyX86 kept

-- the first shows this machine, before its first turn, with empty buffers
abbrev pub BeginsAt : List BufferedState → World → Type 0
BeginsAt kept w = IsFresh w × IsShownAt kept 0 (drained w)

-- the moves lead there, where flushes for nothing are passed over
abbrev pub IsTried : List BufferedState → List Move → BufferedState → Type 0
IsTried kept moves m = (w : World) → BeginsAt kept w
    → (z : X86) × MakesAll (drained w) moves z × ShowsX86 m z

-- a schedule leads to each from the first
abbrev pub AreLed : Bool → List BufferedState → Type 0
AreLed patient kept = (i : ℕ) → i < length kept
    → (schedule : List ℕ) × LeadsBy patient kept 0 (map move_of schedule) i

-- the search came this far, where these are kept
pub record CameTo (patient : Bool) (kept : List BufferedState) (extent : Extent) (limit : ℕ)
    : Type 0 where
  pub whole : extent ≡ Whole → IsClosed patient kept
  pub met : extent ≡ Limited → limit < length kept
  pub short : extent ≡ Refused → length kept ≤ limit
