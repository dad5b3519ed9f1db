-- Where the moves from kept machines lead, in a patient search.
use Rattle.std.specs.Prelude.{◌≡◌, ℕ, ◌<◌, ◌≤◌, List, Option, Some, None, Vec, length, slice_get}
use Rattle.std.specs.declared.alloc.Global.{Global}
use Rattle.bpf_x86.specs.Machine.{TurnOf, FlushOf}
use Rattle.bpf_buffering.specs.Search.{BufferedState, MovesTo, CannotMove}
use Rattle.bpf_patience.specs.Ends.{LeadsToX86}
use Rattle.bpf_reorderings.specs.declared.edges.Edge.{Edge}
use Rattle.bpf_reorderings.specs.Private.Searching.{CannotMoveAt}

-- the flush of the CPU's buffer leads there, or nothing waits
abbrev pub FlushLeads : List BufferedState → ℕ → ℕ → Option ℕ → Type 0
FlushLeads kept i c None = CannotMoveAt kept i (FlushOf c)
FlushLeads kept i c (Some k) = (k < length kept) × LeadsToX86 kept i (FlushOf c) k

-- the moves of the CPU lead there from the i-th
pub record IsEdge (kept : List BufferedState) (i c : ℕ) (e : Edge) : Type 0 where
  pub inside : e.turn < length kept
  pub turn : LeadsToX86 kept i (TurnOf c) e.turn
  pub flush : FlushLeads kept i c e.flush

-- the CPU has no move from the i-th that changes anything
abbrev pub IsIdleAt : List BufferedState → ℕ → ℕ → Type 0
IsIdleAt kept i c = (m : BufferedState) → slice_get kept i ≡ Some m
    → MovesTo m (TurnOf c) m × CannotMove m (FlushOf c)

-- these are those of each CPU, and no other has any
pub record AreEdgesFrom (kept : List BufferedState) (i : ℕ) (row : List Edge) : Type 0 where
  pub each : (c : ℕ) (e : Edge) → slice_get row c ≡ Some e → IsEdge kept i c e
  pub beyond : (c : ℕ) → length row ≤ c → IsIdleAt kept i c

-- and these those from each
pub record AreEdges (kept : List BufferedState) (rows : List (Vec Edge Global)) : Type 0 where
  pub count : length rows ≡ length kept
  pub each : (i : ℕ) (row : Vec Edge Global) → slice_get rows i ≡ Some row
      → AreEdgesFrom kept i row.items
