-- What a search through the moves of the x86 machine keeps, and what follows for its moves.
use Rattle.std.specs.Prelude.{◌≡◌, ℕ, ◌<◌, ◌≤◌, ◌-◌, nat_lt, List, [], length, ◌⊎◌, Some, slice_get, slice_index_or, map, if◌then◌else◌}
use Rattle.bpf_shared.specs.declared.events.Event.{Event}
use Rattle.bpf_machine.specs.Laws.{IsFresh}
use Rattle.bpf_machine.specs.Schedule.{World}
use Rattle.bpf_machine.specs.Rounds.{HaveEnded}
use Rattle.bpf_machine.specs.Machine.{MachineState, Shows}
use Rattle.bpf_shared.specs.Store.{Plain, put}
use Rattle.bpf_x86.specs.Buffers.{Buffered, Flushes, Calls, CallsAll}
use Rattle.bpf_x86.specs.Machine.{X86, Move, TurnOf, FlushOf, Moves, RunsMoves, none_waits, drained}

-- ---- what a search keeps
-- the machine whose store is memory, and by CPU the stores that wait, the oldest first
pub record BufferedState : Type 0 where
  pub machine : MachineState
  pub buffers : List (List Event)

-- CPUs beyond the list have nothing that waits
abbrev pub buffer_at : List (List Event) → ℕ → List Event
buffer_at buffers c = slice_index_or buffers c []

-- it shows this machine
pub record ShowsX86 (m : BufferedState) (x : X86) : Type 0 where
  pub world : Shows m.machine x.world
  pub buffers : x.buffers ≡ buffer_at m.buffers

-- a kept one does
abbrev pub IsShownX86 : List BufferedState → X86 → Type 0
IsShownX86 kept x = (i : ℕ) × (m : BufferedState) × (slice_get kept i ≡ Some m) × ShowsX86 m x

-- the move leads from what the first shows to what the second shows
abbrev pub MovesTo : BufferedState → Move → BufferedState → Type 0
MovesTo old move new =
    (x : X86) → ShowsX86 old x → (z : X86) × Moves x move z × ShowsX86 new z

-- so do several, in order
abbrev pub RunsTo : BufferedState → List Move → BufferedState → Type 0
RunsTo old moves new =
    (x : X86) → ShowsX86 old x → (z : X86) × RunsMoves x moves z × ShowsX86 new z

-- no machine that it shows makes this move: a flush where nothing waits
abbrev pub CannotMove : BufferedState → Move → Type 0
CannotMove m move = (x z : X86) → ShowsX86 m x → Moves x move z → ⊥

-- all that the machine shows, a kept one shows
abbrev pub IsKeptAsX86 : List BufferedState → BufferedState → Type 0
IsKeptAsX86 kept m = (x : X86) → ShowsX86 m x → IsShownX86 kept x

-- ---- the laws
-- a move has one course
abbrev pub MovesAreDetermined : Type 0
MovesAreDetermined = (w : World) (moves : List Move) (y z : X86) → IsFresh w
    → RunsMoves (drained w) moves y → RunsMoves (drained w) moves z → y ≡ z

-- where all jobs have ended, nothing waits
abbrev pub NothingWaitsAtLast : Type 0
NothingWaitsAtLast = (w : World) (moves : List Move) (z : X86) → RunsMoves (drained w) moves z
    → HaveEnded z.world.jobs → z ≡ drained z.world

-- ---- schedules as numbers: below 128 the turn of this CPU, from there on the flush of its buffer
abbrev pub move_of : ℕ → Move
move_of n = if nat_lt n 128 then TurnOf n else FlushOf (n - 128)

abbrev pub RunsScheduleX86 : World → List ℕ → X86 → Type 0
RunsScheduleX86 w schedule z = RunsMoves (drained w) (map move_of schedule) z

-- ---- a buffer that has room for this many stores: one more, and the oldest is flushed
abbrev pub Eases : ℕ → Buffered → ℕ → Buffered → Type 0
Eases bound m c t =
    ((length (m.buffers c) ≤ bound) × (t ≡ m)) ⊎ ((bound < length (m.buffers c)) × Flushes m c t)

abbrev pub CallsWithin : ℕ → Buffered → ℕ → Event → Buffered → Type 0
CallsWithin bound b c e t = (m : Buffered) × Calls b c e m × Eases bound m c t

-- ---- one CPU's buffer: the others hold nothing
abbrev pub alone : Plain → ℕ → List Event → Buffered
alone s c es = record { memory = s; buffers = put none_waits c es }

-- what a CPU does so it does beside any other buffers, and leaves them
abbrev pub CallsAreLocal : Type 0
CallsAreLocal = (s t : Plain) (c : ℕ) (es events fs : List Event) (others : ℕ → List Event)
    → others c ≡ es → CallsAll (alone s c es) c events (alone t c fs)
    → CallsAll (record { memory = s; buffers = others }) c events
    (record { memory = t; buffers = put others c fs })
