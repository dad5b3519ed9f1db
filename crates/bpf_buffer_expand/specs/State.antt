-- States of a host whose CPUs have store buffers, each as bytes.
use Rattle.std.specs.Prelude.{◌≡◌, ◌≢◌, ◌<◌, ◌≤◌, ◌-◌, ◌+◌, ◌*◌, ◌%◌, ℕ, Bool, false, true, ◌++◌, ◌⊎◌, All, List, [], length, map}
use Rattle.std.specs.Prelude.{Some, slice_get, slice_index_or}
use Rattle.std.specs.List.{AllByRecursion}
use Rattle.bpf_shared.specs.Access.{bytes_in}
use Rattle.bpf_shared.specs.Shape.{Shape, IsArray, IsWithin}
use Rattle.bpf_shared.specs.declared.events.Span.{Span}
use Rattle.bpf_shared.specs.declared.shapes.ArrayShape.{ArrayShape}
use Rattle.bpf_names.specs.Names.{Names}
use Rattle.bpf_plain.specs.PlainStore.{IsSavedAs}
use Rattle.bpf_helpers.specs.Arrays.{array_start}
use Rattle.bpf_helpers.specs.Held.{is_covered}
use Rattle.bpf_cpu.specs.declared.cpu.Cpu.{Cpu}
use Rattle.bpf_cpu.specs.Task.{Task, InHand}
use Rattle.bpf_machine.specs.Hands.{IsAt, IsFree, NoneWaits}
use Rattle.bpf_machine.specs.Saved.{jobs_saved}
use Rattle.bpf_x86.specs.Machine.{X86, Move, TurnOf, FlushOf, Moves}
use Rattle.bpf_buffering.specs.declared.waiting.Stored.{Stored}
use Rattle.bpf_buffering.specs.Waiting.{event_of}
use Rattle.bpf_buffering.specs.Search.{BufferedState, ShowsX86, buffer_at}
use Rattle.bpf_buffering.specs.Ahead.{TakesUnseen}
use Rattle.bpf_jobs.specs.Printed.{Tells}
use Rattle.bpf_expand.specs.State.{Host, IsOf, Fills, HasWork}
use Rattle.bpf_buffer_expand.specs.declared.successor.Successor.{Successor}
use Rattle.bpf_buffer_expand.specs.Saved.{buffers_saved, AreSavable}

-- a host, and a machine of it to work with
pub record ExpanderState : Type 0 where
  pub host : Host
  pub machine : BufferedState

-- the n bytes from the address a on are in a value of this array, which a CPU may write
abbrev pub IsOpenIn : Shape → ℕ → ℕ → ℕ → Type 0
IsOpenIn h a n number = (array : ArrayShape) × IsArray h.arrays number array
    × (array.frozen ≡ false) × (array_start number ≤ a)
    × IsWithin h.cpus array (a - array_start number) n

-- so they are in one of some array
abbrev pub IsOpen : Shape → ℕ → ℕ → Type 0
IsOpen h a n = (number : ℕ) × IsOpenIn h a n number

-- a run that holds these spans may have made the store: there, or in an array
abbrev pub MayHaveStored : Shape → List Span → Stored → Type 0
MayHaveStored h held e = (e.at % bytes_in e.size ≡ 0)
    × ((is_covered held e.at (bytes_in e.size) ≡ true) ⊎ IsOpen h e.at (bytes_in e.size))

-- the run of a job that the CPU has in hand may have made these
abbrev pub HasStored : Shape → List Task → ℕ → List Stored → Type 0
HasStored h jobs c es = (j : ℕ) × (task : Task) × (state : Cpu) × (left : ℕ)
    × IsAt jobs c j task (InHand state left) × All (MayHaveStored h state.held) es

-- what waits of each CPU is nothing, or what its run may have stored
pub record AreBuffers (h : Shape) (jobs : List Task) (buffers : List (List Stored)) : Type 0 where
  pub count : length buffers ≡ h.cpus
  pub savable : AllByRecursion AreSavable buffers
  pub each : (c : ℕ) → c < length buffers → (slice_index_or buffers c [] ≡ [])
      ⊎ HasStored h jobs c (slice_index_or buffers c [])

-- a machine of the host is saved as these bytes: its jobs, what waits, and its store
pub record IsStateOf (h : Host) (m : BufferedState) (bytes : List ℕ) : Type 0 where
  pub of : IsOf h m.machine
  pub waiting : List (List Stored)
  pub buffers : m.buffers ≡ map (map event_of) waiting
  pub fit : AreBuffers h.shape m.machine.jobs waiting
  pub store : List ℕ
  pub stored : IsSavedAs m.machine.store store
  pub saved : bytes ≡ jobs_saved m.machine.jobs ++ (buffers_saved waiting ++ store)

-- no machine of the host is saved so
abbrev pub IsNoState : Host → List ℕ → Type 0
IsNoState h bytes = (m : BufferedState) → IsStateOf h m bytes → ⊥

-- the turn of a CPU, or the flush of its oldest store
abbrev pub move_at : ℕ → (is_flush : Bool) → Move
move_at c false = TurnOf c
move_at c true = FlushOf c

-- the CPU has no work; or none of its stores waits
abbrev pub HasNone : BufferedState → Move → Type 0
HasNone m (TurnOf c) = IsFree m.machine.jobs c × NoneWaits m.machine.jobs c
HasNone m (FlushOf c) = buffer_at m.buffers c ≡ []

-- it has work; or some store of it waits
abbrev pub HasSome : BufferedState → Move → Type 0
HasSome m (TurnOf c) = HasWork m.machine c
HasSome m (FlushOf c) = buffer_at m.buffers c ≢ []

-- it is so in a machine that is saved as these bytes
abbrev pub HasNoneIn : Host → List ℕ → Move → Type 0
HasNoneIn h bytes move = (m : BufferedState) × IsStateOf h m bytes × HasNone m move

abbrev pub HasSomeIn : Host → List ℕ → Move → Type 0
HasSomeIn h bytes move = (m : BufferedState) × IsStateOf h m bytes × HasSome m move

-- the move, and then n turns of the CPU that no other CPU sees, lead from what the first shows to what
-- the second shows
abbrev pub LeadsAhead : BufferedState → Move → ℕ → ℕ → BufferedState → Type 0
LeadsAhead old move c n new = (x : X86) → ShowsX86 old x
    → (y : X86) × (z : X86) × Moves x move y × TakesUnseen n y c z × ShowsX86 new z

-- where budgets are passed over, the job in the CPU's hand has its whole one back
abbrev pub FillsX86 : (patient : Bool) → BufferedState → ℕ → BufferedState → Type 0
FillsX86 patient old c new =
    Fills patient old.machine c new.machine × (new.buffers ≡ old.buffers)

-- so it leads where budgets may be passed over
abbrev pub Leads : Host → BufferedState → Move → ℕ → ℕ → BufferedState → Type 0
Leads h old move c n new =
    (mid : BufferedState) × LeadsAhead old move c n mid × FillsX86 h.patient mid c new

-- it leads from a machine that is saved as the first bytes to one that is saved as the others
abbrev pub IsSuccessor : Host → List ℕ → Move → ℕ → ℕ → List ℕ → Type 0
IsSuccessor h bytes move c n next = (m new : BufferedState) × IsStateOf h m bytes
    × Leads h m move c n new × IsStateOf h new next

-- ---- all that moves lead to
abbrev pub move_of : Successor → Move
move_of s = move_at s.cpu s.is_flush

-- by rising CPU the turn, and then the flush
abbrev pub place_at : ℕ → (is_flush : Bool) → ℕ
place_at c false = 2 * c
place_at c true = 2 * c + 1

abbrev pub place_of : Successor → ℕ
place_of s = place_at s.cpu s.is_flush

-- one of them is what the move leads to
abbrev pub HasSuccessor : Host → List ℕ → List Successor → Move → Type 0
HasSuccessor h bytes found move =
    (i : ℕ) × (s : Successor) × (slice_get found i ≡ Some s) × (move_of s ≡ move)
    × IsSuccessor h bytes move s.cpu s.ahead s.bytes.items

-- each is what the turns of a CPU with work lead to, or the flush of the oldest of its stores that wait,
-- by rising CPU, and none is left out
pub record AreSuccessors (h : Host) (bytes : List ℕ) (found : List Successor) : Type 0 where
  pub each : All (λ s. IsSuccessor h bytes (move_of s) s.cpu s.ahead s.bytes.items) found
  pub work : All (λ s. HasSomeIn h bytes (move_of s)) found
  pub rising : (i j : ℕ) (s later : Successor) → i < j → slice_get found i ≡ Some s
      → slice_get found j ≡ Some later → place_of s < place_of later
  pub all : (move : Move) → HasNoneIn h bytes move ⊎ HasSuccessor h bytes found move

-- this is printed of the machine's jobs, maps and arrays, which have these names, whatever it shows
abbrev pub IsToldX86 : BufferedState → Names → List ℕ → Type 0
IsToldX86 m names text = (stopped : Bool)
    × ((x : X86) → ShowsX86 m x → Tells x.world.store x.world.jobs names true text stopped)
