-- What happens in the moves of the x86 machine: the calls of CPUs with their replies, and each waiting store
-- where it reaches memory.
use Rattle.std.specs.Prelude.{◌≡◌, ℕ, zero, suc, Bool, true, false, List, [], ◌∷◌, ◌++◌, ◌⊎◌, Some, map, slice_get, if◌then◌else◌}
use Rattle.bpf_shared.specs.declared.events.Event.{Event}
use Rattle.bpf_shared.specs.declared.events.Event.TheVariants.{Begin, Lookup, Update, Load, Store}
use Rattle.bpf_shared.specs.declared.events.MapAnswer.TheVariants.{Invalid}
use Rattle.bpf_loader.specs.Loaded.{Loaded}
use Rattle.bpf_cpu.specs.declared.cpu.Cpu.{Cpu}
use Rattle.bpf_cpu.specs.declared.input.Input.{Input}
use Rattle.bpf_cpu.specs.declared.outcome.Progress.{Progress}
use Rattle.bpf_cpu.specs.State.{start}
use Rattle.bpf_cpu.specs.Step.{Step}
use Rattle.bpf_cpu.specs.Task.{Task, Waiting, InHand}
use Rattle.bpf_machine.specs.declared.machine.Turn.{Turn}
use Rattle.bpf_machine.specs.Happenings.{Happening, happening, end_events}
use Rattle.bpf_machine.specs.Hands.{IsAt, IsFree, NoneWaitsBelow, NoneWaits}
use Rattle.bpf_machine.specs.Rounds.{HaveEnded}
use Rattle.bpf_machine.specs.Schedule.{World}
use Rattle.bpf_x86.specs.Buffers.{Buffered, Calls, CallsAll}
use Rattle.bpf_x86.specs.Machine.{X86, Move, TurnOf, FlushOf, buffered, with_buffered, drained, TakesTurn}
use Rattle.bpf_buffering.specs.Search.{move_of}
use Rattle.bpf_flushes.specs.Moves.{Makes, round_below}

-- a call of a CPU; or a store in its buffer reaches memory
pub data Item : Type 0 where
  Called : Happening → Item
  Flushed : ℕ → Event → Item

-- ---- what calls do to what waits
-- the call drains the CPU's buffer
abbrev pub drains : Event → Bool
drains (Load a size found) = false
drains (Store a size x) = false
drains (Lookup m key found) = false
drains (Update m key bytes flags Invalid) = false
drains e = true

-- what waits after a call
abbrev pub waiting_after : List Event → Event → List Event
waiting_after waiting (Store a size x) = waiting ++ Store a size x ∷ []
waiting_after waiting e = if drains e then [] else waiting

abbrev pub all_after : List Event → List Event → List Event
all_after waiting [] = waiting
all_after waiting (e ∷ es) = all_after (waiting_after waiting e) es

-- of a CPU that is there, the calls in order; before one that drains come the stores that waited
abbrev pub items : ℕ → (Event → Happening) → List Event → List Event → List Item
items c there waiting [] = []
items c there waiting (e ∷ es) = map (Flushed c) (if drains e then waiting else [])
    ++ Called (there e) ∷ items c there (waiting_after waiting e) es

-- ---- turns
-- the calls of the next step of a job that runs this program, if its budget has one left
abbrev pub HasCalls : X86 → ℕ → ℕ → Cpu → ℕ → List Event → Type 0
HasCalls x c number old zero events = events ≡ []
HasCalls x c number old (suc n) events =
    (program : Loaded) × (answer : Progress) × (new : Cpu) × (t : Buffered)
    × (slice_get x.world.programs number ≡ Some program)
    × Step x.world.store.shape program old events answer new × CallsAll (buffered x) c events t

-- WHAT HAPPENS IN A TURN that leads to this: the job in hand goes on; or the lowest that waits enters
-- its run, and goes on; or nothing happens
abbrev pub Happens : X86 → ℕ → Turn → List Item → Type 0
Happens x c answer log =
    ((j : ℕ) × (task : Task) × (state : Cpu) × (left : ℕ) × (events : List Event)
    × IsAt x.world.jobs c j task (InHand state left) × HasCalls x c task.program state left events
    × (log ≡ items c (happening c j state.pc) (x.buffers c) (events ++ end_events answer)))
    ⊎ (IsFree x.world.jobs c × ((j : ℕ) × (task : Task) × (input : Input) × (b : Buffered)
    × (events : List Event) × IsAt x.world.jobs c j task (Waiting input)
    × NoneWaitsBelow x.world.jobs c j × Calls (buffered x) c Begin b
    × HasCalls (with_buffered x b) c task.program (start c input) task.budget events
    × (log ≡ items c (happening c j 0) (x.buffers c) (Begin ∷ events ++ end_events answer))))
    ⊎ (IsFree x.world.jobs c × NoneWaits x.world.jobs c × (log ≡ []))

-- ---- moves
abbrev pub oldest : List Event → List Event
oldest [] = []
oldest (e ∷ es) = e ∷ []

-- a move with all that happens in it
abbrev pub MakesWith : X86 → Move → List Item → X86 → Type 0
MakesWith x (TurnOf c) log z =
    (answer : Turn) × TakesTurn x c answer z × Happens x c answer log
MakesWith x (FlushOf c) log z =
    Makes x (FlushOf c) z × (log ≡ map (Flushed c) (oldest (x.buffers c)))

-- some moves, in order
abbrev pub MakesAllWith : X86 → List Move → List Item → X86 → Type 0
MakesAllWith x [] log z = (z ≡ x) × (log ≡ [])
MakesAllWith x (move ∷ moves) log z =
    (y : X86) × (first : List Item) × (rest : List Item) × MakesWith x move first y
    × MakesAllWith y moves rest z × (log ≡ first ++ rest)

-- n rounds, until each job has an outcome
abbrev pub MakesRoundsWith : ℕ → X86 → List Item → X86 → Type 0
MakesRoundsWith zero x log z = HaveEnded x.world.jobs × (z ≡ x) × (log ≡ [])
MakesRoundsWith (suc n) x log z =
    (HaveEnded x.world.jobs → ⊥) × ((y : X86) × (first : List Item) × (rest : List Item)
    × MakesAllWith x (round_below x.world.store.shape.cpus) first y × MakesRoundsWith n y rest z
    × (log ≡ first ++ rest))

-- THE MOVES OF A SCHEDULE AND ROUNDS AFTER THEM, with all that happens in them
abbrev pub RunsWithEvents : World → List ℕ → List Item → X86 → Type 0
RunsWithEvents w schedule log z =
    (y : X86) × (first : List Item) × (n : ℕ) × (rest : List Item)
    × MakesAllWith (drained w) (map move_of schedule) first y × MakesRoundsWith n y rest z
    × (log ≡ first ++ rest)
