-- A machine's lists, as they are made again of kept jobs.
use Rattle.std.specs.Prelude.{◌≡◌, ℕ, ◌<◌, ◌≤◌, Bool, true, false, Box, List, Option, Some, None, length, slice_index_or}
use Rattle.std.specs.declared.alloc.Global.{Global}
use Rattle.bpf_machine.specs.declared.machine.lane.Listed.{Listed}
use Rattle.bpf_machine.specs.declared.machine.lane.Phase.{Phase}
use Rattle.bpf_machine.specs.declared.machine.lane.Phase.TheVariants as phase
use Rattle.bpf_machine.specs.declared.machine.lane.Hand.{Hand}
use Rattle.bpf_machine.specs.declared.machine.lane.Lane.{Lane}
use Rattle.bpf_cpu.specs.declared.input.Input.{Input}
use Rattle.bpf_cpu.specs.declared.cpu.Cpu.{Cpu}
use Rattle.bpf_cpu.specs.Task.{Stage, Task, Waiting, InHand, Ended}
pub use Rattle.bpf_machine.specs.Parts.{in_hand}
use Rattle.bpf_machine.specs.Parts.{chosen_at}
use Rattle.bpf_machine.specs.Private.Lanes.{room_of, stage_of}

abbrev pub waits : Stage → Bool
waits (Waiting input) = true
waits (InHand state left) = false
waits (Ended outcome) = false

-- the task is that of a job on the CPU of this lane
pub record IsReadAs (l : Lane) (x : Listed) (task : Task) : Type 0 where
  pub cpu : x.cpu ≡ task.cpu
  pub program : x.program ≡ task.program
  pub budget : x.budget ≡ task.budget
  pub stage : task.stage ≡ stage_of l.hand x.phase

-- ---- jobs that are read
-- the job is in hand, with memory as large as it is given
abbrev pub HasRoom : Input → Stage → Type 0
HasRoom input (InHand state left) =
    (length state.memory.context ≡ length input.context)
    × (length state.memory.packet ≡ length input.packet)
HasRoom input (Waiting own) = ⊥
HasRoom input (Ended outcome) = ⊥

-- ---- entries
abbrev pub no_entry : Listed
no_entry = record { cpu = 0; program = 0; budget = 0; phase = phase.InHand }

abbrev pub entry_at : List Listed → ℕ → Listed
entry_at jobs k = slice_index_or jobs k no_entry

abbrev pub IsPhaseOf : Stage → Phase → Type 0
IsPhaseOf (Waiting input) (phase.Waiting other) = other ≡ input
IsPhaseOf (InHand state left) phase.InHand = Unit {0}
IsPhaseOf (Ended outcome) (phase.Ended end) = end ≡ outcome
IsPhaseOf _ _ = ⊥

pub record IsEntryOf (task : Task) (x : Listed) : Type 0 where
  pub cpu : x.cpu ≡ task.cpu
  pub program : x.program ≡ task.program
  pub budget : x.budget ≡ task.budget
  pub phase : IsPhaseOf task.stage x.phase

-- ---- lanes
-- the hand that a job in this stage has
abbrev pub IsHandOf : Stage → ℕ → Option Hand → Type 0
IsHandOf (Waiting input) j o = o ≡ None
IsHandOf (InHand state left) j o = o ≡ Some (record { job = j; cpu = state; left = left })
IsHandOf (Ended outcome) j o = o ≡ None

-- the CPU's first job that waits, or the number of all jobs
pub record IsFirstWaiting (parts : List Task) (numbers : List ℕ) (c n : ℕ) : Type 0 where
  pub within : n ≤ length numbers
  pub none : (k : ℕ) → k < n → (chosen_at parts numbers k).cpu ≡ c
      → waits (chosen_at parts numbers k).stage ≡ false
  pub found : n < length numbers → ((chosen_at parts numbers n).cpu ≡ c)
      × (waits (chosen_at parts numbers n).stage ≡ true)

pub record IsLaneOf (parts : List Task) (numbers : List ℕ) (c : ℕ) (l : Lane) : Type 0 where
  pub hand : (h : Hand) → l.hand ≡ Some h → (h.job < length numbers)
      × ((chosen_at parts numbers h.job).cpu ≡ c)
      × ((chosen_at parts numbers h.job).stage ≡ InHand h.cpu h.left)
  pub free : l.hand ≡ None → (k : ℕ) → k < length numbers → (chosen_at parts numbers k).cpu ≡ c
      → in_hand (chosen_at parts numbers k).stage ≡ false
  pub next : IsFirstWaiting parts numbers c l.next

-- ---- lanes that are filled anew, without memory
-- the CPU's first job in hand
pub record IsFirstHand (parts : List Task) (numbers : List ℕ) (c j : ℕ) : Type 0 where
  pub within : j < length numbers
  pub of : (chosen_at parts numbers j).cpu ≡ c
  pub found : in_hand (chosen_at parts numbers j).stage ≡ true
  pub first : (k : ℕ) → k < j → (chosen_at parts numbers k).cpu ≡ c
      → in_hand (chosen_at parts numbers k).stage ≡ false

-- contexts of one length, and packets of one length
abbrev pub AreAsLarge : Cpu → Cpu → Type 0
AreAsLarge cpu other =
    (length cpu.memory.context ≡ length other.memory.context)
    × (length cpu.memory.packet ≡ length other.memory.packet)

-- the job's memory is as large as that of the hand
abbrev pub FitsIn : Stage → Option Hand → Type 0
FitsIn (InHand state left) (Some h) = AreAsLarge state h.cpu
FitsIn _ _ = ⊥

abbrev pub CanFill : List Task → List ℕ → ℕ → Lane → Type 0
CanFill parts numbers c l = (j : ℕ) → IsFirstHand parts numbers c j
    → FitsIn (chosen_at parts numbers j).stage (room_of l)

-- ---- lanes beside those that can be filled
-- the spare one is the CPU's; where there is none, that which is there can be filled
abbrev pub IsSpareFor : List Task → List ℕ → ℕ → Lane → Option (Box Lane Global) → Type 0
IsSpareFor parts numbers c l (Some spare) = IsLaneOf parts numbers c spare.value
IsSpareFor parts numbers c l None = CanFill parts numbers c l

abbrev pub spare_of : List (Option (Box Lane Global)) → ℕ → Option (Box Lane Global)
spare_of spares c = slice_index_or spares c None
