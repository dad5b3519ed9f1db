-- What a machine keeps of each job, and of each CPU.
use Rattle.std.specs.Prelude.{◌≡◌, ℕ, ◌<◌, ◌≤◌, Bool, true, false, List, Option, Some, None, is_some, length, map, slice_get, slice_index_or}
use Rattle.std.specs.Option.{option_or}
use Rattle.bpf_shared.specs.declared.events.Span.{Span}
use Rattle.bpf_loader.specs.Loaded.{Loaded}
use Rattle.bpf_cpu.specs.declared.input.Input.{Input}
use Rattle.bpf_cpu.specs.declared.job.Job.{Job}
use Rattle.bpf_cpu.specs.Input.{IsShort, no_input}
use Rattle.bpf_machine.specs.declared.machine.lane.Listed.{Listed}
use Rattle.bpf_machine.specs.declared.machine.lane.Phase.{Phase}
use Rattle.bpf_machine.specs.declared.machine.lane.Phase.TheVariants as phase
use Rattle.bpf_machine.specs.declared.machine.lane.Hand.{Hand}
use Rattle.bpf_machine.specs.declared.machine.lane.Lane.{Lane}
use Rattle.bpf_helpers.specs.Held.{AreHeld}
use Rattle.bpf_cpu.specs.Step.{IsReady}
use Rattle.bpf_cpu.specs.Task.{Stage, Task, Waiting, InHand, Ended}

-- the CPU's first job from a number on, or the number of all jobs
pub record IsFirstJob (jobs : List Listed) (cpu «from» n : ℕ) : Type 0 where
  pub above : «from» ≤ n
  pub within : n ≤ length jobs
  pub none : (k : ℕ) (x : Listed) → «from» ≤ k → k < n → slice_get jobs k ≡ Some x → x.cpu ≡ cpu → ⊥
  pub found : (x : Listed) → slice_get jobs n ≡ Some x → x.cpu ≡ cpu

-- a job as it is listed at first
abbrev pub first_entry : Job → Listed
first_entry job = record {
  cpu = job.cpu;
  program = job.program;
  budget = job.budget;
  phase = phase.Waiting job.input;
}

-- a job of the same CPU and program, with nothing given
abbrev pub empty_job : Listed → Job
empty_job x = record { cpu = x.cpu; program = x.program; budget = x.budget; input = no_input }

-- a CPU without work
abbrev pub no_lane : Lane
no_lane = record { hand = None; rest = None; next = 0 }

-- the room that it has for a job: what is in hand, or else what was there before
abbrev pub room_of : Lane → Option Hand
room_of l = option_or l.hand l.rest

abbrev pub lane_of : List Lane → ℕ → Lane
lane_of lanes cpu = slice_index_or lanes cpu no_lane

-- ---- what they show
abbrev pub stage_of : Option Hand → Phase → Stage
stage_of hand (phase.Waiting input) = Waiting input
stage_of hand (phase.Ended outcome) = Ended outcome
stage_of (Some hand) phase.InHand = InHand hand.cpu hand.left
stage_of None phase.InHand = Waiting no_input

abbrev pub task_of : List Lane → Listed → Task
task_of lanes x = record {
  cpu = x.cpu;
  program = x.program;
  budget = x.budget;
  stage = stage_of (lane_of lanes x.cpu).hand x.phase;
}

abbrev pub tasks_of : List Lane → List Listed → List Task
tasks_of lanes jobs = map (task_of lanes) jobs

-- ---- what they keep true

-- the CPU's jobs wait from its next on; the one in hand is determined by its number
abbrev pub FitsLane : Lane → ℕ → Phase → Type 0
FitsLane l j (phase.Waiting input) = l.next ≤ j
FitsLane l j phase.InHand = (j < l.next) × ((h : Hand) × (l.hand ≡ Some h) × (h.job ≡ j))
FitsLane l j (phase.Ended outcome) = j < l.next

pub record IsListed (serves : ℕ → Bool) (programs : List Loaded) (lanes : List Lane) (j : ℕ)
    (x : Listed) : Type 0 where
  pub program : x.program < length programs
  pub served : serves x.cpu ≡ true
  pub within : x.cpu < length lanes
  pub fits : FitsLane (lane_of lanes x.cpu) j x.phase
  pub short : (input : Input) → x.phase ≡ phase.Waiting input → IsShort input

-- a job in hand
pub record IsHand (programs : List Loaded) (jobs : List Listed) (cpu : ℕ) (h : Hand) : Type 0 where
  pub job : Listed
  pub listed : slice_get jobs h.job ≡ Some job
  pub of : job.cpu ≡ cpu
  pub in_hand : job.phase ≡ phase.InHand
  pub number : h.cpu.number ≡ cpu
  pub program : Loaded
  pub loaded : slice_get programs job.program ≡ Some program
  pub ready : IsReady program h.cpu

pub record IsLane (running : ℕ → Bool) (reach : ℕ → Span → Bool) (programs : List Loaded)
    (jobs : List Listed) (cpu : ℕ) (l : Lane) : Type 0 where
  pub runs : running cpu ≡ is_some l.hand
  pub hand : (h : Hand) → l.hand ≡ Some h → IsHand programs jobs cpu h
  pub held : (h : Hand) → l.hand ≡ Some h → AreHeld (reach cpu) h.cpu.held
  pub next : (x : Listed) → slice_get jobs l.next ≡ Some x → x.cpu ≡ cpu
  pub within : l.next ≤ length jobs

pub record IsBoard (serves running : ℕ → Bool) (reach : ℕ → Span → Bool) (programs : List Loaded)
    (jobs : List Listed) (lanes : List Lane) : Type 0 where
  pub each_job : (j : ℕ) (x : Listed) → slice_get jobs j ≡ Some x
      → IsListed serves programs lanes j x
  pub each_lane : (cpu : ℕ) → cpu < length lanes
      → IsLane running reach programs jobs cpu (lane_of lanes cpu)
  -- no CPU beyond them is in a run
  pub idle : (cpu : ℕ) → length lanes ≤ cpu → running cpu ≡ false
