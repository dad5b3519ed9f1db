-- From which kept machines an end can be reached, and those from which none can, while it is found.
use Rattle.std.specs.Prelude.{◌≡◌, ℕ, ◌<◌, ◌⊎◌, Bool, true, false, List, Some, length, slice_get}
use Rattle.bpf_cpu.specs.Task.{Task}
use Rattle.bpf_machine.specs.Patient.{AsRich, NoneRanOut}
use Rattle.bpf_machine.specs.Schedule.{World, unrolled}
use Rattle.bpf_x86.specs.Machine.{X86}
use Rattle.bpf_buffering.specs.Album.{IsShownAt}
use Rattle.bpf_buffering.specs.Alike.{with_x86_jobs}
use Rattle.bpf_buffering.specs.Search.{BufferedState, RunsScheduleX86}
use Rattle.bpf_patience.specs.Ends.{AreStuckX86, EndsInX86}
use Rattle.bpf_reorderings.specs.declared.edges.Edge.{Edge}
use Rattle.bpf_reorderings.specs.Patient.{HangsByX86}
use Rattle.bpf_reorderings.specs.Private.Searching.{BeginsAt}
use Rattle.bpf_reorderings.specs.Private.Trail.{LeadsOn}

-- no job of the i-th has ended out of budget
abbrev pub NoneRanOutAt : List BufferedState → ℕ → Type 0
NoneRanOutAt kept i = (m : BufferedState) → slice_get kept i ≡ Some m → NoneRanOut m.machine.jobs

-- nor of any
abbrev pub AllGoOn : List BufferedState → Type 0
AllGoOn kept = (i : ℕ) → NoneRanOutAt kept i

-- a move of the CPU leads there
abbrev pub GoesTo : Edge → ℕ → Type 0
GoesTo e k = (e.turn ≡ k) ⊎ (e.flush ≡ Some k)

-- moves lead from it to an end
abbrev pub LeadsToEnd : List BufferedState → ℕ → Type 0
LeadsToEnd kept i = (n : ℕ) × EndsInX86 kept n i

-- so they do from each that is marked
abbrev pub LeadToEnds : List BufferedState → List Bool → Type 0
LeadToEnds kept marks = (i : ℕ) → slice_get marks i ≡ Some true → LeadsToEnd kept i

-- and from none of the others
pub record AreMarked (kept : List BufferedState) (marks : List Bool) : Type 0 where
  pub count : length marks ≡ length kept
  pub lead : LeadToEnds kept marks
  pub stuck : AreStuckX86 kept marks

-- the schedule leads from the first to one from which no end can be reached
abbrev pub Hangs : List BufferedState → List (ℕ × ℕ) → Type 0
Hangs kept by = (w : World) → BeginsAt kept w → HangsByX86 w by

abbrev pub AllHang : List BufferedState → List (List (ℕ × ℕ)) → Type 0
AllHang kept hung = (i : ℕ) (by : List (ℕ × ℕ)) → slice_get hung i ≡ Some by → Hangs kept by

-- it leads to what the i-th shows, but for steps that are left
abbrev pub ComesTo : List BufferedState → List (ℕ × ℕ) → ℕ → Type 0
ComesTo kept by i = (w : World) → BeginsAt kept w
    → (y : X86) × (jobs : List Task) × RunsScheduleX86 w (unrolled by) y × AsRich y.world.jobs jobs
    × IsShownAt kept i (with_x86_jobs y jobs)

-- one of these schedules leads to a machine from which moves lead to the i-th
abbrev pub IsBeyondOne : List BufferedState → List (List (ℕ × ℕ)) → ℕ → Type 0
IsBeyondOne kept hung i = (k : ℕ) × (by : List (ℕ × ℕ)) × (j : ℕ) × (slice_get hung k ≡ Some by)
    × ComesTo kept by j × LeadsOn true kept j i

-- so it is of each of the first n that isn't marked
abbrev pub AllBeyondBelow : List BufferedState → List Bool → List (List (ℕ × ℕ)) → ℕ → Type 0
AllBeyondBelow kept marks hung n = (i : ℕ) → i < n → slice_get marks i ≡ Some false
    → IsBeyondOne kept hung i

-- each kept machine leads to an end, or is beyond one of them
abbrev pub AllLeadOrBeyond : List BufferedState → List (List (ℕ × ℕ)) → Type 0
AllLeadOrBeyond kept hung = (i : ℕ) → i < length kept → LeadsToEnd kept i ⊎ IsBeyondOne kept hung i
