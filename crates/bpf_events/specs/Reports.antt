-- What is printed of jobs together with their history. Our own choice.
use Rattle.std.specs.Prelude.{◌≡◌, ℕ, Bool, List, ◌++◌}
use Rattle.bpf_names.specs.Names.{Names}
use Rattle.bpf_machine.specs.Happenings.{Happening, RunsByWith}
use Rattle.bpf_machine.specs.Laws.{IsFresh}
use Rattle.bpf_machine.specs.Schedule.{World, unrolled}
use Rattle.bpf_jobs.specs.Printed.{IsReportBy, lines_of_lists, TellsWith}
use Rattle.bpf_events.specs.Lines.{history_lines}

-- THE TURNS OF A SCHEDULE, AND ROUNDS BEHIND THEM, lead to a last machine: all that happens in them
-- is printed, and after it what is printed of this machine
abbrev pub IsHistory : World → List (ℕ × ℕ) → Names → Bool → List ℕ → Bool → Type 0
IsHistory w runs names maps text stopped =
    (z : World) × (log : List Happening) × (told : List ℕ) × RunsByWith w (unrolled runs) log z
    × TellsWith (lines_of_lists z names.maps) z.store z.jobs names maps told stopped
    × (text ≡ history_lines names.maps log ++ told)

-- what is printed after the history is the report of the run
abbrev pub HistoriesAreOfReports : Type 0
HistoriesAreOfReports =
    (w : World) (runs : List (ℕ × ℕ)) (names : Names) (maps : Bool) (text : List ℕ)
    (stopped : Bool) → IsHistory w runs names maps text stopped
    → (lines : List ℕ) × (told : List ℕ) × IsReportBy w runs names maps told stopped
    × (text ≡ lines ++ told)

-- of jobs that all wait one history is printed
abbrev pub HistoriesAreDetermined : Type 0
HistoriesAreDetermined =
    (w : World) (runs : List (ℕ × ℕ)) (names : Names) (maps : Bool) (text other : List ℕ)
    (stopped halted : Bool) → IsFresh w → IsHistory w runs names maps text stopped
    → IsHistory w runs names maps other halted → (text ≡ other) × (stopped ≡ halted)
