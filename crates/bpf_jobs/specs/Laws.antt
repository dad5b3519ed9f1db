-- What follows from the definition of what is printed.
use Rattle.std.specs.Prelude.{◌≡◌, ℕ, Bool, List}
use Rattle.bpf_names.specs.Names.{Names}
use Rattle.bpf_machine.specs.Laws.{IsFresh}
use Rattle.bpf_machine.specs.Schedule.{World}
use Rattle.bpf_jobs.specs.Printed.{IsReportBy}

-- of jobs that all wait, and of a schedule, one text is printed, and it is known whether one of them stops
abbrev pub ReportsByAreDetermined : Type 0
ReportsByAreDetermined =
    (w : World) (runs : List (ℕ × ℕ)) (names : Names) (maps : Bool) (text other : List ℕ)
    (stopped halted : Bool) → IsFresh w → IsReportBy w runs names maps text stopped
    → IsReportBy w runs names maps other halted → (text ≡ other) × (stopped ≡ halted)
