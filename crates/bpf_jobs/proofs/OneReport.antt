-- What is printed of a run is one text.
use Rattle.std.proofs.Common.{◌≡◌, ℕ, Bool, List, ◌++◌, length, sym, ap, subst, ◌∙◌}
use Rattle.bpf_names.specs.Names.{Names}
use Rattle.bpf_machine.specs.Machine.{MachineState, Shows}
use Rattle.bpf_machine.specs.Rounds.{RunsToEnd}
use Rattle.bpf_machine.specs.Laws.{RunsByAreDetermined}
use Rattle.bpf_machine.specs.Schedule.{World, RunsSchedule, unrolled}
use Rattle.bpf_jobs.specs.Printed.{job_lines, lines_of_lists, TellsWith, IsReportBy}
use Rattle.bpf_jobs.specs.Laws.{ReportsByAreDetermined}
use Rattle.bpf_jobs.proofs.OneListing.{one_asked}

-- what is printed of one machine
one_told : (z y : World) (names : Names) (maps : Bool) (text other : List ℕ) (stopped halted : Bool) → z ≡ y
    → TellsWith (lines_of_lists z names.maps) z.store z.jobs names maps text stopped → TellsWith (lines_of_lists y names.maps) y.store
    y.jobs names maps other halted
    → (text ≡ other) × (stopped ≡ halted)
one_told z y names maps text other stopped halted same a b =
    let P : World → Type 0 = λ z. TellsWith (lines_of_lists z names.maps) z.store z.jobs names maps other halted in
    let there : TellsWith (lines_of_lists z names.maps) z.store z.jobs names maps other halted = subst P (sym same) b in
    let lines = one_asked maps z.store names a.0 there.0 a.1 there.1 in
    (a.2 ∙ ap (λ (x : List ℕ). job_lines (length z.jobs) z.jobs ++ (lines_of_lists z names.maps ++ x)) lines ∙ sym there.2, a.3 ∙ sym there.3)

pub reports_by_are_determined : RunsByAreDetermined → ReportsByAreDetermined
reports_by_are_determined law w runs names maps text other stopped halted fresh a b =
    one_told a.0 b.0 names maps text other stopped halted (law w a.0 b.0 (unrolled runs) fresh a.1 b.1) a.2 b.2

-- what is printed of a machine that rounds have left after a schedule
pub told : (w y : World) (runs : List (ℕ × ℕ)) → RunsSchedule w (unrolled runs) y
    → (m : MachineState) (names : Names) (maps : Bool) (text : List ℕ) (stopped : Bool) → ((z : World) × RunsToEnd y z × Shows m z)
    → ((z : World) → Shows m z → TellsWith (lines_of_lists z names.maps) z.store z.jobs names maps text stopped) → IsReportBy w runs names maps text stopped
told w y runs turned m names maps text stopped (z, ends, shows) tells = (z, (y, turned, ends), tells z shows)
