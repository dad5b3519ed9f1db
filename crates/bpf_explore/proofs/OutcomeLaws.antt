-- Where machines show each end, what is printed of them is all that can be printed.
use Rattle.std.proofs.Common.{◌≡◌, ◌∙◌, ℕ, Bool, List, ◌++◌, Some, length, sym, ap, subst}
use Rattle.std.specs.Prelude.{slice_get}
use Rattle.bpf_shared.specs.Store.{Plain}
use Rattle.bpf_names.specs.Names.{Names}
use Rattle.bpf_cpu.specs.Task.{Task}
use Rattle.bpf_machine.specs.Schedule.{World}
use Rattle.bpf_machine.specs.Rounds.{HaveEnded}
use Rattle.bpf_machine.specs.Machine.{MachineState}
use Rattle.bpf_machine.specs.Cover.{IsShown}
use Rattle.bpf_jobs.specs.Printed.{job_lines, Tells}
use Rattle.bpf_jobs.proofs.OneListing.{one_asked}
use Rattle.bpf_explore.specs.Outcomes.{Found, IsTold}
use Rattle.bpf_explore.specs.Laws.{IsAnswered, CoverTellsAll}
use Rattle.bpf_explore.specs.Patient.{PatientTellAll}

-- of a machine one text is printed
one_told : (s : Plain) (jobs : List Task) (names : Names) (maps : Bool) (text other : List ℕ) (stopped halted : Bool) → Tells s jobs names
    maps text stopped → Tells s jobs names maps other halted → (text ≡ other) × (stopped ≡ halted)
one_told s jobs names maps text other stopped halted a b =
    let lines = one_asked maps s names a.0 b.0 a.1 b.1 in
    (a.2 ∙ ap (λ (x : List ℕ). job_lines (length jobs) jobs ++ x) lines ∙ sym b.2, a.3 ∙ sym b.3)

-- what is printed of a world that a kept machine shows is one of the answers
shown_is_told : (kept : List MachineState) (z : World) (names : Names) (maps : Bool) (answers : List Found) → IsShown kept z → HaveEnded z.jobs
    → ((i : ℕ) (m : MachineState) → slice_get kept i ≡ Some m → HaveEnded m.jobs → IsAnswered names maps answers m)
    → (text : List ℕ) (stopped : Bool) → Tells z.store z.jobs names maps text stopped → IsTold answers text stopped
shown_is_told kept z names maps answers (i, m, at, shows) ended told text stopped tells =
    let a = told i m at (subst HaveEnded shows.jobs ended) in
    let here : Tells z.store z.jobs names maps a.1.text a.1.stopped = subst
    (λ (jobs : List Task). Tells z.store jobs names maps a.1.text a.1.stopped) (sym shows.jobs) (a.3 z.store shows.sound shows.store) in
    let one = one_told z.store z.jobs names maps a.1.text text a.1.stopped stopped here tells in
    (a.0, a.1, a.2, one.0, one.1)

pub cover_tells_all : CoverTellsAll
cover_tells_all kept w names maps answers ends begins told text stopped (schedule, (z, runs, ended, tells)) =
    shown_is_told kept z names maps answers (ends w z schedule begins runs ended) ended told text stopped tells

pub patient_tell_all : PatientTellAll
patient_tell_all kept w names maps answers ends begins told text stopped (schedule, z, runs, ended, none, tells) =
    shown_is_told kept z names maps answers (ends w z schedule begins runs none ended) ended told text stopped tells
