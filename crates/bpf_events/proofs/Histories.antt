-- The history of a run, and what follows from its definition.
use Rattle.std.proofs.Common.{◌≡◌, ◌∙◌, ℕ, Bool, List, [], ◌++◌, refl, sym, ap, subst}
use Rattle.std.specs.Prelude.{nat_lt}
use Rattle.bpf_shared.specs.Shape.{Shape}
use Rattle.bpf_names.specs.Names.{Names}
use Rattle.bpf_plain.specs.Alike.{IsSameShape}
use Rattle.bpf_plain.specs.PlainStore.{has_cpu}
use Rattle.bpf_machine.specs.Happenings.{Happening, HappeningsAreOfRuns}
use Rattle.bpf_machine.specs.Laws.{HappeningsAreDetermined}
use Rattle.bpf_machine.specs.Machine.{MachineState, Shows}
use Rattle.bpf_machine.specs.Rounds.{HaveEnded}
use Rattle.bpf_machine.specs.Schedule.{World, unrolled}
use Rattle.bpf_jobs.specs.Laws.{ReportsByAreDetermined}
use Rattle.bpf_jobs.specs.Printed.{lines_of_lists, TellsWith}
use Rattle.bpf_events.specs.Lines.{history_lines}
use Rattle.bpf_events.specs.Private.Recording.{Recording, IsRecorderOf}
use Rattle.bpf_events.specs.Private.Told.{AreTold, SomeRounds, Turns}
use Rattle.bpf_events.specs.Reports.{HistoriesAreDetermined, HistoriesAreOfReports, IsHistory}
use Rattle.bpf_events.proofs.Told.{history-append}

-- a recorder over a store of the machine's shape
pub same_shape : (h : Shape) (m : MachineState) (w : World) (r : Recording) → Shows m w → w.store.shape ≡ h → IsRecorderOf h r → IsSameShape m.store r.store
same_shape h m w r shows shape made =
    let cpus : (c : ℕ) → has_cpu m.store c ≡ nat_lt c h.cpus = λ c. ap (λ (n : ℕ). nat_lt c n) (sym shows.store.maps.cpus ∙ ap (λ (s : Shape). s.cpus) shape) in
    (λ c. made.0 c ∙ sym (cpus c), made.1 ∙ (sym shape ∙ shows.store.shape))

pub history_told : (w : World) (old mid new : MachineState) (names : Names) (runs : List (ℕ × ℕ)) (maps : Bool)
    (start between later told text : List ℕ) (stopped : Bool) → Shows old w → start ≡ []
    → AreTold (Turns (unrolled runs)) names.maps old start mid between → AreTold SomeRounds names.maps mid between new later → HaveEnded new.jobs
    → ((z : World) → Shows new z → TellsWith (lines_of_lists z names.maps) z.store z.jobs names maps told stopped) → text ≡ later ++ told →
    IsHistory w runs names maps text stopped
history_told w old mid new names runs maps start between later told text stopped shows fresh before after ended tells is =
    let a = (subst (λ (x : List ℕ). AreTold (Turns (unrolled runs)) names.maps old x mid between) fresh before) w shows in
    let b = after a.0 a.3 in
    let all : later ≡ history_lines names.maps (a.1 ++ b.1) = b.4 ∙
    (ap (λ (x : List ℕ). x ++ history_lines names.maps b.1) a.4 ∙ sym (history-append names.maps a.1 b.1)) in (
      b.0,
      a.1 ++ b.1,
      told,
      (a.0, a.1, b.2.0, b.1, a.2, b.2.1, subst HaveEnded (sym b.3.jobs) ended, refl),
      tells b.0 b.3,
      is ∙ ap (λ (x : List ℕ). x ++ told) all,
    )

pub histories_are_of_reports : HappeningsAreOfRuns → HistoriesAreOfReports
histories_are_of_reports law w runs names maps text stopped (z, log, told, happens, tells, is) =
    (history_lines names.maps log, told, (z, law w z (unrolled runs) log happens, tells), is)

pub histories_are_determined : HappeningsAreDetermined → HappeningsAreOfRuns → ReportsByAreDetermined → HistoriesAreDetermined
histories_are_determined law only reports w runs names maps text other stopped halted fresh (z, log, told, happens, tells, is)
    (y, rest, said, happens', tells', is') =
    let one = law w z y (unrolled runs) log rest fresh happens happens' in
    let same = reports w runs names maps told said stopped halted fresh (z, only w z (unrolled runs) log happens, tells)
    (y, only w y (unrolled runs) rest happens', tells') in (
      is ∙ (ap (λ (x : List Happening). history_lines names.maps x ++ told) one.0 ∙ (ap (λ (x : List ℕ). history_lines names.maps rest ++ x) same.0 ∙ sym is')),
      same.1,
    )
