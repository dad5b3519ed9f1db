use Rattle.std.proofs.Common.{ℕ, List, subst}
use Rattle.bpf_machine.specs.Machine.{Shows}
use Rattle.bpf_machine.specs.Schedule.{World, RunsSchedule, unrolled}
use Rattle.bpf_races.proofs.GatherLaws.{led_again}
use Rattle.bpf_races.proofs.searched.PatientExplorerSearched.witness.Goals as goal

pub returns-clause-leads : goal.returns-clause-leads
returns-clause-leads c =
    let first = c.restore.new.self.machine in
    let last = c.turns_by.new.self.machine in
    let by = c.in_ok-by.by.items in
    led_again c.args.self.now.kept (unrolled by) first last c.in_ok-restore.ensures.ok
    (subst (λ (runs : List (ℕ × ℕ)). (w : World) → Shows first w → (z : World) × RunsSchedule w (unrolled runs) z × Shows last z)
    c.deref.ensures.value c.turns_by.ensures.runs)
