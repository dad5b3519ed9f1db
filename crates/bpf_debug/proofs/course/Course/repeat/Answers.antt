use Rattle.std.proofs.Common.{◌≡◌, ℕ, List, subst, ◌∙◌}
use Rattle.bpf_machine.specs.Schedule.{World, RunsSchedule, unrolled}
use Rattle.bpf_machine.specs.Machine.{Shows}
use Rattle.bpf_debug.proofs.CourseLaws.{kept_runs}
use Rattle.bpf_debug.proofs.course.Course.repeat.Goals as goal

pub returns-clause-turns : goal.returns-clause-turns
returns-clause-turns c told is =
    let m = c.self.inside in
    let same : c.deref.result.now ≡ told = c.deref.ensures.value ∙ kept_runs m.is_whole c.args.self.now m.runs.items told c.self.view_is is in
    let P : List (ℕ × ℕ) → Type 0 = λ runs. (w : World) → Shows c.args.machine.now w → (z : World) × RunsSchedule w (unrolled runs) z ×
    Shows c.turns_by.new.self z in
    subst P same c.turns_by.ensures.runs
