use Rattle.std.proofs.Common.{◌≡◌, ℕ, List, Option, None, subst, ◌∙◌}
use Rattle.bpf_machine.specs.Schedule.{World, unrolled}
use Rattle.bpf_machine.specs.Machine.{Shows}
use Rattle.bpf_debug.specs.Recall.{IsRecall, Past, Recalls}
use Rattle.bpf_debug.proofs.CourseLaws.{kept_runs}
use Rattle.bpf_debug.proofs.course.Course.recall.Goals as goal

pub returns-clause-turns : goal.returns-clause-turns
returns-clause-turns c told is =
    let m = c.self.inside in
    let same : c.deref.result.now ≡ told = c.deref.ensures.value ∙ kept_runs m.is_whole c.args.self.now m.runs.items told c.self.view_is is in
    let P : List (ℕ × ℕ) → Type 0 = λ runs. (w : World) → Shows c.args.machine.now w → (z : World) × (new : Option Past)
    × Recalls c.args.kind c.args.cpu w None (unrolled runs) new z × Shows c.recall_runs.new.machine z × IsRecall c.args.cpu c.recall_runs.result new in
    subst P same c.recall_runs.ensures.made
