use Rattle.std.proofs.Common.{sym, ◌∙◌}
use Rattle.bpf_faults.proofs.Watching.{sees_start, size_known}
use Rattle.bpf_faults.proofs.watch.see_next.Goals as goal

pub returns-in_ok-see_start-in-Waiting : goal.returns-in_ok-see_start-in-Waiting
returns-in_ok-see_start-in-Waiting c =
    sees_start c.args.machine.now.jobs c.args.sizes.now c.args.cpu c.in-Waiting.job c.in-Some.given c.see_start.new.self c.standing.result
    c.requires c.standing.ensures c.in-Waiting.is (sym c.sizes_at.ensures ∙ c.in-Some.is) c.in_ok-see_start-in-Waiting.ensures

pub returns-in_default : goal.returns-in_default
returns-in_default c =
    absurd (size_known c.args.machine.now.jobs c.args.sizes.now c.args.cpu c.in-Waiting.job c.standing.result c.requires c.standing.ensures
    c.in-Waiting.is (sym c.sizes_at.ensures ∙ c.in_default.is))
