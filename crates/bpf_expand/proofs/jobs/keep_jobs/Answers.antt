use Rattle.std.proofs.Common.{◌∙◌, ◌++◌, ◌∷◌, [], List, sym, ap}
use Rattle.bpf_cpu.specs.Task.{Task}
use Rattle.bpf_expand.proofs.Lists.{take_more}
use Rattle.bpf_expand.proofs.jobs.keep_jobs.Goals as goal

pub loop-job-preserved : goal.loop-job-preserved
loop-job-preserved c =
    let kept : Task = c.in_ok-kept.kept in
    c.in_ok-push.ensures.items
    ∙ (ap (λ (l : List Task). l ++ kept ∷ []) c.loop-job.invariant ∙ sym (take_more c.args.machine.now.jobs c.loop-job.job kept c.in_ok-kept.ensures))
