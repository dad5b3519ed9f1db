use Rattle.std.proofs.Common.{◌+◌}
use Rattle.bpf_threads.specs.Private.Charts.{IsAdded}
use Rattle.bpf_threads.proofs.Adding.{add_more, found_some}
use Rattle.bpf_threads.proofs.threads.added.Goals as goal

pub returns-in-Some : goal.returns-in-Some
returns-in-Some c =
    let most = c.in-Some.most in
    found_some c.sum_of.result (most + c.args.sum) (IsAdded c.args.bounds.now c.args.jobs.now c.args.place c.args.sum) c.sum_of.ensures
    (λ rest. add_more c.args.bounds.now c.args.jobs.now c.args.place c.job_at-job.result.now most c.args.sum c.job_at-job.ensures c.in-Some.ensures rest)
