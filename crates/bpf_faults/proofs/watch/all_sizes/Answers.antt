use Rattle.std.proofs.Common.{◌≡◌, List, length, ◌∙◌, ap}
use Rattle.std.specs.Prelude.{map, take}
use Rattle.std.proofs.lemmas.List.{take_all}
use Rattle.bpf_cpu.specs.declared.job.Job.{Job}
use Rattle.bpf_faults.specs.Evidence.{sizes_of}
use Rattle.bpf_faults.proofs.Watching.{all_sizes}
use Rattle.bpf_faults.proofs.watch.all_sizes.Goals as goal

pub returns : goal.returns
returns c =
    let whole : take c.loop-job.job-index c.args.jobs.now ≡ c.args.jobs.now = take_all c.loop-job.job-index c.args.jobs.now c.loop-job-test.false in
    all_sizes c.args.jobs.now c.loop-job.sizes.items
    (c.loop-job.invariant ∙ ap (λ (jobs : List Job). map (λ (job : Job). sizes_of job.input) jobs) whole)
