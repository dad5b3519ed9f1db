use Rattle.std.proofs.Common.{◌≡◌, List, length, ◌∙◌, ap}
use Rattle.std.specs.Prelude.{map, take}
use Rattle.std.proofs.lemmas.List.{take_all}
use Rattle.bpf_cpu.specs.declared.job.Job.{Job}
use Rattle.bpf_packets.proofs.Packets.{given}
use Rattle.bpf_packets.proofs.keeping.given_packets.Goals as goal

pub returns : goal.returns
returns c =
    let whole : take c.loop-job.job-index c.args.jobs.now ≡ c.args.jobs.now = take_all c.loop-job.job-index c.args.jobs.now c.loop-job-test.false in
    c.loop-job.invariant ∙ (ap (λ (jobs : List Job). map (λ (job : Job). job.input.packet) jobs) whole ∙ given c.args.jobs.now)
