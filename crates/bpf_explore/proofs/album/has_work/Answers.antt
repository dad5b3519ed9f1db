use Rattle.std.proofs.Common.{refl, arith}
use Rattle.bpf_machine.specs.Parts.{chosen}
use Rattle.bpf_explore.specs.Private.Album.{HasEndedOn}
use Rattle.bpf_explore.proofs.EachLaws.{next_each, all_each, idle_jobs}
use Rattle.bpf_explore.proofs.album.has_work.Goals as goal

pub loop-job-preserved : goal.loop-job-preserved
loop-job-preserved c =
    next_each (HasEndedOn c.args.cpu) c.args.parts.now c.args.numbers.now c.loop-job.job c.index-parts-numbers.result (omega arith)
    (c.requires c.loop-job.job 0 (omega arith)) c.index-parts-numbers.is c.loop-job.invariant (c.if-is_open.ensures refl)

pub returns : goal.returns
returns c is = idle_jobs (chosen c.args.parts.now c.args.numbers.now) c.args.cpu
    (all_each (HasEndedOn c.args.cpu) c.args.parts.now c.args.numbers.now c.loop-job.job (omega arith) c.loop-job.invariant)
