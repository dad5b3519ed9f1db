use Rattle.std.proofs.Common.{ℕ, List, sym, subst, arith}
use Rattle.bpf_explore.specs.Private.Album.{AreOthers}
use Rattle.bpf_explore.proofs.KeepLaws.{next_kept, others_still}
use Rattle.bpf_explore.proofs.album.keep_jobs.Goals as goal

pub keep_job-requires : goal.keep_job-requires
keep_job-requires c =
    let is = c.loop-job.invariant in
    let jobs = c.args.machine.now.jobs in
    let before = c.args.room.now.before.items in
    let still = others_still c.args.parts.now before c.args.room.now.cpu jobs c.loop-job.parts c.requires is.far.grows in
    record {
      job = omega arith;
      others = subst (λ (ns : List ℕ). AreOthers c.loop-job.parts ns c.loop-job.room.cpu jobs) (sym is.before)
          (subst (λ (k : ℕ). AreOthers c.loop-job.parts before k jobs) (sym is.cpu) still);
    }

pub loop-job-preserved : goal.loop-job-preserved
loop-job-preserved c = record {
  far = next_kept c.args.parts.now c.args.room.now.numbers.items c.args.machine.now.jobs c.loop-job.job c.loop-job.parts c.keep_job.new.parts
      c.loop-job.room.numbers.items c.push.new.self.items c.in_ok-number.number c.loop-job.invariant.far (omega arith) c.keep_job.ensures.grows
      c.in_ok-number.ensures.number c.in_ok-push.ensures.items;
  before = c.loop-job.invariant.before;
  cpu = c.loop-job.invariant.cpu;
}
