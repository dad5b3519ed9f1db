use Rattle.std.proofs.Common.{ℕ, List, [], sym, subst, append-nil, arith}
use Rattle.bpf_explore.specs.Private.Album.{AreOthers}
use Rattle.bpf_explore.proofs.KeepLaws.{next_kept}
use Rattle.bpf_explore.proofs.album.find_jobs.Goals as goal

pub find_job-requires : goal.find_job-requires
find_job-requires c =
    let is = c.loop-job.invariant in
    let parts = c.args.parts.now in
    let jobs = c.args.machine.now.jobs in
    record {
      job = omega arith;
      others = subst (λ (ns : List ℕ). AreOthers parts ns c.loop-job.room.cpu jobs) (sym is.before)
          (subst (λ (k : ℕ). AreOthers parts c.args.room.now.before.items k jobs) (sym is.cpu) c.requires);
    }

pub loop-job-preserved : goal.loop-job-preserved
loop-job-preserved c = record {
  far = next_kept c.args.parts.now c.args.room.now.numbers.items c.args.machine.now.jobs c.loop-job.job c.args.parts.now c.args.parts.now
      c.loop-job.room.numbers.items c.push.new.self.items c.in_ok-number.number c.loop-job.invariant.far (omega arith)
      ([], sym (append-nil c.args.parts.now)) c.in_ok-number.ensures c.in-Ok.ensures.items;
  before = c.loop-job.invariant.before;
  cpu = c.loop-job.invariant.cpu;
}
