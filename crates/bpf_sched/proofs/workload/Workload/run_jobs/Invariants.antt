use Rattle.std.proofs.Common.{◌≡◌}
use Rattle.bpf_sched.proofs.UnderWay.{IsUnderWay}
use Rattle.bpf_sched.proofs.workload.Workload.run_jobs.Given as goal

abbrev pub invariant-loop-job : goal.invariant-loop-job
invariant-loop-job g l =
    let S = g.S.Shared in
    record {
      way : IsUnderWay S.passes S.serves S.running S.held S.may_wear S.shapes l.programs l.fn.self.cpu l.fn.shared l.fn.self.jobs.items
          l.job l.shared l.self.cpu l.self.jobs.items;
      lists : l.self.lists ≡ l.fn.self.lists;
    }
