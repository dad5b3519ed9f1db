use Rattle.std.proofs.Common.{◌+◌, drop, get_or}
use Rattle.bpf_machine.proofs.HostLaws.{same_host, same_host_still}
use Rattle.bpf_debug.proofs.CourseLaws.{run_next, none_left}
use Rattle.bpf_debug.proofs.RecallLaws.{no_run_recalled, one_run_recalled, runs_recalled}
use Rattle.bpf_debug.proofs.recall.recall_runs.Goals as goal

pub loop-run-init : goal.loop-run-init
loop-run-init c = record { made = no_run_recalled c.args.machine.now c.args.runs.now c.args.kind c.args.cpu; same = same_host c.args.machine.now }

pub loop-run-preserved : goal.loop-run-preserved
loop-run-preserved c =
    let runs = c.args.runs.now in
    let at = c.loop-run.run-index in
    record {
      made = one_run_recalled c.args.machine.now c.loop-run.machine c.recall_turns-last.new.machine runs (drop at runs) (drop (at + 1) runs)
          (get_or runs at (0, 0)) c.args.kind c.args.cpu c.loop-run.last c.recall_turns-last.result
          c.loop-run.invariant.made (run_next runs at c.loop-run-test.true) c.recall_turns-last.ensures.made;
      same = same_host_still c.args.machine.now c.loop-run.machine c.recall_turns-last.new.machine c.loop-run.invariant.same c.recall_turns-last.ensures.same;
    }

pub returns-clause-made : goal.returns-clause-made
returns-clause-made c =
    let runs = c.args.runs.now in
    let at = c.loop-run.run-index in
    runs_recalled c.args.machine.now c.loop-run.machine runs (drop at runs) c.args.kind c.args.cpu c.loop-run.last c.loop-run.invariant.made
    (none_left runs at c.loop-run-test.false)
