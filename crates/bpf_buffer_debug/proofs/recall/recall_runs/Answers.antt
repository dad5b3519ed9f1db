use Rattle.std.proofs.Common.{◌∙◌, None, refl, arith}
use Rattle.bpf_machine.proofs.HostLaws.{same_host, same_host_still}
use Rattle.bpf_buffer_debug.proofs.RecallLaws.{all_runs, next_run, none_recalled}
use Rattle.bpf_buffer_debug.proofs.recall.recall_runs.Goals as goal

pub loop-run-init : goal.loop-run-init
loop-run-init c = record {
  made = none_recalled c.args.kind c.args.cpu c.args.album.now.machine None;
  host = same_host c.args.album.now.machine.machine;
  kept = refl;
}

pub loop-run-preserved : goal.loop-run-preserved
loop-run-preserved c =
    let old = c.args.album.now.machine in
    let mid = c.loop-run.album.machine in
    let new = c.recall_same.new.album.machine in
    record {
      made = next_run c.args.kind c.args.cpu old mid new c.args.runs.now c.loop-run.run-index _ None c.loop-run.last c.in_ok-next.next (omega arith)
          c.loop-run.invariant.made c.in_ok-next.ensures.made;
      host = same_host_still old.machine mid.machine new.machine c.loop-run.invariant.host c.recall_same.ensures.host;
      kept = c.recall_same.ensures.kept ∙ c.loop-run.invariant.kept;
    }

pub returns-clause-made : goal.returns-clause-made
returns-clause-made c = all_runs c.args.kind c.args.cpu c.args.album.now.machine c.loop-run.album.machine c.args.runs.now c.loop-run.run-index None
    c.loop-run.last (omega arith) c.loop-run.invariant.made
