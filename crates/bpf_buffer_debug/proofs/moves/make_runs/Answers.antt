use Rattle.std.proofs.Common.{◌∙◌, refl, arith}
use Rattle.std.specs.Prelude.{string_bytes}
use Rattle.bpf_machine.proofs.HostLaws.{same_host, same_host_still}
use Rattle.bpf_buffer_debug.proofs.MoveLaws.{all_runs, next_run, none_told}
use Rattle.bpf_buffer_debug.proofs.moves.make_runs.Goals as goal

pub loop-run-init : goal.loop-run-init
loop-run-init c = record {
  told = none_told c.args.album.now.machine (string_bytes c.args.out.now);
  host = same_host c.args.album.now.machine.machine;
  kept = refl;
}

pub loop-run-preserved : goal.loop-run-preserved
loop-run-preserved c =
    let old = c.args.album.now.machine in
    let mid = c.loop-run.album.machine in
    let new = c.make_same.new.album.machine in
    record {
      told = next_run old mid new c.args.runs.now c.loop-run.run-index _ (string_bytes c.args.out.now) (string_bytes c.loop-run.out)
          (string_bytes c.make_same.new.out) (omega arith) c.loop-run.invariant.told c.in_ok-make_same.ensures.told;
      host = same_host_still old.machine mid.machine new.machine c.loop-run.invariant.host c.make_same.ensures.host;
      kept = c.make_same.ensures.kept ∙ c.loop-run.invariant.kept;
    }

pub returns-clause-told : goal.returns-clause-told
returns-clause-told c = all_runs c.args.album.now.machine c.loop-run.album.machine c.args.runs.now c.loop-run.run-index
    (string_bytes c.args.out.now) (string_bytes c.loop-run.out) (omega arith) c.loop-run.invariant.told
