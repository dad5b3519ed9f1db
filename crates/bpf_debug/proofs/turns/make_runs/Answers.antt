use Rattle.std.proofs.Common.{◌+◌, drop, get_or}
use Rattle.std.specs.Prelude.{string_bytes}
use Rattle.bpf_machine.proofs.HostLaws.{same_host, same_host_still}
use Rattle.bpf_debug.proofs.CourseLaws.{run_next, none_left}
use Rattle.bpf_debug.proofs.ManyTurns.{no_run, one_run, runs_made}
use Rattle.bpf_debug.proofs.turns.make_runs.Goals as goal

pub loop-run-init : goal.loop-run-init
loop-run-init c = record {
  made = no_run c.args.machine.now c.args.runs.now (string_bytes c.args.out.now);
  same = same_host
      c.args.machine.now;
  room = c.requires.room;
}

pub make_turns-requires-clause-shown : goal.make_turns-requires-clause-shown
make_turns-requires-clause-shown c = let far = c.loop-run.invariant.made c.requires.shown.0 c.requires.shown.1 in (far.0, far.2)

pub loop-run-preserved : goal.loop-run-preserved
loop-run-preserved c =
    let runs = c.args.runs.now in
    let at = c.loop-run.run-index in
    record {
      made = one_run c.args.machine.now c.loop-run.machine c.make_turns.new.machine runs (drop at runs) (drop (at + 1) runs)
          (get_or runs at (0, 0)) (string_bytes c.args.out.now) (string_bytes c.loop-run.out) (string_bytes c.make_turns.new.out)
          c.loop-run.invariant.made (run_next runs at c.loop-run-test.true) c.make_turns.ensures.made;
      same = same_host_still c.args.machine.now c.loop-run.machine c.make_turns.new.machine c.loop-run.invariant.same c.make_turns.ensures.same;
      room = c.make_turns.ensures.room;
    }

pub returns-clause-made : goal.returns-clause-made
returns-clause-made c =
    let runs = c.args.runs.now in
    let at = c.loop-run.run-index in
    runs_made c.args.machine.now c.loop-run.machine runs (drop at runs) (string_bytes c.args.out.now) (string_bytes c.loop-run.out)
    c.loop-run.invariant.made (none_left runs at c.loop-run-test.false)
