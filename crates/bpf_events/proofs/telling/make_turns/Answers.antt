use Rattle.std.proofs.Common.{map, arith}
use Rattle.std.specs.Prelude.{string_bytes}
use Rattle.bpf_events.proofs.Told.{all_runs, next_run, told_nothing}
use Rattle.bpf_events.proofs.telling.make_turns.Goals as goal

pub loop-cpu-init : goal.loop-cpu-init
loop-cpu-init c = record { told = told_nothing (map string_bytes c.args.names.now) c.args.machine.now (string_bytes c.args.text.now); shape = c.requires }

pub loop-cpu-preserved : goal.loop-cpu-preserved
loop-cpu-preserved c = record {
  told = next_run c.args.schedule.now c.loop-cpu.cpu-index _ (map string_bytes c.args.names.now) c.args.machine.now c.loop-cpu.machine
      c.make_run.new.machine (string_bytes c.args.text.now)
      (string_bytes c.loop-cpu.text) (string_bytes c.make_run.new.text) (omega arith) c.loop-cpu.invariant.told c.in_ok-make_run.ensures.told;
  shape = c.in_ok-make_run.ensures.shape;
}

pub returns-clause-told : goal.returns-clause-told
returns-clause-told c =
    all_runs c.args.schedule.now c.loop-cpu.cpu-index (map string_bytes c.args.names.now) c.args.machine.now c.loop-cpu.machine
    (string_bytes c.args.text.now) (string_bytes c.loop-cpu.text) (omega arith) c.loop-cpu.invariant.told
