use Rattle.std.proofs.Common.{map, arith}
use Rattle.std.specs.Prelude.{string_bytes}
use Rattle.bpf_buffer_events.proofs.Joined.{all_runs, next_run, nothing_told}
use Rattle.bpf_buffer_events.proofs.telling.make_moves.Goals as goal

pub loop-made-init : goal.loop-made-init
loop-made-init c = record { told = nothing_told (map string_bytes c.args.names.now) c.args.scene.now; shape = c.requires }

pub loop-made-preserved : goal.loop-made-preserved
loop-made-preserved c = record {
  told = next_run (map string_bytes c.args.names.now) c.args.scene.now c.loop-made.scene c.repeat.new.scene c.args.runs.now
      c.loop-made.made-index _ (omega arith) c.loop-made.invariant.told c.in_ok-repeat.ensures.told;
  shape = c.in_ok-repeat.ensures.shape;
}

pub returns-clause-told : goal.returns-clause-told
returns-clause-told c = all_runs (map string_bytes c.args.names.now) c.args.scene.now c.loop-made.scene c.args.runs.now c.loop-made.made-index
    (omega arith) c.loop-made.invariant.told
