use Rattle.std.proofs.Common.{map, arith}
use Rattle.std.specs.Prelude.{string_bytes}
use Rattle.bpf_buffer_events.proofs.Joined.{nothing_told, one_cpu_more, whole_round}
use Rattle.bpf_buffer_events.proofs.telling.make_round.Goals as goal

pub loop-cpu-init : goal.loop-cpu-init
loop-cpu-init c = record { told = nothing_told (map string_bytes c.args.names.now) c.args.scene.now; shape = c.requires }

pub loop-cpu-preserved : goal.loop-cpu-preserved
loop-cpu-preserved c = record {
  told = one_cpu_more c.loop-cpu.cpu (map string_bytes c.args.names.now) c.args.scene.now c.loop-cpu.scene c.take_turn.new.scene c.flush.new.scene
      c.loop-cpu.invariant.told c.in_ok-take_turn.ensures.told c.in_ok-flush.ensures.told;
  shape = c.in_ok-flush.ensures.shape;
}

pub returns-clause-told : goal.returns-clause-told
returns-clause-told c = whole_round c.cpus-cpu-end.result c.loop-cpu.cpu (map string_bytes c.args.names.now) c.args.scene.now c.loop-cpu.scene
    (omega arith) c.cpus-cpu-end.ensures.cpus c.loop-cpu.invariant.told
