use Rattle.std.proofs.Common.{map, take}
use Rattle.std.specs.Prelude.{string_bytes}
use Rattle.bpf_plain.specs.Alike.{IsSameShape}
use Rattle.bpf_machine.specs.Schedule.{unrolled}
use Rattle.bpf_events.specs.Private.Told.{AreTold, Turns}
use Rattle.bpf_events.proofs.telling.make_turns.Given as goal

abbrev pub invariant-loop-cpu : goal.invariant-loop-cpu
invariant-loop-cpu l = record {
  told : AreTold (Turns (unrolled (take l.cpu-index l.schedule))) (map string_bytes l.names) l.fn.machine (string_bytes l.fn.text) l.machine
      (string_bytes l.text);
  shape : IsSameShape l.machine.store l.recorder.store;
}
