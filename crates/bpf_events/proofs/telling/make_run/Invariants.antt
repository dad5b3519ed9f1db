use Rattle.std.proofs.Common.{map, replicate}
use Rattle.std.specs.Prelude.{string_bytes}
use Rattle.bpf_plain.specs.Alike.{IsSameShape}
use Rattle.bpf_events.specs.Private.Told.{AreTold, Turns}
use Rattle.bpf_events.proofs.telling.make_run.Given as goal

abbrev pub invariant-loop : goal.invariant-loop
invariant-loop l = record {
  told : AreTold (Turns (replicate l.counter l.cpu)) (map string_bytes l.names) l.fn.machine (string_bytes l.fn.text) l.machine (string_bytes l.text);
  shape : IsSameShape l.machine.store l.recorder.store;
}
