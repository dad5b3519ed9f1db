use Rattle.std.proofs.Common.{map}
use Rattle.std.specs.Prelude.{string_bytes}
use Rattle.bpf_plain.specs.Alike.{IsSameShape}
use Rattle.bpf_events.specs.Private.Told.{AreTold, SomeRounds}
use Rattle.bpf_events.proofs.telling.make_rounds.Given as goal

abbrev pub invariant-loop : goal.invariant-loop
invariant-loop l = record {
  told : AreTold SomeRounds (map string_bytes l.names) l.fn.machine (string_bytes l.fn.text) l.machine (string_bytes l.text);
  shape : IsSameShape l.machine.store l.recorder.store;
}
