use Rattle.std.proofs.Common.{map}
use Rattle.std.specs.Prelude.{string_bytes}
use Rattle.bpf_plain.specs.Alike.{IsSameShape}
use Rattle.bpf_machine.specs.Rounds.{below}
use Rattle.bpf_events.specs.Private.Told.{AreTold, Turns}
use Rattle.bpf_events.proofs.Told.{IdleSo}
use Rattle.bpf_events.proofs.telling.make_round.Given as goal

abbrev pub invariant-loop-cpu : goal.invariant-loop-cpu
invariant-loop-cpu l = record {
  told : AreTold (Turns (below l.cpu)) (map string_bytes l.names) l.fn.machine (string_bytes l.fn.text) l.machine (string_bytes l.text);
  shape : IsSameShape l.machine.store l.recorder.store;
  idle : IdleSo l.fn.machine l.cpu l.worked l.machine;
}
