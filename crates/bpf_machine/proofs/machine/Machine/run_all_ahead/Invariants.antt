use Rattle.std.proofs.Common.{◌≡◌, length}
use Rattle.bpf_machine.proofs.AheadLaws.{AllSoFar}
use Rattle.bpf_machine.proofs.machine.Machine.run_all_ahead.Given as goal

abbrev pub invariant-loop-cpu : goal.invariant-loop-cpu
invariant-loop-cpu l = record {
  far : AllSoFar l.fn.self l.cpu l.headways l.self;
  long : length l.headways ≡ 256;
}
