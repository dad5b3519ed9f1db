use Rattle.std.proofs.Common.{◌≡◌}
use Rattle.bpf_expand.proofs.Turning.{AreBelow, IdleBeyond}
use Rattle.bpf_expand.proofs.expander.Expander.successors.Given as goal

abbrev pub invariant-loop-cpu : goal.invariant-loop-cpu
invariant-loop-cpu l = record {
  host : l.self.host ≡ l.fn.self.host;
  below : AreBelow l.self.host l.bytes l.found.items l.cpu;
  beyond : IdleBeyond l.self.host l.bytes l.cpus;
}
