use Rattle.std.proofs.Common.{◌≡◌, ◌*◌}
use Rattle.bpf_buffer_expand.specs.Private.Next.{AreBelow}
use Rattle.bpf_buffer_expand.proofs.expander.BufferExpander.successors.Given as goal

abbrev pub invariant-loop-cpu : goal.invariant-loop-cpu
invariant-loop-cpu l = record {
  host : l.self.host ≡ l.fn.self.host;
  below : AreBelow l.self.host l.bytes l.found.items (2 * l.cpu);
}
