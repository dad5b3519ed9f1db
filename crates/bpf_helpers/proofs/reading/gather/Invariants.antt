use Rattle.std.proofs.Common.{◌≡◌, length}
use Rattle.bpf_shared.specs.Chain.{Chain}
use Rattle.bpf_helpers.specs.Reads.{loads}
use Rattle.bpf_helpers.proofs.reading.gather.Given as goal

abbrev pub invariant-loop-k : goal.invariant-loop-k
invariant-loop-k g l = record {
  bytes : length l.bytes.items ≡ l.k;
  chain : Chain g.S.Shared.passes g.S.Shared.serves l.cpu l.initial.shared l.shared (loads l.at l.bytes.items);
  held : g.S.Shared.held l.shared ≡ g.S.Shared.held l.initial.shared;
  running : g.S.Shared.running l.shared ≡ g.S.Shared.running l.initial.shared;
  shapes : g.S.Shared.shapes l.shared ≡ g.S.Shared.shapes l.initial.shared;
}
