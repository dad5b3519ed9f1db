use Rattle.std.specs.Prelude.{◌≡◌}
use Rattle.bpf_hash.specs.Private.Pairs.{AreKeysBelow}
use Rattle.bpf_hash.proofs.table.Table.list_keys.Given as goal

abbrev pub invariant-elements : goal.invariant-elements
invariant-elements l = record {
  shape : l.list.shape ≡ l.fn.list.shape;
  below : AreKeysBelow l.self l.element l.list.keys;
}
