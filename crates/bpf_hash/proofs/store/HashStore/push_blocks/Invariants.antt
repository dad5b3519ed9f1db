use Rattle.std.proofs.Common.{◌≡◌, ◌++◌}
use Rattle.bpf_hash.specs.Private.Saved.{all_below, map_block}
use Rattle.bpf_hash.proofs.store.HashStore.push_blocks.Given as goal

abbrev pub invariant-loop-map : goal.invariant-loop-map
invariant-loop-map l = l.out.items ≡ l.fn.out.items ++ all_below (map_block l.self) l.map
