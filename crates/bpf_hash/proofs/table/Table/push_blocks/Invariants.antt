use Rattle.std.proofs.Common.{◌≡◌, ◌++◌}
use Rattle.bpf_hash.specs.Private.Saved.{all_below, block_of}
use Rattle.bpf_hash.proofs.table.Table.push_blocks.Given as goal

abbrev pub invariant-loop-element : goal.invariant-loop-element
invariant-loop-element l = l.out.items ≡ l.fn.out.items ++ all_below (block_of l.runs l.self) l.element
