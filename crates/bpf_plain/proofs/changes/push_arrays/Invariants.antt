use Rattle.std.proofs.Common.{◌≡◌, ◌++◌}
use Rattle.bpf_shared.specs.Contents.{bytes_of_all}
use Rattle.bpf_hash.specs.Private.Saved.{all_below}
use Rattle.bpf_plain.specs.Private.Saved.{array_block}
use Rattle.bpf_plain.proofs.changes.push_arrays.Given as goal

abbrev pub invariant-loop-number : goal.invariant-loop-number
invariant-loop-number l = l.out.items ≡ l.fn.out.items ++ all_below (array_block l.shape (bytes_of_all l.arrays)) l.number
