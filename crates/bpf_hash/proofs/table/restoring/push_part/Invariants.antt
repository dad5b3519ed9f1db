use Rattle.std.proofs.Common.{◌≡◌, ◌++◌, replicate}
use Rattle.bpf_hash.proofs.table.restoring.push_part.Given as goal

abbrev pub invariant-loop : goal.invariant-loop
invariant-loop l = l.out.items ≡ l.fn.out.items ++ replicate l.counter 0
