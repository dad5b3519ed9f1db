use Rattle.std.specs.Prelude.{◌≡◌, ◌++◌, length, map}
use Rattle.bpf_pairs.specs.Pairs.{pair_of}
use Rattle.bpf_sched.proofs.FirstRun.{AreFilled}
use Rattle.bpf_sched.proofs.filling.fill.Given as goal

abbrev pub invariant-ports : goal.invariant-ports
invariant-ports g l =
    AreFilled l.fn.table (map pair_of l.fn.pairs) l.filled.items
    × (length l.filled.items ≡ length l.yielded)
    × (l.yielded ++ l.port-iterator.rest.items ≡ l.fn.ports.items)
