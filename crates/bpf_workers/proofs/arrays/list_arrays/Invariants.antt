use Rattle.std.proofs.Common.{◌≡◌}
use Rattle.std.specs.Prelude.{string_bytes}
use Rattle.bpf_shared.specs.Store.{Plain}
use Rattle.bpf_names.specs.Names.{names_of}
use Rattle.bpf_jobs.specs.Printed.{array_lines}
use Rattle.hop_map.specs.Dumping.{IsLast}
use Rattle.bpf_workers.proofs.arrays.list_arrays.Given as goal

abbrev pub invariant-loop-number : goal.invariant-loop-number
invariant-loop-number l = (last : Plain) → IsLast l.left.closed.now last → last.shape ≡ l.left.shape.now → string_bytes l.text ≡ array_lines
    last (names_of l.names) l.number
