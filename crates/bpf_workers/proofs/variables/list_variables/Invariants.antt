use Rattle.std.proofs.Common.{◌≡◌}
use Rattle.std.specs.Prelude.{map, string_bytes}
use Rattle.bpf_shared.specs.Store.{Plain}
use Rattle.bpf_names.specs.Names.{variable_of}
use Rattle.bpf_jobs.specs.Printed.{variable_lines}
use Rattle.hop_map.specs.Dumping.{IsLast}
use Rattle.bpf_workers.proofs.variables.list_variables.Given as goal

abbrev pub invariant-loop-variable : goal.invariant-loop-variable
invariant-loop-variable l = (last : Plain) → IsLast l.left.closed.now last → last.shape ≡ l.left.shape.now → string_bytes l.text ≡
    variable_lines last (map variable_of l.variables) l.variable-index
