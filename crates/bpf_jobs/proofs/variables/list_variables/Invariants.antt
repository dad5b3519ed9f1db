use Rattle.std.proofs.Common.{◌≡◌}
use Rattle.std.specs.Prelude.{map, string_bytes}
use Rattle.bpf_shared.specs.Store.{Plain}
use Rattle.bpf_shared.specs.Sound.{IsSoundStore}
use Rattle.bpf_names.specs.Names.{variable_of}
use Rattle.bpf_plain.specs.PlainStore.{StandsFor}
use Rattle.bpf_jobs.specs.Printed.{variable_lines}
use Rattle.bpf_jobs.proofs.variables.list_variables.Given as goal

abbrev pub invariant-loop-variable : goal.invariant-loop-variable
invariant-loop-variable l = (s : Plain) → IsSoundStore s → StandsFor l.store s → string_bytes l.text ≡ variable_lines s
    (map variable_of l.variables) l.variable-index
