use Rattle.std.proofs.Common.{◌≡◌}
use Rattle.std.specs.Prelude.{string_bytes}
use Rattle.bpf_shared.specs.Store.{Plain}
use Rattle.bpf_shared.specs.Sound.{IsSoundStore}
use Rattle.bpf_names.specs.Names.{names_of}
use Rattle.bpf_plain.specs.PlainStore.{StandsFor}
use Rattle.bpf_jobs.specs.Printed.{array_lines}
use Rattle.bpf_jobs.proofs.arrays.list_arrays.Given as goal

abbrev pub invariant-loop-number : goal.invariant-loop-number
invariant-loop-number l = (s : Plain) → IsSoundStore s → StandsFor l.store s → string_bytes l.text ≡ array_lines s (names_of l.names) l.number
