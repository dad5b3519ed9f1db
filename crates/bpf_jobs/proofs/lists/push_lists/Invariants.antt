use Rattle.std.proofs.Common.{◌≡◌, ◌++◌, map}
use Rattle.std.specs.Prelude.{string_bytes}
use Rattle.bpf_jobs.specs.Printed.{cpu_lines}
use Rattle.bpf_jobs.proofs.lists.push_lists.Given as goal

abbrev pub invariant-loop-map : goal.invariant-loop-map
invariant-loop-map l = string_bytes l.text ≡ string_bytes l.fn.text ++ cpu_lines l.cpu (map string_bytes l.names) l.map (map (λ list. list.keys) l.lists)
