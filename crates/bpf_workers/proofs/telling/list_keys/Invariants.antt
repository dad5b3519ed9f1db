use Rattle.std.proofs.Common.{◌≡◌, map}
use Rattle.std.specs.Prelude.{string_bytes}
use Rattle.bpf_jobs.specs.Printed.{list_lines}
use Rattle.bpf_sched.specs.Worked.{listed_by}
use Rattle.bpf_workers.proofs.telling.list_keys.Given as goal

abbrev pub invariant-loop-cpu : goal.invariant-loop-cpu
invariant-loop-cpu l = string_bytes l.text ≡ list_lines (listed_by l.lists) (map string_bytes l.names) l.cpu
