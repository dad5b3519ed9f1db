use Rattle.std.proofs.Common.{◌≡◌, ◌||◌}
use Rattle.bpf_hash.specs.Private.Runs.{run_of}
use Rattle.bpf_hash.specs.Private.Contents.{any_below}
use Rattle.bpf_hash.specs.Private.Saved.{holds_row, keeps_row}
use Rattle.bpf_hash.proofs.table.Table.is_noted.Given as goal

abbrev pub invariant-loop-cpu : goal.invariant-loop-cpu
invariant-loop-cpu l = l.noted ≡ any_below l.cpu (λ c. holds_row l.self l.element c (run_of l.runs c) || keeps_row l.self l.element c (run_of l.runs c))
