use Rattle.std.proofs.Common.{◌≡◌, true, ℕ, ◌<◌}
use Rattle.bpf_hash.specs.Private.Runs.{run_of, is_run}
use Rattle.bpf_hash.proofs.table.go_on.Given as goal

abbrev pub invariant-loop-cpu : goal.invariant-loop-cpu
invariant-loop-cpu l = (c n : ℕ) → c < l.cpu → is_run (run_of l.seen c) n ≡ true → is_run (run_of l.runs c) n ≡ true
