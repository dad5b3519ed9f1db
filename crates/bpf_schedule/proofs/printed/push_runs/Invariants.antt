use Rattle.std.proofs.Common.{◌≡◌, ◌++◌}
use Rattle.std.specs.Prelude.{string_bytes}
use Rattle.bpf_schedule.specs.Spelling.{runs_text}
use Rattle.bpf_schedule.proofs.printed.push_runs.Given as goal

abbrev pub invariant-loop-cpu : goal.invariant-loop-cpu
invariant-loop-cpu l = string_bytes l.text ≡ string_bytes l.fn.text ++ runs_text l.cpu-index l.runs
