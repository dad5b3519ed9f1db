use Rattle.std.proofs.Common.{◌≡◌, ℕ, ◌<◌, ◌≤◌, Some}
use Rattle.std.specs.Prelude.{slice_get}
use Rattle.bpf_cpu.specs.Task.{Task}
use Rattle.bpf_explore.proofs.album.least_budget.Given as goal

abbrev pub invariant-loop-part : goal.invariant-loop-part
invariant-loop-part l = (n : ℕ) (task : Task) → n < l.part-index → slice_get l.parts n ≡ Some task → l.least ≤ task.budget
