use Rattle.std.proofs.Common.{◌≡◌, ℕ, ◌<◌, Some}
use Rattle.std.specs.Prelude.{slice_get}
use Rattle.bpf_loader.specs.Loaded.{Loaded}
use Rattle.bpf_x86.specs.Laws.{FirstFits}
use Rattle.bpf_x86.proofs.firsts.firsts_fit.Given as goal

-- those of the first of them do
abbrev pub invariant-loop-program : goal.invariant-loop-program
invariant-loop-program l = (k : ℕ) (program : Loaded) → k < l.program-index → slice_get l.programs k ≡ Some program → FirstFits program
