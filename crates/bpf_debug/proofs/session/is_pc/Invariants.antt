use Rattle.std.proofs.Common.{◌≡◌, ℕ, ◌<◌, Some}
use Rattle.std.specs.Prelude.{slice_get}
use Rattle.bpf_loader.specs.Loaded.{Loaded}
use Rattle.bpf_loader.specs.Places.{IsStart}
use Rattle.bpf_debug.proofs.session.is_pc.Given as goal

abbrev pub invariant-loop-program : goal.invariant-loop-program
invariant-loop-program l =
    (k : ℕ) (p : Loaded) → k < l.program-index → slice_get l.programs k ≡ Some p → IsStart p.instructions l.pc → ⊥
