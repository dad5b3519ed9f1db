use Rattle.std.proofs.Common.{◌<◌, ◌+◌, ℕ, map}
use Rattle.bpf_text.specs.Symbols.{names_in}
use Rattle.bpf_text.specs.Misfit.{IsUnfit, with_numbers}
use Rattle.bpf_text.specs.Private.Look.{look}
use Rattle.bpf_text.proofs.misfit.unfit_at.Given as goal

abbrev pub invariant-loop-n : goal.invariant-loop-n
invariant-loop-n l = (k : ℕ) → k < l.n → IsUnfit (names_in l.symbols) (with_numbers (k + 1) (map look l.tokens)) → ⊥
