-- How far the checks of a program have come.
use Rattle.std.specs.Prelude.{◌≡◌, ◌≢◌, ℕ, ◌≤◌, List}
use Rattle.bpf_loader.specs.declared.named.Named.{Named}
use Rattle.bpf_insn.specs.declared.instruction.Insn.{Insn}
use Rattle.bpf_loader.specs.declared.refusal.LoadError.{LoadError}
use Rattle.bpf_loader.specs.Sound.{Applies, refusal_number, place}

-- no refusal applies at a place below this one
abbrev pub IsClearBefore : Named → List Insn → ℕ → Type 0
IsClearBefore named is pc = (e : LoadError) → Applies named is e → pc ≤ place e

-- none applies at this place
abbrev pub IsClearAt : Named → List Insn → ℕ → Type 0
IsClearAt named is pc = (e : LoadError) → Applies named is e → place e ≢ pc

-- none with a lower number applies at this place
abbrev pub IsClearBelow : Named → List Insn → ℕ → ℕ → Type 0
IsClearBelow named is pc number = (e : LoadError) → Applies named is e → place e ≡ pc
    → number ≤ refusal_number e

-- the refusal of the lowest number at this place
pub record IsLeastAt (named : Named) (is : List Insn) (pc : ℕ) (e : LoadError) : Type 0 where
  pub applies : Applies named is e
  pub at : place e ≡ pc
  pub least : IsClearBelow named is pc (refusal_number e)
