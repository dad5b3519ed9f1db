-- What follows from the definitions of places and sound programs, of all lists of instructions.
use Rattle.std.specs.Prelude.{◌≡◌, ℕ, List}
use Rattle.bpf_loader.specs.declared.named.Named.{Named}
use Rattle.bpf_insn.specs.declared.instruction.Insn.{Insn}
use Rattle.bpf_loader.specs.declared.refusal.LoadError.{LoadError}
use Rattle.bpf_loader.specs.Places.{Begins}
use Rattle.bpf_loader.specs.Sound.{IsSound, IsFirstRefusal}

-- one instruction at most begins at a pc
abbrev pub OneInstructionBegins : Type 0
OneInstructionBegins = (is : List Insn) (pc : ℕ) (i j : Insn) → Begins is pc i → Begins is pc j
    → i ≡ j

-- a list has one first refusal at most, and a sound one has none
abbrev pub FirstIsDetermined : Type 0
FirstIsDetermined =
    ((named : Named) (is : List Insn) (e f : LoadError) → IsFirstRefusal named is e
    → IsFirstRefusal named is f → e ≡ f)
    × ((named : Named) (is : List Insn) (e : LoadError) → IsSound named is → ¬ IsFirstRefusal named is e)
