-- States of a CPU that are the same but for marks, by which a program may tell its CPU and its job from
-- others; and programs that ask for none.
use Rattle.std.specs.Prelude.{◌≡◌, ◌⊎◌, ℕ, false}
use Rattle.bpf_insn.specs.declared.instruction.Insn.TheVariants.{CallHelper}
use Rattle.bpf_shared.specs.declared.shapes.ArrayShape.{ArrayShape}
use Rattle.bpf_shared.specs.Shape.{Shape, IsArray}
use Rattle.bpf_helpers.specs.Calls.{processor_number}
use Rattle.bpf_helpers.specs.Given.{process_number, random_number}
use Rattle.bpf_helpers.specs.declared.given.Given.{Given}
use Rattle.bpf_loader.specs.Loaded.{Loaded}
use Rattle.bpf_loader.specs.Places.{Begins}
use Rattle.bpf_cpu.specs.declared.cpu.Cpu.{Cpu}
use Rattle.bpf_cpu.specs.declared.input.Input.{Input}

-- the CPU's number, the job's, and the seed of its random numbers
pub record Marks : Type 0 where
  pub number : ℕ
  pub job : ℕ
  pub seed : ℕ

-- what a job is given, with other marks
abbrev pub given_marked : Marks → Given → Given
given_marked m given = record given { job = m.job; seed = m.seed }

-- the state with others
abbrev pub marked : Marks → Cpu → Cpu
marked m cpu = record cpu { number = m.number; given = given_marked m cpu.given }

abbrev pub marks_of : Cpu → Marks
marks_of cpu = record { number = cpu.number; job = cpu.given.job; seed = cpu.given.seed }

-- the states are the same but for them
abbrev pub AreOneState : Cpu → Cpu → Type 0
AreOneState old new = new ≡ marked (marks_of new) old

-- so is what the jobs get
abbrev pub AreOneInput : Input → Input → Type 0
AreOneInput old new = new ≡ record old {
  given = record old.given { job = new.given.job; seed = new.given.seed };
}

-- the helper of this number answers by them
abbrev pub TellsMarks : ℕ → Type 0
TellsMarks n = (n ≡ processor_number) ⊎ (n ≡ process_number) ⊎ (n ≡ random_number)

-- no instruction calls one that does
abbrev pub AsksNoMarks : Loaded → Type 0
AsksNoMarks program =
    (pc n : ℕ) → Begins program.instructions pc (CallHelper n) → TellsMarks n → ⊥

-- no array has values by CPU
abbrev pub HasNoOwnValues : Shape → Type 0
HasNoOwnValues h = (a : ℕ) (g : ArrayShape) → IsArray h.arrays a g → g.per_cpu ≡ false
