-- What is read at a spot lies outside the values of maps and arrays, and what is put into an array is
-- put there at once.
use Rattle.std.specs.Prelude.{◌≡◌, ◌⊎◌, ℕ, ◌+◌, List, Some, slice_get}
use Rattle.bpf_insn.specs.declared.register.Reg.{Reg}
use Rattle.bpf_insn.specs.declared.register.Reg.TheVariants.{R1, R2, R3}
use Rattle.bpf_insn.specs.declared.instruction.Insn.{Insn}
use Rattle.bpf_insn.specs.declared.instruction.Insn.TheVariants.{CallHelper}
use Rattle.bpf_shared.specs.declared.shapes.ArrayShape.{ArrayShape}
use Rattle.bpf_shared.specs.Shape.{IsArray}
use Rattle.bpf_loader.specs.Loaded.{Loaded}
use Rattle.bpf_loader.specs.Places.{Begins}
use Rattle.bpf_helpers.specs.Given.{AsksOnce}
use Rattle.bpf_helpers.specs.Calls.{update_number, map_value}
use Rattle.bpf_threads.specs.declared.spot.Spot.{Spot}
use Rattle.bpf_threads.specs.Chart.{Knows}
use Rattle.bpf_threads.specs.Outside.{IsCopiedAtOnce, IsOutsideValues}

-- the register is known to hold an address from which n bytes do
abbrev pub LiesOutside : Spot → Reg → ℕ → Type 0
LiesOutside p r size = (a : ℕ) × Knows p r a × IsOutsideValues a size

-- the array of which a register so has the number is copied into at once, if there is one
abbrev pub IsAtOnce : List ArrayShape → ℕ → Type 0
IsAtOnce arrays x = (a : ℕ) (g : ArrayShape) → IsArray arrays a g → x ≡ map_value (16 + a)
    → IsCopiedAtOnce g

-- each array is copied into at once
abbrev pub AreAtOnce : List ArrayShape → Type 0
AreAtOnce arrays = (a : ℕ) (g : ArrayShape) → IsArray arrays a g → IsCopiedAtOnce g

-- that of which R1 is known to have the number is; or each is
abbrev pub UpdatesAtOnce : List ArrayShape → Spot → Type 0
UpdatesAtOnce arrays p = ((x : ℕ) × Knows p R1 x × IsAtOnce arrays x) ⊎ AreAtOnce arrays

-- the key and the value of a call lie outside, and an update is one store at most
abbrev pub ReadsOutsideAt : List ArrayShape → Spot → Insn → Type 0
ReadsOutsideAt arrays p (CallHelper number) =
    AsksOnce number
    ⊎ (LiesOutside p R2 64
    × (number ≡ update_number → LiesOutside p R3 65536 × UpdatesAtOnce arrays p))
ReadsOutsideAt arrays p i = Unit {0}

-- so it is of whatever instruction is at the spot
abbrev pub SpotReadsOutside : List ArrayShape → Loaded → Spot → Type 0
SpotReadsOutside arrays program p = (i : Insn) → Begins program.instructions p.pc i
    → ReadsOutsideAt arrays p i

abbrev pub PlaceReadsOutside : List ArrayShape → Loaded → List Spot → ℕ → Type 0
PlaceReadsOutside arrays program spots k = (p : Spot) → slice_get spots k ≡ Some p
    → SpotReadsOutside arrays program p
