-- Calls that are one event each: their keys and values lie outside the values of maps and arrays, and
-- what they put into an array is put there at once.
use Rattle.std.specs.Prelude.{◌≡◌, ◌⊎◌, ℕ, zero, suc, ◌+◌, ◌*◌, ◌≤◌, List, length, slice_index}
use Rattle.bpf_insn.specs.declared.instruction.Insn.TheVariants.{CallHelper}
use Rattle.bpf_shared.specs.declared.events.Event.{Event}
use Rattle.bpf_shared.specs.declared.shapes.ArrayShape.{ArrayShape}
use Rattle.bpf_shared.specs.Shape.{Shape, first_value, map_area}
use Rattle.bpf_loader.specs.Loaded.{Loaded}
use Rattle.bpf_loader.specs.Places.{Begins}
use Rattle.bpf_helpers.specs.Arrays.{parts_of}
use Rattle.bpf_helpers.specs.Given.{AsksOnce}
use Rattle.bpf_helpers.specs.Calls.{update_number, IsArrayAt}
use Rattle.bpf_cpu.specs.declared.cpu.Cpu.{Cpu}
use Rattle.bpf_cpu.specs.declared.input.Input.{Input}
use Rattle.bpf_cpu.specs.declared.outcome.Progress.TheVariants.{On}
use Rattle.bpf_cpu.specs.State.{start}
use Rattle.bpf_cpu.specs.Step.{Step}

-- n bytes from the address on lie where no value of a map or an array does: 16 areas are of maps,
-- and then 16 of arrays
abbrev pub IsOutsideValues : ℕ → ℕ → Type 0
IsOutsideValues a n = (a + n ≤ first_value) ⊎ (first_value + map_area * 32 ≤ a)

-- an array's value is copied in one part at most
abbrev pub IsCopiedAtOnce : ArrayShape → Type 0
IsCopiedAtOnce g = length (parts_of g.value) ≤ 1

-- a call's key lies so, and an update's value: they have at most 64 bytes and 65,536; and an update of
-- an array is one store. So a call has at most one event: threads come between the events of one call,
-- and turns don't
pub record ReadsOutside (arrays : List ArrayShape) (number : ℕ) (registers : List ℕ) : Type 0 where
  pub key : IsOutsideValues (slice_index registers 2) 64
  pub value : number ≡ update_number → IsOutsideValues (slice_index registers 3) 65536
  pub at_once : number ≡ update_number → (a : ℕ) (g : ArrayShape)
      → IsArrayAt arrays registers a g → IsCopiedAtOnce g

-- at most n steps lead from the one state to the other
abbrev pub LeadsInSteps : Shape → Loaded → ℕ → Cpu → Cpu → Type 0
LeadsInSteps shape program zero old now = now ≡ old
LeadsInSteps shape program (suc n) old now =
    (now ≡ old)
    ⊎ ((events : List Event) × (mid : Cpu) × Step shape program old events On mid
    × LeadsInSteps shape program n mid now)

-- however a store of this shape answers, it is so of each call of a map or an array that a run makes
abbrev pub AllReadOutside : Shape → Loaded → Type 0
AllReadOutside shape program =
    (number steps : ℕ) (input : Input) (now : Cpu) (helper : ℕ)
    → LeadsInSteps shape program steps (start number input) now
    → Begins program.instructions now.pc (CallHelper helper)
    → AsksOnce helper ⊎ ReadsOutside shape.arrays helper now.registers
