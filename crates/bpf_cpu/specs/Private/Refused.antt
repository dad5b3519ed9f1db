-- Why an access to memory that isn't private is refused, and what a load reads.
use Rattle.std.specs.Prelude.{◌≡◌, ℕ, Bool, true, false, Option, Some, None}
use Rattle.bpf_insn.specs.declared.operation.sizes.Size.{Size}
use Rattle.bpf_insn.specs.declared.operation.extensions.SignExtension.{SignExtension}
use Rattle.bpf_alu.specs.Arithmetic.{sign_extended}
use Rattle.bpf_mem.specs.Bytes.{length_of}
use Rattle.bpf_shared.specs.Shape.{Shape}
use Rattle.bpf_helpers.specs.Arrays.{IsInArray}
use Rattle.bpf_helpers.specs.Held.{is_covered}
use Rattle.bpf_cpu.specs.declared.cpu.Cpu.{Cpu}
use Rattle.bpf_cpu.specs.declared.value.Holder.{Holder}
use Rattle.bpf_cpu.specs.declared.value.Holder.TheVariants.{Run, Array}
use Rattle.bpf_cpu.specs.declared.outcome.Fault.{Fault}
use Rattle.bpf_cpu.specs.declared.outcome.Next.{Next}
use Rattle.bpf_cpu.specs.declared.outcome.Outcome.TheVariants as outcome
use Rattle.bpf_cpu.specs.declared.outcome.Progress.TheVariants.{Done}
use Rattle.bpf_cpu.specs.Private.Execute.{progress_of}

-- what a load puts in its register
abbrev pub reading_of : Option SignExtension → ℕ → ℕ
reading_of None x = x
reading_of (Some e) x = sign_extended e x

-- a step answers so where it is a fault for such a reason
abbrev pub IsFaultOf : (Fault → Type 0) → Next → Type 0
IsFaultOf why next =
    (fault : Fault) × why fault
    × ((cpu : Cpu) → progress_of next cpu ≡ Done (outcome.Fault fault cpu.pc))

-- this has the bytes of an access: the run holds their value, or, where it doesn't, an array has it
abbrev pub IsHolder : Shape → Cpu → ℕ → Size → Holder → Type 0
IsHolder h cpu a z Run = is_covered cpu.held a (length_of z) ≡ true
IsHolder h cpu a z (Array frozen) =
    (is_covered cpu.held a (length_of z) ≡ false)
    × ((p : IsInArray h a (length_of z)) × (p.array.frozen ≡ frozen))

abbrev pub is_read_only : Holder → Bool
is_read_only Run = false
is_read_only (Array frozen) = frozen
