-- Two CPUs and one array of one value, to which each stores and which it then loads.
use Rattle.std.specs.Prelude.{ℕ, pos, false, [], ◌∷◌}
use Rattle.bpf_insn.specs.declared.register.Reg.TheVariants.{R0, R1}
use Rattle.bpf_insn.specs.declared.operation.sizes.Size.TheVariants.{Double}
use Rattle.bpf_insn.specs.declared.instruction.Insn.TheVariants.{LoadNumber, StoreImmediate, Load, Exit}
use Rattle.bpf_shared.specs.declared.shapes.ArrayShape.{ArrayShape}
use Rattle.bpf_shared.specs.Shape.{Shape}
use Rattle.bpf_loader.specs.Loaded.{Loaded}
use Rattle.bpf_cpu.specs.Input.{no_input}
use Rattle.bpf_cpu.specs.Task.{Task, Waiting}
use Rattle.bpf_agreement.specs.Arrays.{HasArraysAlone}

-- eight bytes
abbrev pub one_word : ArrayShape
one_word = record { value = 8; max = 1; per_cpu = false; frozen = false }

abbrev pub one_array : Shape
one_array = record {
  cpus = 2;
  maps = [];
  arrays = one_word ∷ [];
  contents = [] ∷ [];
}

-- the address of the array's value is in R1
abbrev pub stores_and_loads : Loaded
stores_and_loads = record {
  instructions =
      LoadNumber R1 0x11_0000_0000 ∷ StoreImmediate Double R1 (pos 0) (pos 1)
      ∷ Load Double R0 R1 (pos 0) ∷ Exit ∷ [];
  named = record { maps = 0; arrays = 1 };
}

abbrev pub job_on : ℕ → Task
job_on c = record { cpu = c; program = 0; budget = 4; stage = Waiting no_input }

-- the law says something of it
abbrev pub IsExample : Type 0
IsExample = HasArraysAlone one_array (stores_and_loads ∷ []) (job_on 0 ∷ job_on 1 ∷ [])
