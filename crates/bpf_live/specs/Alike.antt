-- States of a CPU that are one but for registers that are written before they are read.
use Rattle.std.specs.Prelude.{◌≡◌, ℕ, List, [], length, slice_index, ◌⊎◌}
use Rattle.bpf_loader.specs.Loaded.{Loaded}
use Rattle.bpf_cpu.specs.declared.cpu.Cpu.{Cpu}
use Rattle.bpf_live.specs.Live.{HasCalls, IsLive, Table}

-- the CPU with other registers
abbrev pub with_registers : Cpu → List ℕ → Cpu
with_registers cpu registers = record cpu { registers = registers }

-- the CPU with the marks of another: its number, the job's, and the seed of its random numbers
abbrev pub marked_as : Cpu → Cpu → Cpu
marked_as other cpu = record cpu {
  number = other.number;
  given = record cpu.given { job = other.given.job; seed = other.given.seed };
}

-- no function of the program has been called, or the program calls some
abbrev pub IsEntered : Loaded → Cpu → Type 0
IsEntered program cpu = (cpu.memory.frames.callers ≡ []) ⊎ HasCalls program.instructions

-- two states are alike: their registers hold the same where they are live at the pc, and all else is
-- the same. Where they differ, no function was called of a program that calls none.
pub record AreAlike (program : Loaded) (table : Table) (cpu other : Cpu) : Type 0 where
  pub rest : other ≡ with_registers cpu other.registers
  pub many : length other.registers ≡ length cpu.registers
  pub live : (r : ℕ) → IsLive table cpu.pc r
      → slice_index other.registers r ≡ slice_index cpu.registers r
  pub entered : (other.registers ≡ cpu.registers) ⊎ IsEntered program cpu
