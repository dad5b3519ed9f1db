-- What a CPU's state is saved as, bytes that determine all of it but the CPU's number and what the
-- job was given; and how a job ended.
use Rattle.std.specs.Prelude.{◌≡◌, ℕ, ◌^◌, ◌<◌, All, List, [], ◌∷◌, ◌++◌, length}
use Rattle.bpf_base.specs.Bytes.{low_bytes}
use Rattle.bpf_mem.specs.Saved.{IsSavable, IsWord, frames_saved, words_saved}
use Rattle.bpf_helpers.specs.Saved.{AreSavable, spans_saved}
use Rattle.bpf_cpu.specs.declared.cpu.Cpu.{Cpu}
use Rattle.bpf_cpu.specs.declared.outcome.Fault.{Fault as Reason}
use Rattle.bpf_cpu.specs.declared.outcome.Fault.TheVariants.{BadAddress, Misaligned, CallDepth, NotAMap, TooManyHeld, Worn, ReadOnly}
use Rattle.bpf_cpu.specs.declared.outcome.Outcome.{Outcome}
use Rattle.bpf_cpu.specs.declared.outcome.Outcome.TheVariants.{Exit, Fault, OutOfBudget}

-- its pc in four bytes, its registers, how many random numbers it has drawn, its frames, the values
-- that its run holds, and its context and its packet as they are
unfoldable pub cpu_saved : Cpu → List ℕ
cpu_saved cpu =
    low_bytes 4 cpu.pc ++ words_saved 0 cpu.registers ++ words_saved 0 (cpu.drawn ∷ [])
    ++ frames_saved cpu.memory.frames ++ spans_saved cpu.held ++ cpu.memory.context
    ++ cpu.memory.packet

-- what is saved is determined by its bytes, where its numbers fit
pub record IsSavableState (cpu : Cpu) : Type 0 where
  pub pc : cpu.pc < 2 ^ 32
  pub count : length cpu.registers ≡ 11
  pub words : All IsWord cpu.registers
  pub drawn : IsWord cpu.drawn
  pub frames : IsSavable cpu.memory.frames
  pub held : AreSavable cpu.held

-- the states may be those of one job: the CPU, the lengths of context and packet and what else it was
-- given are the same
abbrev pub IsOfOneJob : Cpu → Cpu → Type 0
IsOfOneJob first later = (later.number ≡ first.number)
    × (length later.memory.context ≡ length first.memory.context)
    × (later.given ≡ first.given)
    × (length later.memory.packet ≡ length first.memory.packet)

-- ---- how a job ended
abbrev pub fault_number : Reason → ℕ
fault_number BadAddress = 1
fault_number Misaligned = 2
fault_number CallDepth = 3
fault_number NotAMap = 4
fault_number TooManyHeld = 5
fault_number Worn = 6
fault_number ReadOnly = 8

-- two words: which way, and R0 or the pc
abbrev pub outcome_words : Outcome → List ℕ
outcome_words (Exit number) = 0 ∷ number ∷ []
outcome_words (Fault reason pc) = fault_number reason ∷ pc ∷ []
outcome_words (OutOfBudget pc) = 7 ∷ pc ∷ []

unfoldable pub outcome_saved : Outcome → List ℕ
outcome_saved outcome = words_saved 0 (outcome_words outcome)

abbrev pub IsSavableOutcome : Outcome → Type 0
IsSavableOutcome (Exit number) = IsWord number
IsSavableOutcome (Fault reason pc) = pc < 2 ^ 32
IsSavableOutcome (OutOfBudget pc) = pc < 2 ^ 32
