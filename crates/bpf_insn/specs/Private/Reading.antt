-- What the reading of one instruction answers: the instruction, or the first thing that is wrong.
use Rattle.std.specs.Prelude.{◌≡◌, ℕ, ◌*◌, List, drop, Result, Ok, Err}
use Rattle.bpf_insn.specs.Encoding.{window_at, IsWrittenAs, Fits, BeginsWith}
use Rattle.bpf_insn.specs.Refusal.{IsOfRow, IsClean, IsWhole, HasRegisters, error_at, IsFirstAmiss}
use Rattle.bpf_insn.specs.declared.instruction.Insn.{Insn}
use Rattle.bpf_insn.specs.declared.word.Window.{Window}
use Rattle.bpf_insn.specs.declared.fault.Fault.{Fault}
use Rattle.bpf_insn.specs.declared.fault.Fault.TheVariants.{UnknownOpcode, ReservedNotZero, HalfWide, BadRegister}
use Rattle.bpf_insn.specs.declared.row.Row.{Row}
use Rattle.bpf_insn.specs.declared.error.InsnError.{InsnError}

-- the words are the instruction's, and its numbers fit
pub record IsWord (i : Insn) (w : Window) : Type 0 where
  pub written : IsWrittenAs i w
  pub fits : Fits i

abbrev pub IsReadAs : Window → Result Insn Fault → Type 0
IsReadAs w (Ok i) = IsWord i w
IsReadAs w (Err f) = IsFirstAmiss w f

-- The first thing that is wrong with words that are taken for a row's, in the order of the
-- refusals.
abbrev pub IsChecked : Row → Window → Result (Unit {0}) Fault → Type 0
IsChecked r w (Ok u) =
    IsOfRow r w.word × IsClean r w × IsWhole r.encoding w.next × HasRegisters r w.word
IsChecked r w (Err UnknownOpcode) = ¬ IsOfRow r w.word
IsChecked r w (Err ReservedNotZero) = IsOfRow r w.word × (¬ IsClean r w)
IsChecked r w (Err HalfWide) = IsOfRow r w.word × IsClean r w × (¬ IsWhole r.encoding w.next)
IsChecked r w (Err BadRegister) =
    IsOfRow r w.word × IsClean r w × IsWhole r.encoding w.next × (¬ HasRegisters r w.word)

-- the same at a pc, which a refusal names
pub record IsRefusedAt (e : InsnError) (pc : ℕ) (bytes : List ℕ) : Type 0 where
  pub fault : Fault
  pub named : e ≡ error_at fault pc
  pub first : IsFirstAmiss (window_at (drop (8 * pc) bytes)) fault

abbrev pub IsReadAt : List ℕ → ℕ → Result Insn InsnError → Type 0
IsReadAt bytes pc (Ok i) = BeginsWith i (drop (8 * pc) bytes)
IsReadAt bytes pc (Err e) = IsRefusedAt e pc bytes
