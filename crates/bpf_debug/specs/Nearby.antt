-- What `list` shows: the instructions near a CPU's pc, each with its pc before it and as the text
-- of a program spells it (our own choice).
use Rattle.std.specs.Prelude.{◌≡◌, ℕ, zero, suc, ◌+◌, ◌-◌, ◌==◌, if◌then◌else◌, ◌⊎◌, List, [], ◌++◌, Some, codes, slice_get}
use Rattle.std.specs.Fmt.{decimal}
use Rattle.bpf_insn.specs.declared.instruction.Insn.{Insn}
use Rattle.bpf_spelling.specs.Form.{line_of}
use Rattle.bpf_loader.specs.Loaded.{Loaded}
use Rattle.bpf_loader.specs.Places.{Begins, IsStart}
use Rattle.bpf_cpu.specs.declared.cpu.Cpu.{Cpu}
use Rattle.bpf_cpu.specs.Task.{Task, InHand}
use Rattle.bpf_machine.specs.Hands.{IsAt}
use Rattle.bpf_debug.specs.Answer.{IsOff}

-- the window: three words before the pc, its own, and five after it
abbrev pub first_shown : ℕ → ℕ
first_shown here = here - 3

abbrev pub count_shown : ℕ → ℕ
count_shown here = here + 6 - first_shown here

-- the instruction that comes next is marked
abbrev pub mark_at : ℕ → ℕ → List ℕ
mark_at here pc = if pc == here then codes "> " else codes "  "

abbrev pub nearby_line : ℕ → ℕ → Insn → List ℕ
nearby_line here pc i = mark_at here pc ++ decimal pc ++ codes "  " ++ line_of i ++ codes "\n"

-- the line of the instruction that begins at a pc; none where none does: at the second word of a
-- wide one, and after the program
abbrev pub IsLineAt : Loaded → ℕ → ℕ → List ℕ → Type 0
IsLineAt program here pc text =
    ((i : Insn) × Begins program.instructions pc i × (text ≡ nearby_line here pc i))
    ⊎ ((IsStart program.instructions pc → ⊥) × (text ≡ []))

-- those of this many pcs from the first on
abbrev pub TellsLines : Loaded → ℕ → ℕ → ℕ → List ℕ → Type 0
TellsLines program here first zero text = text ≡ []
TellsLines program here first (suc n) text =
    (before : List ℕ) × (line : List ℕ) × TellsLines program here first n before
    × IsLineAt program here (first + n) line × (text ≡ before ++ line)

-- those of a CPU with a job in hand, or where it is
abbrev pub IsNearbyText : List Loaded → List Task → ℕ → List ℕ → Type 0
IsNearbyText programs jobs c text =
    ((j : ℕ) × (task : Task) × (state : Cpu) × (left : ℕ) × (program : Loaded)
    × IsAt jobs c j task (InHand state left) × (slice_get programs task.program ≡ Some program)
    × TellsLines program state.pc (first_shown state.pc) (count_shown state.pc) text)
    ⊎ IsOff jobs c text
