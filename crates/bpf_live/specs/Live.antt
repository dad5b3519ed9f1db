-- A table of the registers that may be read before they are written, by pc, and what makes one right.
use Rattle.std.specs.Prelude.{◌≡◌, ◌≢◌, ℕ, ◌+◌, nat_le, ◌||◌, ℤ, pos, Bool, true, List, [], ◌∷◌, Option, Some, None, get_or}
use Rattle.bpf_insn.specs.declared.instruction.Insn.{Insn}
use Rattle.bpf_insn.specs.declared.instruction.Insn.TheVariants as insn
use Rattle.bpf_loader.specs.Places.{Begins, target}
use Rattle.bpf_loader.specs.Rows.{jump_offset}
use Rattle.bpf_live.specs.Registers.{reads, writes}

-- R0 to R9 by pc: whether each is live there
abbrev pub Table : Type 0
Table = List (List Bool)

-- R10 always is, and so is what the table doesn't speak of
abbrev pub is_live : Table → ℕ → ℕ → Bool
is_live table pc r = nat_le 10 r || get_or (get_or table pc []) r true

abbrev pub IsLive : Table → ℕ → ℕ → Type 0
IsLive table pc r = is_live table pc r ≡ true

-- this is so of each number
abbrev pub Each : (ℕ → Type 0) → List ℕ → Type 0
Each P [] = Unit {0}
Each P (r ∷ rs) = P r × Each P rs

-- what is live at a pc and was not written on the way from another, is live there
abbrev pub StaysLive : Table → List ℕ → ℕ → ℕ → Type 0
StaysLive table written pc to =
    (r : ℕ) → IsLive table to r → Each (λ w. r ≢ w) written → IsLive table pc r

-- some instruction calls a function of the program
abbrev pub HasCalls : List Insn → Type 0
HasCalls is = (pc : ℕ) × (offset : ℤ) × Begins is pc (insn.CallLocal offset)

-- how many words further a CPU goes on that doesn't jump: not by a local call, which jumps
abbrev pub next_word : Insn → Option ℕ
next_word (insn.Jump offset) = None
next_word (insn.JumpLong offset) = None
next_word (insn.CallLocal offset) = None
next_word insn.Exit = None
next_word (insn.LoadNumber d n) = Some 2
next_word (insn.LoadMap d m) = Some 2
next_word _ = Some 1

-- at this instruction the table has what it reads, and what those after it have which it doesn't
-- write
pub record HasLive (is : List Insn) (table : Table) (pc : ℕ) (i : Insn) : Type 0 where
  pub inputs : Each (IsLive table pc) (reads i)
  pub exits : i ≡ insn.Exit → HasCalls is → Each (IsLive table pc) (1 ∷ 2 ∷ 3 ∷ 4 ∷ 5 ∷ [])
  pub next : (n : ℕ) → next_word i ≡ Some n → StaysLive table (writes i) pc (pc + n)
  pub jumps : (offset : ℤ) (to : ℕ) → jump_offset i ≡ Some offset → pos to ≡ target pc offset
      → StaysLive table (writes i) pc to

-- so it is at each
abbrev pub IsLiveTable : List Insn → Table → Type 0
IsLiveTable is table = (pc : ℕ) (i : Insn) → Begins is pc i → HasLive is table pc i
