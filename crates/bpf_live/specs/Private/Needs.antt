-- Whether a register has to be live at an instruction, by what is live after it.
use Rattle.std.specs.Prelude.{◌≡◌, ℕ, ◌+◌, ◌<◌, ◌==◌, ◌&&◌, ◌||◌, not, nat_le, if◌then◌else◌, Bool, true, false, ℤ, pos, negsuc, Option, Some, None}
use Rattle.bpf_insn.specs.Register.{register_number}
use Rattle.bpf_insn.specs.declared.register.Reg.{Reg}
use Rattle.bpf_insn.specs.declared.instruction.Operand.{Operand}
use Rattle.bpf_insn.specs.declared.instruction.Operand.TheVariants.{Immediate, Register}
use Rattle.bpf_insn.specs.declared.instruction.Insn.{Insn}
use Rattle.bpf_insn.specs.declared.instruction.Insn.TheVariants as insn
use Rattle.bpf_loader.specs.Places.{target}
use Rattle.bpf_loader.specs.Rows.{destination, jump_offset}
use Rattle.bpf_live.specs.Registers.{is_move}
use Rattle.bpf_live.specs.Live.{is_live, next_word, Table}

-- it is between two numbers
abbrev pub is_within : ℕ → ℕ → ℕ → Bool
is_within low high r = nat_le low r && nat_le r high

abbrev pub is_operand : Operand → ℕ → Bool
is_operand (Immediate n) r = false
is_operand (Register s) r = register_number s == r

abbrev pub is_argument : ℕ → ℕ → Bool
is_argument number r =
    if number == 2 then is_within 1 4 r
    else if number == 1 || number == 3 then is_within 1 2 r
    else if number == 93 || number == 94 then r == 1
    else false

abbrev pub is_read : Insn → ℕ → Bool
is_read (insn.Alu w op d s) r = is_operand s r || (not (is_move op) && register_number d == r)
is_read (insn.Negate w d) r = register_number d == r
is_read (insn.SignExtend e d s) r = register_number s == r
is_read (insn.SwapBytes k w d) r = register_number d == r
is_read (insn.Jump o) r = false
is_read (insn.JumpLong o) r = false
is_read (insn.JumpIf w c d s o) r = is_operand s r || register_number d == r
is_read (insn.CallHelper n) r = is_argument n r
is_read (insn.CallLocal o) r = is_within 6 9 r
is_read insn.Exit r = r == 0
is_read (insn.Load z d b o) r = register_number b == r
is_read (insn.LoadSigned z d b o) r = register_number b == r
is_read (insn.StoreImmediate z b o v) r = register_number b == r
is_read (insn.Store z b o s) r = register_number b == r || register_number s == r
is_read (insn.Atomic w op b o s) r = r == 0 || (register_number b == r || register_number s == r)
is_read (insn.LoadNumber d n) r = false
is_read (insn.LoadMap d m) r = false

-- one that is put in the instruction's destination
abbrev pub is_destination : Option Reg → ℕ → Bool
is_destination None r = false
is_destination (Some d) r = register_number d == r

abbrev pub is_written : Insn → ℕ → Bool
is_written (insn.CallHelper n) r = nat_le r 5
is_written (insn.CallLocal o) r = r == 10
is_written i r = is_destination (destination i) r

-- EXIT from a function of the program
abbrev pub is_left : Bool → Insn → ℕ → Bool
is_left calls insn.Exit r = calls && is_within 1 5 r
is_left calls _ r = false

-- it is live where this many words lead, or a jump
abbrev pub is_live_after : Table → ℕ → Option ℕ → ℕ → Bool
is_live_after table pc None r = false
is_live_after table pc (Some n) r = is_live table (pc + n) r

abbrev pub is_live_to : Table → ℤ → ℕ → Bool
is_live_to table (pos to) r = is_live table to r
is_live_to table (negsuc n) r = true

abbrev pub is_live_by : Table → ℕ → Option ℤ → ℕ → Bool
is_live_by table pc None r = false
is_live_by table pc (Some offset) r = is_live_to table (target pc offset) r

-- it is read, or it is live after the instruction, which doesn't write it
abbrev pub needs : Table → Bool → ℕ → Insn → ℕ → Bool
needs table calls pc i r =
    (is_read i r || is_left calls i r)
    || (not (is_written i r)
    && (is_live_after table pc (next_word i) r || is_live_by table pc (jump_offset i) r))

-- the table has each that is needed
abbrev pub HasNeeded : Table → Bool → ℕ → Insn → Type 0
HasNeeded table calls pc i =
    (r : ℕ) → r < 10 → needs table calls pc i r ≡ true → is_live table pc r ≡ true
