-- Which registers an instruction reads and which it writes, by their numbers (RFC 9669, sections 4
-- and 5; bpf-helpers(7)).
use Rattle.std.specs.Prelude.{ℕ, Bool, true, false, ◌||◌, ◌==◌, if◌then◌else◌, List, [], ◌∷◌, Option, Some, None}
use Rattle.bpf_insn.specs.Register.{register_number}
use Rattle.bpf_insn.specs.declared.operation.arithmetic.AluOp.{AluOp}
use Rattle.bpf_insn.specs.declared.operation.arithmetic.AluOp.TheVariants.{Mov}
use Rattle.bpf_insn.specs.declared.register.Reg.{Reg}
use Rattle.bpf_insn.specs.declared.instruction.Operand.{Operand}
use Rattle.bpf_insn.specs.declared.instruction.Operand.TheVariants.{Immediate, Register}
use Rattle.bpf_insn.specs.declared.instruction.Insn.{Insn}
use Rattle.bpf_insn.specs.declared.instruction.Insn.TheVariants as insn
use Rattle.bpf_helpers.specs.Calls.{lookup_number, update_number, delete_number, lock_number, unlock_number}
use Rattle.bpf_loader.specs.Rows.{destination}

-- ---- reading

-- an operand, before these others
abbrev pub with_operand : Operand → List ℕ → List ℕ
with_operand (Immediate n) others = others
with_operand (Register r) others = register_number r ∷ others

-- MOV doesn't read its dst, all other arithmetic does
abbrev pub is_move : AluOp → Bool
is_move Mov = true
is_move _ = false

-- a helper's arguments: an update has four, a lookup and a deletion two, those of locks one, all
-- others none
abbrev pub arguments_of : ℕ → List ℕ
arguments_of number =
    if number == update_number then 1 ∷ 2 ∷ 3 ∷ 4 ∷ []
    else if number == lookup_number || number == delete_number then 1 ∷ 2 ∷ []
    else if number == lock_number || number == unlock_number then 1 ∷ []
    else []

-- A local call reads R6 to R9, which it keeps for its caller. An atomic operation is said to read R0
-- whatever it does, since its event has what R0 holds; EXIT reads R0 (of a called function it reads
-- R1 to R5 too, which stay: `exits` of `HasLive`).
abbrev pub reads : Insn → List ℕ
reads (insn.Alu w op d s) =
    with_operand s (if is_move op then [] else register_number d ∷ [])
reads (insn.Negate w d) = register_number d ∷ []
reads (insn.SignExtend e d s) = register_number s ∷ []
reads (insn.SwapBytes k w d) = register_number d ∷ []
reads (insn.Jump o) = []
reads (insn.JumpLong o) = []
reads (insn.JumpIf w c d s o) = with_operand s (register_number d ∷ [])
reads (insn.CallHelper n) = arguments_of n
reads (insn.CallLocal o) = 6 ∷ 7 ∷ 8 ∷ 9 ∷ []
reads insn.Exit = 0 ∷ []
reads (insn.Load z d b o) = register_number b ∷ []
reads (insn.LoadSigned z d b o) = register_number b ∷ []
reads (insn.StoreImmediate z b o v) = register_number b ∷ []
reads (insn.Store z b o s) = register_number b ∷ register_number s ∷ []
reads (insn.Atomic w op b o s) = 0 ∷ register_number b ∷ register_number s ∷ []
reads (insn.LoadNumber d n) = []
reads (insn.LoadMap d m) = []

-- ---- writing

abbrev pub only : Option Reg → List ℕ
only None = []
only (Some r) = register_number r ∷ []

-- a helper leaves its result in R0, and R1 to R5 are 0 after it; a called function has a top of its
-- own in R10
abbrev pub writes : Insn → List ℕ
writes (insn.CallHelper n) = 0 ∷ 5 ∷ 4 ∷ 3 ∷ 2 ∷ 1 ∷ []
writes (insn.CallLocal o) = 10 ∷ []
writes (insn.Alu w op d s) = register_number d ∷ []
writes (insn.Negate w d) = register_number d ∷ []
writes (insn.SignExtend e d s) = register_number d ∷ []
writes (insn.SwapBytes k w d) = register_number d ∷ []
writes (insn.Jump o) = []
writes (insn.JumpLong o) = []
writes (insn.JumpIf w c d s o) = []
writes insn.Exit = []
writes (insn.Load z d b o) = register_number d ∷ []
writes (insn.LoadSigned z d b o) = register_number d ∷ []
writes (insn.StoreImmediate z b o v) = []
writes (insn.Store z b o s) = []
writes (insn.Atomic w op b o s) = only (destination (insn.Atomic w op b o s))
writes (insn.LoadNumber d n) = register_number d ∷ []
writes (insn.LoadMap d m) = register_number d ∷ []
