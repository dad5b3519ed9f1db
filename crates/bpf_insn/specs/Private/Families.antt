-- The families of instructions whose rows are in functions of their own.
use Rattle.bpf_insn.specs.declared.instruction.Insn.{Insn}
use Rattle.bpf_insn.specs.declared.instruction.Insn.TheVariants as insn

abbrev pub IsJump : Insn → Type 0
IsJump (insn.Jump o) = Unit {0}
IsJump (insn.JumpLong n) = Unit {0}
IsJump (insn.JumpIf w c d s o) = Unit {0}
IsJump (insn.CallHelper n) = Unit {0}
IsJump (insn.CallLocal n) = Unit {0}
IsJump insn.Exit = Unit {0}
IsJump i = ⊥

abbrev pub IsAnyStore : Insn → Type 0
IsAnyStore (insn.StoreImmediate z b o n) = Unit {0}
IsAnyStore (insn.Store z b o s) = Unit {0}
IsAnyStore (insn.Atomic w op b o s) = Unit {0}
IsAnyStore i = ⊥

-- loads and stores
abbrev pub IsLoadOrStore : Insn → Type 0
IsLoadOrStore (insn.Load z d b o) = Unit {0}
IsLoadOrStore (insn.LoadSigned z d b o) = Unit {0}
IsLoadOrStore i = IsAnyStore i
