-- What each row of the table (RFC 9669, sections 4 and 5) means for the soundness of a program.
use Rattle.std.specs.Prelude.{ℕ, ◌≡◌, ◌⊎◌, ℤ, Bool, true, false, if◌then◌else◌, Option, Some, None}
use Rattle.bpf_insn.specs.Table.{words}
use Rattle.bpf_insn.specs.Atomic.{fetched_into}
use Rattle.bpf_insn.specs.declared.register.Reg.{Reg}
use Rattle.bpf_insn.specs.declared.register.Reg.TheVariants.{R0}
use Rattle.bpf_insn.specs.declared.instruction.Insn.{Insn}
use Rattle.bpf_insn.specs.declared.instruction.Insn.TheVariants as insn

-- the register that the instruction puts its result in
abbrev pub destination : Insn → Option Reg
destination (insn.Alu w op dst s) = Some dst
destination (insn.Negate w dst) = Some dst
destination (insn.SignExtend e dst s) = Some dst
destination (insn.SwapBytes k w dst) = Some dst
destination (insn.Jump o) = None
destination (insn.JumpLong o) = None
destination (insn.JumpIf w c d s o) = None
destination (insn.CallHelper n) = Some R0
destination (insn.CallLocal o) = None
destination insn.Exit = None
destination (insn.Load z dst b o) = Some dst
destination (insn.LoadSigned z dst b o) = Some dst
destination (insn.StoreImmediate z b o v) = None
destination (insn.Store z b o s) = None
destination (insn.Atomic w op b o src) = fetched_into op src
destination (insn.LoadNumber dst n) = Some dst
destination (insn.LoadMap dst m) = Some dst

-- the offset of a jump or a local call, in words from the next one
abbrev pub jump_offset : Insn → Option ℤ
jump_offset (insn.Alu w op d s) = None
jump_offset (insn.Negate w d) = None
jump_offset (insn.SignExtend e d s) = None
jump_offset (insn.SwapBytes k w d) = None
jump_offset (insn.Jump offset) = Some offset
jump_offset (insn.JumpLong offset) = Some offset
jump_offset (insn.JumpIf w c d s offset) = Some offset
jump_offset (insn.CallHelper n) = None
jump_offset (insn.CallLocal offset) = Some offset
jump_offset insn.Exit = None
jump_offset (insn.Load z d b o) = None
jump_offset (insn.LoadSigned z d b o) = None
jump_offset (insn.StoreImmediate z b o v) = None
jump_offset (insn.Store z b o s) = None
jump_offset (insn.Atomic w op b o s) = None
jump_offset (insn.LoadNumber d n) = None
jump_offset (insn.LoadMap d m) = None

-- whether a run may come from this instruction to the next in the list: it is neither EXIT nor JA
abbrev pub goes_on : Insn → Bool
goes_on (insn.Alu w op d s) = true
goes_on (insn.Negate w d) = true
goes_on (insn.SignExtend e d s) = true
goes_on (insn.SwapBytes k w d) = true
goes_on (insn.Jump o) = false
goes_on (insn.JumpLong o) = false
goes_on (insn.JumpIf w c d s o) = true
goes_on (insn.CallHelper n) = true
goes_on (insn.CallLocal o) = true
goes_on insn.Exit = false
goes_on (insn.Load z d b o) = true
goes_on (insn.LoadSigned z d b o) = true
goes_on (insn.StoreImmediate z b o v) = true
goes_on (insn.Store z b o s) = true
goes_on (insn.Atomic w op b o s) = true
goes_on (insn.LoadNumber d n) = true
goes_on (insn.LoadMap d m) = true

-- how many words further the next instruction begins, where a run may reach it
abbrev pub stride : Insn → Option ℕ
stride i = if goes_on i then Some (words i) else None

-- the number of the helper that is called
abbrev pub helper_of : Insn → Option ℕ
helper_of (insn.CallHelper number) = Some number
helper_of _ = None

-- the number of the map or array that is named
abbrev pub map_of : Insn → Option ℕ
map_of (insn.LoadMap d map) = Some map
map_of _ = None

-- the helpers of bpf-helpers(7) that this machine has: of maps map_lookup_elem, map_update_elem and
-- map_delete_elem; get_smp_processor_id; of the job ktime_get_ns, get_prandom_u32,
-- get_current_pid_tgid, get_current_uid_gid, ktime_get_boot_ns and trace_printk; and spin_lock and
-- spin_unlock
abbrev pub IsHelper : ℕ → Type 0
IsHelper number =
    (number ≡ 1) ⊎ (number ≡ 2) ⊎ (number ≡ 3) ⊎ (number ≡ 8) ⊎ (number ≡ 5) ⊎ (number ≡ 7)
    ⊎ (number ≡ 14) ⊎ (number ≡ 15) ⊎ (number ≡ 125) ⊎ (number ≡ 6) ⊎ (number ≡ 93)
    ⊎ (number ≡ 94)
