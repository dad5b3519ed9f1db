-- Charts of a program: the spots where its runs may be, and what registers hold there, whatever a
-- store answers.
use Rattle.std.specs.Prelude.{◌≡◌, ◌⊎◌, ℕ, ◌+◌, ◌<◌, ◌≤◌, ℤ, pos, Bool, true, false, List, [], ◌∷◌, ◌++◌, Option, Some, None, IfSome}
use Rattle.std.specs.Prelude.{length, slice_get, slice_set, slice_index}
use Rattle.std.specs.Int.{w64, cast_unsigned}
use Rattle.bpf_insn.specs.Register.{register_number}
use Rattle.bpf_insn.specs.Table.{words}
use Rattle.bpf_insn.specs.declared.register.Reg.{Reg}
use Rattle.bpf_insn.specs.declared.register.Reg.TheVariants.{R10}
use Rattle.bpf_insn.specs.declared.operation.widths.Width.{Width}
use Rattle.bpf_insn.specs.declared.operation.arithmetic.AluOp.{AluOp}
use Rattle.bpf_insn.specs.declared.operation.arithmetic.AluOp.TheVariants.{Mov}
use Rattle.bpf_insn.specs.declared.operation.conditions.Condition.{Condition}
use Rattle.bpf_insn.specs.declared.instruction.Operand.{Operand}
use Rattle.bpf_insn.specs.declared.instruction.Operand.TheVariants.{Immediate, Register}
use Rattle.bpf_insn.specs.declared.instruction.Insn.{Insn}
use Rattle.bpf_insn.specs.declared.instruction.Insn.TheVariants as insn
use Rattle.bpf_alu.specs.Arithmetic.{arithmetic}
use Rattle.bpf_alu.specs.Comparison.{holds}
use Rattle.bpf_mem.specs.Addresses.{top_of}
use Rattle.bpf_mem.specs.Limits.{max_frames}
use Rattle.bpf_loader.specs.Loaded.{Loaded}
use Rattle.bpf_loader.specs.Places.{Begins, target}
use Rattle.bpf_loader.specs.Rows.{destination}
use Rattle.bpf_loader.specs.Sound.{IsSafe}
use Rattle.bpf_helpers.specs.Calls.{map_value}
use Rattle.bpf_cpu.specs.Input.{no_input}
use Rattle.bpf_cpu.specs.State.{start}
use Rattle.bpf_threads.specs.declared.spot.Spot.{Spot}

-- ---- what is known of registers

-- what is known of R0 to R9 is so of these registers
abbrev pub IsKnownOf : List (Option ℕ) → List ℕ → Type 0
IsKnownOf known registers = (n x : ℕ) → n < 10 → slice_get known n ≡ Some (Some x)
    → slice_index registers n ≡ x

-- no more is known than there
abbrev pub KnowsNoMore : List (Option ℕ) → List (Option ℕ) → Type 0
KnowsNoMore known there = (n x : ℕ) → n < 10 → slice_get known n ≡ Some (Some x)
    → slice_get there n ≡ Some (Some x)

-- at this spot the register holds this number: R10 has the end of the newest frame
abbrev pub Knows : Spot → Reg → ℕ → Type 0
Knows p R10 x = x ≡ top_of (length p.callers.items + 1)
Knows p r x = slice_get p.known (register_number r) ≡ Some (Some x)

abbrev pub KnowsOperand : Spot → Operand → ℕ → Type 0
KnowsOperand p (Immediate n) x = x ≡ cast_unsigned w64 n
KnowsOperand p (Register r) x = Knows p r x

-- ---- after an instruction

-- of the register that is written nothing is known
abbrev pub forgetting : Option Reg → List (Option ℕ) → List (Option ℕ)
forgetting None known = known
forgetting (Some d) known = slice_set known (register_number d) None

-- nor is of R0 to R5 after a helper
abbrev pub known_after_helper : List (Option ℕ) → List (Option ℕ)
known_after_helper known =
    slice_set (slice_set (slice_set (slice_set (slice_set (slice_set known 1 None) 2 None) 3 None)
    4 None) 5 None) 0 None

-- what an operation leaves in dst, where its operands are known; MOV has one
abbrev pub IsResult : Spot → Width → AluOp → Reg → Operand → ℕ → Type 0
IsResult p w op d s x = (a : ℕ) × (b : ℕ) × (Knows p d a ⊎ (op ≡ Mov)) × KnowsOperand p s b
    × (x ≡ arithmetic w op a b)

-- whether an instruction goes on to the next, and nowhere else
abbrev pub goes_straight : Insn → Bool
goes_straight insn.Exit = false
goes_straight (insn.CallLocal by) = false
goes_straight (insn.Jump by) = false
goes_straight (insn.JumpLong by) = false
goes_straight (insn.JumpIf w c d s by) = false
goes_straight i = true

-- what is known after an instruction that goes on to the next
abbrev pub IsAfter : Spot → Insn → List (Option ℕ) → Type 0
IsAfter p (insn.Alu w op d s) known =
    (x : Option ℕ) × IfSome x (IsResult p w op d s)
    × (known ≡ slice_set p.known (register_number d) x)
IsAfter p (insn.LoadNumber d n) known = known ≡ slice_set p.known (register_number d) (Some n)
IsAfter p (insn.LoadMap d m) known =
    known ≡ slice_set p.known (register_number d) (Some (map_value m))
IsAfter p (insn.CallHelper n) known = known ≡ known_after_helper p.known
IsAfter p i known = known ≡ forgetting (destination i) p.known

-- ---- where runs go

-- a spot at this pc, with these callers' pcs, the newest last, at which no more is known
pub record IsSpotAt (pc : ℤ) (callers : List ℕ) (known : List (Option ℕ)) (q : Spot) : Type 0 where
  pub here : pos q.pc ≡ pc
  pub back : q.callers.items ≡ callers
  pub less : KnowsNoMore q.known known

-- the spot of this number is one
abbrev pub IsSpotThere : List Spot → Option ℕ → ℤ → List ℕ → List (Option ℕ) → Type 0
IsSpotThere spots place pc callers known = (j : ℕ) × (q : Spot) × (place ≡ Some j)
    × (slice_get spots j ≡ Some q) × IsSpotAt pc callers known q

-- what is known doesn't say that the condition holds otherwise
abbrev pub MayBe : Spot → Width → Condition → Reg → Operand → Bool → Type 0
MayBe p w c d s taken = (x y : ℕ) → Knows p d x → KnowsOperand p s y → holds w c x y ≡ taken

-- from this spot, where this instruction is, each step that goes on leads to a spot
abbrev pub FollowsSpots : List Spot → Spot → Insn → Type 0
FollowsSpots spots p insn.Exit =
    (p.callers.items ≡ [])
    ⊎ ((others : List ℕ) × (back : ℕ) × (p.callers.items ≡ others ++ back ∷ [])
    × IsSpotThere spots p.next (pos back) others [])
FollowsSpots spots p (insn.CallLocal by) =
    (max_frames ≤ length p.callers.items + 1)
    ⊎ IsSpotThere spots p.jump (target p.pc by) (p.callers.items ++ (p.pc + 1) ∷ []) p.known
FollowsSpots spots p (insn.Jump by) = IsSpotThere spots p.jump (target p.pc by) p.callers.items p.known
FollowsSpots spots p (insn.JumpLong by) = IsSpotThere spots p.jump (target p.pc by) p.callers.items p.known
FollowsSpots spots p (insn.JumpIf w c d s by) =
    (MayBe p w c d s true → IsSpotThere spots p.jump (target p.pc by) p.callers.items p.known)
    × (MayBe p w c d s false → IsSpotThere spots p.next (pos (p.pc + 1)) p.callers.items p.known)
FollowsSpots spots p i = (known : List (Option ℕ)) × IsAfter p i known
    × IsSpotThere spots p.next (pos (p.pc + words i)) p.callers.items known

-- an instruction of the program is there, from which it is so
pub record IsCharted (program : Loaded) (spots : List Spot) (p : Spot) : Type 0 where
  pub instruction : Insn
  pub begins : Begins program.instructions p.pc instruction
  pub safe : IsSafe program.named program.instructions p.pc instruction
  pub follows : FollowsSpots spots p instruction

-- runs begin at this spot
pub record IsFirstSpot (p : Spot) : Type 0 where
  pub here : p.pc ≡ 0
  pub back : p.callers.items ≡ []
  pub known : IsKnownOf p.known (start 0 no_input).registers

-- the spots, of which runs begin at the first
pub record IsChart (program : Loaded) (spots : List Spot) : Type 0 where
  pub each : (i : ℕ) (p : Spot) → slice_get spots i ≡ Some p → IsCharted program spots p
  pub first : (p : Spot) × (slice_get spots 0 ≡ Some p) × IsFirstSpot p
