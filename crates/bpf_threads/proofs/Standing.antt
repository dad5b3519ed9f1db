-- A CPU that is at a spot of a chart is at one after each step.
use Rattle.std.proofs.Common.{◌≡◌, ℕ, zero, suc, ◌+◌, ◌<◌, ◌≤◌, ℤ, pos, Bool, true, false, List, [], ◌∷◌, ◌++◌, length, map, Option, Some}
use Rattle.std.proofs.Common.{None, Result, Ok, Err, ◌⊎◌, inl, inr, refl, sym, ap, subst, ◌∙◌, arith, get_or-set_same, get_or-set_other}
use Rattle.bpf_shared.specs.Shape.{Shape}
use Rattle.std.specs.Prelude.{IfSome, slice_get, slice_set, slice_index}
use Rattle.std.proofs.lemmas.List.{length-map, map_push, length-set}
use Rattle.std.proofs.lemmas.Option.{slice_get_within}
use Rattle.std.specs.Int.{w64, cast_unsigned}
use Rattle.bpf_base.proofs.Lists.{slice_get-set_same, slice_get-set_other, same_last}
use Rattle.bpf_insn.specs.Register.{register_number}
use Rattle.bpf_insn.specs.Atomic.{fetched_into}
use Rattle.bpf_insn.specs.declared.register.Reg.{Reg}
use Rattle.bpf_insn.specs.declared.register.Reg.TheVariants.{R0, R1, R2, R3, R4, R5, R6, R7, R8, R9, R10}
use Rattle.bpf_insn.specs.declared.operation.widths.Width.{Width}
use Rattle.bpf_insn.specs.declared.operation.arithmetic.AluOp.{AluOp}
use Rattle.bpf_insn.specs.declared.operation.arithmetic.AluOp.TheVariants.{Mov}
use Rattle.bpf_insn.specs.declared.operation.atomics.AtomicOp.{AtomicOp}
use Rattle.bpf_insn.specs.declared.operation.conditions.Condition.{Condition}
use Rattle.bpf_insn.specs.declared.operation.sizes.Size.{Size}
use Rattle.bpf_insn.specs.declared.instruction.Operand.{Operand}
use Rattle.bpf_insn.specs.declared.instruction.Operand.TheVariants.{Immediate, Register}
use Rattle.bpf_insn.specs.declared.instruction.Insn.{Insn}
use Rattle.bpf_insn.specs.declared.instruction.Insn.TheVariants as insn
use Rattle.bpf_alu.specs.Arithmetic.{arithmetic, sign_extended}
use Rattle.bpf_alu.specs.Comparison.{holds}
use Rattle.bpf_mem.specs.Addresses.{top_of}
use Rattle.bpf_mem.specs.Limits.{max_frames}
use Rattle.bpf_mem.specs.declared.frames.Caller.{Caller}
use Rattle.bpf_shared.specs.declared.events.Event.{Event}
use Rattle.bpf_shared.specs.declared.events.Span.{Span}
use Rattle.bpf_shared.proofs.Puts.{equal_or_not}
use Rattle.bpf_loader.specs.Loaded.{Loaded}
use Rattle.bpf_loader.specs.Places.{target}
use Rattle.bpf_helpers.specs.Calls.{lock_number, map_value}
use Rattle.bpf_helpers.specs.declared.fault.HelperFault.{HelperFault}
use Rattle.bpf_cpu.specs.declared.cpu.Cpu.{Cpu}
use Rattle.bpf_cpu.specs.declared.outcome.Progress.TheVariants.{On, Done}
use Rattle.bpf_cpu.specs.State.{value, operand_value, with_register, effective_address, caller_of}
use Rattle.bpf_cpu.specs.Helping.{Helper, tried}
use Rattle.bpf_cpu.specs.Row.{Quiet, Jumps, JumpsIf, CallsLocal, Exits, Loads, Stores, Atomics, plain_size, extension_of, fetching}
use Rattle.bpf_cpu.specs.Row.{with_arguments_cleared, after_helper, TakesResult}
use Rattle.bpf_cpu.specs.Values.{LoadsValue, StoresValue, ChangesValue, AsksValue}
use Rattle.bpf_cpu.specs.Step.{IsReady, Executes}
use Rattle.bpf_threads.specs.declared.spot.Spot.{Spot}
use Rattle.bpf_threads.specs.Chart.{IsKnownOf, Knows, KnowsOperand, forgetting, known_after_helper, IsResult, IsSpotThere, MayBe, FollowsSpots}

abbrev pub backs : List Caller → List ℕ
backs callers = map (λ (c : Caller). c.return_pc) callers

-- the CPU is at the spot
pub record Stands (program : Loaded) (p : Spot) (cpu : Cpu) : Type 0 where
  pub ready : IsReady program cpu
  pub here : cpu.pc ≡ p.pc
  pub known : IsKnownOf p.known cpu.registers
  pub back : backs cpu.memory.frames.callers ≡ p.callers.items

-- a lock that somebody has is tried again
abbrev pub Tries : Insn → Cpu → Cpu → Type 0
Tries i old new = (i ≡ insn.CallHelper lock_number) × (new ≡ old)

-- it is at the spot of this number
abbrev pub Arrives : Loaded → List Spot → Cpu → Option ℕ → Type 0
Arrives program spots new place = (j : ℕ) × (q : Spot) × (place ≡ Some j) × (slice_get spots j ≡ Some q) × Stands program q new

-- or at one that comes next
abbrev pub Comes : Loaded → List Spot → Spot → Cpu → Type 0
Comes program spots p new = Arrives program spots new p.next ⊎ Arrives program spots new p.jump

-- ---- registers
within : (registers : List ℕ) (i : ℕ) → 0 < slice_index registers i → i < length registers
within [] i some = absurd (omega (arith, some))
within (r ∷ registers) zero some = omega arith
within (r ∷ registers) (suc i) some = omega (arith, within registers i some)

-- a number that is known and written
set_holds : (known : List (Option ℕ)) (registers : List ℕ) (d x : ℕ) → 10 < length registers → IsKnownOf known registers → IsKnownOf
    (slice_set known d (Some x)) (slice_set registers d x)
set_holds known registers d x long h n y below e = elim (equal_or_not n d) [
  | inl same ↦
      let inside : n < length (slice_set known d (Some x)) = slice_get_within (slice_set known d (Some x)) n (Some y) e in
      let room : d < length known = omega (arith, same, inside, length-set {A = Option ℕ} known d (Some x)) in
      let at : slice_get (slice_set known d (Some x)) d ≡ Some (Some x) = slice_get-set_same known d (Some x) room in
      let found : slice_get (slice_set known d (Some x)) d ≡ Some (Some y) = subst
      (λ (k : ℕ). slice_get (slice_set known d (Some x)) k ≡ Some (Some y)) same e in
      let number : x ≡ y = cc in
      let written : slice_index (slice_set registers d x) d ≡ x = get_or-set_same registers d x 0 (omega (arith, same, below, long)) in
      subst (λ (k : ℕ). slice_index (slice_set registers d x) k ≡ y) (sym same) (written ∙ number)
  | inr other ↦
      get_or-set_other registers d n x 0 other ∙ h n y below (sym (slice_get-set_other known d n (Some x) other) ∙ e)
]

-- nothing is known of what is written
forget_holds : (known : List (Option ℕ)) (registers : List ℕ) (d x : ℕ) → IsKnownOf known registers → IsKnownOf (slice_set known d None)
    (slice_set registers d x)
forget_holds known registers d x h n y below e = elim (equal_or_not n d) [
  | inl same ↦
      let inside : n < length (slice_set known d None) = slice_get_within (slice_set known d None) n (Some y) e in
      let room : d < length known = omega (arith, same, inside, length-set {A = Option ℕ} known d None) in
      let at : slice_get (slice_set known d None) d ≡ Some None = slice_get-set_same known d None room in
      let found : slice_get (slice_set known d None) d ≡ Some (Some y) = subst (λ (k : ℕ). slice_get (slice_set known d None) k ≡ Some (Some y)) same e in
      absurd cc
  | inr other ↦
      get_or-set_other registers d n x 0 other ∙ h n y below (sym (slice_get-set_other known d n None other) ∙ e)
]

-- R10 is looked up elsewhere
top_holds : (known : List (Option ℕ)) (registers : List ℕ) (x : ℕ) → IsKnownOf known registers → IsKnownOf known (slice_set registers 10 x)
top_holds known registers x h n y below e = get_or-set_other registers 10 n x 0 (λ same. omega (arith, same, below)) ∙ h n y below e

fetch_holds : (known : List (Option ℕ)) (registers : List ℕ) (into : Option Reg) (x : ℕ) → IsKnownOf known registers → IsKnownOf
    (forgetting into known) (fetching into x registers)
fetch_holds known registers None x h = h
fetch_holds known registers (Some r) x h = forget_holds known registers (register_number r) x h

helper_holds : (known : List (Option ℕ)) (registers : List ℕ) (x : ℕ) → IsKnownOf known registers → IsKnownOf (known_after_helper known)
    (slice_set (with_arguments_cleared registers) 0 x)
helper_holds known registers x h =
    forget_holds _ _ 0 x (forget_holds _ _ 5 0 (forget_holds _ _ 4 0 (forget_holds _ _ 3 0 (forget_holds _ _ 2 0 (forget_holds known registers 1 0 h)))))

-- MOV has one operand
mov_alike : (w : Width) (a b c : ℕ) → arithmetic w Mov a c ≡ arithmetic w Mov b c
unfolding arithmetic
mov_alike w a b c = refl

module _ (program : Loaded) (p : Spot) (old : Cpu) (at : Stands program p old) where
  long : 10 < length old.registers
  long = within old.registers 10 (omega (arith, at.ready.top))

  deep : length old.memory.frames.live ≡ length p.callers.items + 1
  deep =
      let same : length (backs old.memory.frames.callers) ≡ length p.callers.items = ap length at.back in
      omega (arith, same, at.ready.paired, length-map old.memory.frames.callers (λ (c : Caller). c.return_pc))

  pub knows : (r : Reg) (x : ℕ) → Knows p r x → value old r ≡ x
  knows R0 x k = at.known 0 x (omega arith) k
  knows R1 x k = at.known 1 x (omega arith) k
  knows R2 x k = at.known 2 x (omega arith) k
  knows R3 x k = at.known 3 x (omega arith) k
  knows R4 x k = at.known 4 x (omega arith) k
  knows R5 x k = at.known 5 x (omega arith) k
  knows R6 x k = at.known 6 x (omega arith) k
  knows R7 x k = at.known 7 x (omega arith) k
  knows R8 x k = at.known 8 x (omega arith) k
  knows R9 x k = at.known 9 x (omega arith) k
  knows R10 x k = at.ready.top ∙ (ap top_of deep ∙ sym k)

  knows_operand : (s : Operand) (x : ℕ) → KnowsOperand p s x → operand_value old s ≡ x
  knows_operand (Immediate n) x k = sym k
  knows_operand (Register r) x k = knows r x k

  -- ---- an operation
  result_is : (w : Width) (op : AluOp) (d : Reg) (s : Operand) (x : ℕ) → IsResult p w op d s x → arithmetic w op (value old d) (operand_value old s) ≡ x
  result_is w op d s x (a, b, left, right, e) =
      let second : operand_value old s ≡ b = knows_operand s b right in
      let moved : arithmetic w op (value old d) b ≡ arithmetic w op a b = elim left [
        | inl k ↦ ap (λ (y : ℕ). arithmetic w op y b) (knows d a k)
        | inr mov ↦ subst (λ (o : AluOp). arithmetic w o (value old d) b ≡ arithmetic w o a b) (sym mov) (mov_alike w (value old d) a b)
      ] in
      ap (arithmetic w op (value old d)) second ∙ (moved ∙ sym e)

  operation_holds : (w : Width) (op : AluOp) (d : Reg) (s : Operand) (x : Option ℕ) → IfSome x (IsResult p w op d s) → IsKnownOf
      (slice_set p.known (register_number d) x) (slice_set old.registers (register_number d) (arithmetic w op (value old d) (operand_value old s)))
  operation_holds w op d s None is = forget_holds p.known old.registers (register_number d) _ at.known
  operation_holds w op d s (Some x) is =
      subst (λ (y : ℕ). IsKnownOf (slice_set p.known (register_number d) (Some x)) (slice_set old.registers (register_number d) y))
      (sym (result_is w op d s x is)) (set_holds p.known old.registers (register_number d) x long at.known)

  -- ---- where the CPU gets to
  module _ (spots : List Spot) (new : Cpu) (ready : IsReady program new) where
    arrive : (place : Option ℕ) (pc : ℤ) (callers : List ℕ) (known : List (Option ℕ)) → IsSpotThere spots place pc callers known
        → pos new.pc ≡ pc → backs new.memory.frames.callers ≡ callers → IsKnownOf known new.registers → Arrives program spots new place
    arrive place pc callers known there here back h =
        let q = there.1 in
        let same : pos new.pc ≡ pos q.pc = here ∙ sym there.4.here in (
          there.0,
          q,
          there.2,
          there.3,
          record {
            ready = ready;
            here = cc;
            known = λ n x below e. h n x below (there.4.less n x below e);
            back = back ∙ sym there.4.back;
          },
        )

    -- the same callers, and the next pc
    on : (made : Cpu) (k : ℕ) (known : List (Option ℕ)) → new ≡ made → made.pc ≡ old.pc + k → made.memory.frames.callers ≡
        old.memory.frames.callers → IsKnownOf known made.registers
        → IsSpotThere spots p.next (pos (p.pc + k)) p.callers.items known → Arrives program spots new p.next
    on made k known e here callers h there =
        let pc : new.pc ≡ p.pc + k = ap (λ (c : Cpu). c.pc) e ∙ (here ∙ ap (λ (x : ℕ). x + k) at.here) in
        let back : backs new.memory.frames.callers ≡ p.callers.items = ap (λ (c : Cpu). backs c.memory.frames.callers) e ∙ (ap backs callers ∙ at.back) in
        arrive p.next (pos (p.pc + k)) p.callers.items known there (ap pos pc) back (subst (λ (c : Cpu). IsKnownOf known c.registers) (sym e) h)

    jumped : (by : ℤ) → IsSpotThere spots p.jump (target p.pc by) p.callers.items p.known → Jumps old by new → Arrives program spots new p.jump
    jumped by there jumps =
        let here : pos new.pc ≡ target p.pc by = ap (λ (c : Cpu). pos c.pc) jumps.2 ∙ (jumps.1 ∙ ap (λ (x : ℕ). target x by) at.here) in
        let back : backs new.memory.frames.callers ≡ p.callers.items = ap (λ (c : Cpu). backs c.memory.frames.callers) jumps.2 ∙ at.back in
        arrive p.jump (target p.pc by) p.callers.items p.known there here back (subst (λ (c : Cpu). IsKnownOf p.known c.registers) (sym jumps.2) at.known)

    branched : (by : ℤ) (b : Bool) → (b ≡ true → IsSpotThere spots p.jump (target p.pc by) p.callers.items p.known) →
        (b ≡ false → IsSpotThere spots p.next (pos (p.pc + 1)) p.callers.items p.known) → JumpsIf b old by new → Comes program spots p new
    branched by true jump next jumps = inr (jumped by (jump refl) jumps)
    branched by false jump next e = inl (on _ 1 p.known e refl refl at.known (next refl))

    maybe : (w : Width) (c : Condition) (d : Reg) (s : Operand) (b : Bool) → holds w c (value old d) (operand_value old s) ≡ b → MayBe p w c d s b
    maybe w c d s b e x y left right =
        ap (λ (k : ℕ). holds w c k y) (sym (knows d x left)) ∙ (ap (holds w c (value old d)) (sym (knows_operand s y right)) ∙ e)

    called : (by : ℤ) → (max_frames ≤ length p.callers.items + 1) ⊎ IsSpotThere spots p.jump (target p.pc by)
        (p.callers.items ++ (p.pc + 1) ∷ []) p.known → CallsLocal by old On new → Comes program spots p new
    called by there (inl full) = absurd (let no : On ≡ Done _ = full.1.0 in cc)
    called by (inl deepest) (inr call) = absurd (omega (arith, deepest, call.0, deep))
    called by (inr there) (inr call) =
        let jumps = call.2 in
        let here : pos new.pc ≡ target p.pc by = ap (λ (c : Cpu). pos c.pc) jumps.2 ∙ (jumps.1 ∙ ap (λ (x : ℕ). target x by) at.here) in
        let pushed : backs (old.memory.frames.callers ++ caller_of old ∷ []) ≡ p.callers.items ++ (p.pc + 1) ∷ [] =
        map_push (λ (c : Caller). c.return_pc) old.memory.frames.callers (caller_of old)
        ∙ (ap (λ (xs : List ℕ). xs ++ (old.pc + 1) ∷ []) at.back ∙ ap (λ (x : ℕ). p.callers.items ++ (x + 1) ∷ []) at.here) in
        let back : backs new.memory.frames.callers ≡ p.callers.items ++ (p.pc + 1) ∷ [] = ap (λ (c : Cpu). backs c.memory.frames.callers) jumps.2 ∙ pushed in
        inr (arrive p.jump (target p.pc by) (p.callers.items ++ (p.pc + 1) ∷ []) p.known there here back
        (subst (λ (c : Cpu). IsKnownOf p.known c.registers) (sym jumps.2) (top_holds p.known old.registers _ at.known)))

    none_behind : (xs : List ℕ) (x : ℕ) → xs ++ x ∷ [] ≡ [] → ⊥
    none_behind [] x e = cc
    none_behind (y ∷ xs) x e = cc

    nothing_holds : (registers : List ℕ) → IsKnownOf [] registers
    nothing_holds registers n x below e = absurd cc

    exited : FollowsSpots spots p insn.Exit → Exits old On new → Comes program spots p new
    exited follows (inl ends) = absurd (let no : On ≡ Done _ = ends.1 in cc)
    exited follows (inr exit) =
        let others = exit.0 in
        let caller = exit.1 in
        let popped : backs others ++ caller.return_pc ∷ [] ≡ p.callers.items = sym
        (ap backs exit.2 ∙ map_push (λ (c : Caller). c.return_pc) others caller) ∙ at.back in
        elim follows as (λ _. Comes program spots p new) [
          | inl none ↦ absurd (none_behind (backs others) caller.return_pc (popped ∙ none))
          | inr some ↦
              let same = same_last (backs others) some.0 caller.return_pc some.1 (popped ∙ some.2) in
              let here : pos new.pc ≡ pos some.1 = ap (λ (c : Cpu). pos c.pc) exit.4 ∙ ap pos same.1 in
              let back : backs new.memory.frames.callers ≡ some.0 = ap (λ (c : Cpu). backs c.memory.frames.callers) exit.4 ∙ same.0 in
              inl (arrive p.next (pos some.1) some.0 [] some.3 here back (nothing_holds new.registers))
        ]

    -- ---- rows that no store sees
    loaded : (size : Size) (reading : ℕ → ℕ) (d : Reg) (a : ℕ) (there : IsSpotThere spots p.next (pos (p.pc + 1)) p.callers.items
        (slice_set p.known (register_number d) None)) → Loads size reading d a old On new → Comes program spots p new
    loaded size reading d a there (inl out) = absurd (let no : On ≡ Done _ = out.1.0 in cc)
    loaded size reading d a there (inr row) = inl (on _ 1 _ row.3 refl refl (forget_holds p.known old.registers (register_number d) _ at.known) there)

    stored : (size : Size) (a x : ℕ) → IsSpotThere spots p.next (pos (p.pc + 1)) p.callers.items p.known → Stores size a x old On new →
        Comes program spots p new
    stored size a x there (inl out) = absurd (let no : On ≡ Done _ = out.1.0 in cc)
    stored size a x there (inr row) = inl (on _ 1 _ row.2.2 refl row.2.1.callers at.known there)

    operated : (w : Width) (op : AtomicOp) (s : Reg) (a : ℕ) → IsSpotThere spots p.next (pos (p.pc + 1)) p.callers.items
        (forgetting (fetched_into op s) p.known) → Atomics w op s a old On new → Comes program spots p new
    operated w op s a there (inl out) = absurd (let no : On ≡ Done _ = out.1.0 in cc)
    operated w op s a there (inr (inl odd)) = absurd (let no : On ≡ Done _ = odd.2.0 in cc)
    operated w op s a there (inr (inr row)) = inl (on _ 1 _ row.4.2 refl row.4.1.callers
        (fetch_holds p.known old.registers (fetched_into op s) row.0 at.known) there)

    put : (d : Reg) (x k : ℕ) (known : List (Option ℕ)) → known ≡ slice_set p.known (register_number d) None → new ≡ with_register old d x
        (old.pc + k) → IsSpotThere spots p.next (pos (p.pc + k)) p.callers.items known → Comes program spots p new
    put d x k known e made there =
        inl (on _ k known made refl refl (subst (λ (ks : List (Option ℕ)). IsKnownOf ks (slice_set old.registers (register_number d) x))
        (sym e) (forget_holds p.known old.registers (register_number d) x at.known)) there)

    put_known : (d : Reg) (x k : ℕ) (known : List (Option ℕ)) → known ≡ slice_set p.known (register_number d) (Some x) → new ≡ with_register
        old d x (old.pc + k) → IsSpotThere spots p.next (pos (p.pc + k)) p.callers.items known → Comes program spots p new
    put_known d x k known e made there =
        inl (on _ k known made refl refl (subst (λ (ks : List (Option ℕ)). IsKnownOf ks (slice_set old.registers (register_number d) x))
        (sym e) (set_holds p.known old.registers (register_number d) x long at.known)) there)

    abbrev Leads : ℕ → List (Option ℕ) → Type 0
    Leads k known = IsSpotThere spots p.next (pos (p.pc + k)) p.callers.items known

    quiet : (i : Insn) → FollowsSpots spots p i → Quiet i old On new → Comes program spots p new
    quiet (insn.Alu w op d (Immediate n)) (known, (x, is, e), there) row =
        inl (on _ 1 known row.1 refl refl (subst (λ (ks : List (Option ℕ)). IsKnownOf ks
        (slice_set old.registers (register_number d) (arithmetic w op (value old d) (operand_value old (Immediate n))))) (sym e)
        (operation_holds w op d (Immediate n) x is)) there)
    quiet (insn.Alu w op d (Register r)) (known, (x, is, e), there) row =
        inl (on _ 1 known row.1 refl refl (subst (λ (ks : List (Option ℕ)). IsKnownOf ks
        (slice_set old.registers (register_number d) (arithmetic w op (value old d) (operand_value old (Register r))))) (sym e)
        (operation_holds w op d (Register r) x is)) there)
    quiet (insn.Negate w d) (known, e, there) row = put d _ 1 known e row.1 there
    quiet (insn.SignExtend x d s) (known, e, there) row = put d _ 1 known e row.1 there
    quiet (insn.SwapBytes k w d) (known, e, there) row = put d _ 1 known e row.1 there
    quiet (insn.Jump by) there row = inr (jumped by there row.1)
    quiet (insn.JumpLong by) there row = inr (jumped by there row.1)
    quiet (insn.JumpIf w c d s by) both row =
        let b = holds w c (value old d) (operand_value old s) in
        branched by b (λ e. both.0 (maybe w c d s true e)) (λ e. both.1 (maybe w c d s false e)) row.1
    quiet insn.Exit follows row = exited follows row
    quiet (insn.LoadNumber d n) (known, e, there) row = put_known d n 2 known e row.1 there
    quiet (insn.LoadMap d m) (known, e, there) row = put_known d (map_value m) 2 known e row.1 there
    quiet (insn.CallHelper n) follows row = absurd row
    quiet (insn.CallLocal by) follows row = called by follows row
    quiet (insn.Load z d b o) (known, e, there) row = loaded z (λ x. x) d (effective_address old b o) (subst (Leads 1) e there) row
    quiet (insn.LoadSigned z d b o) (known, e, there) row = loaded (plain_size z) (sign_extended (extension_of z)) d
        (effective_address old b o) (subst (Leads 1) e there) row
    quiet (insn.StoreImmediate z b o n) (known, e, there) row = stored z (effective_address old b o) (cast_unsigned w64 n) (subst (Leads 1) e there) row
    quiet (insn.Store z b o s) (known, e, there) row = stored z (effective_address old b o) (value old s) (subst (Leads 1) e there) row
    quiet (insn.Atomic w op b o s) (known, e, there) row = operated w op s (effective_address old b o) (subst (Leads 1) e there) row

    -- ---- accesses to held values
    value_loaded : (shape : Shape) (z : Size) (reading : ℕ → ℕ) (d : Reg) (a : ℕ) (events : List Event) → Leads 1
        (slice_set p.known (register_number d) None) → LoadsValue shape z reading d a old events On new → Comes program spots p new
    value_loaded shape z reading d a events there (inl odd) = absurd (let no : On ≡ Done _ = odd.3.0 in cc)
    value_loaded shape z reading d a events there (inr row) = inl
        (on _ 1 _ row.1.3 refl refl (forget_holds p.known old.registers (register_number d) _ at.known) there)

    value_stored : (shape : Shape) (z : Size) (a x : ℕ) (events : List Event) → Leads 1 p.known → StoresValue shape z a x old events On new
        → Comes program spots p new
    value_stored shape z a x events there (inl odd) = absurd (let no : On ≡ Done _ = odd.3.0 in cc)
    value_stored shape z a x events there (inr row) = inl (on _ 1 _ row.3 refl refl at.known there)

    value_changed : (shape : Shape) (w : Width) (op : AtomicOp) (s : Reg) (a : ℕ) (events : List Event) → Leads 1
        (forgetting (fetched_into op s) p.known) → ChangesValue shape w op s a old events On new → Comes program spots p new
    value_changed shape w op s a events there (inl odd) = absurd (let no : On ≡ Done _ = odd.3.0 in cc)
    value_changed shape w op s a events there (inr row) = inl (on _ 1 _ row.1.3 refl refl
        (fetch_holds p.known old.registers (fetched_into op s) row.1.0 at.known) there)

    asked : (shape : Shape) (i : Insn) (events : List Event) → FollowsSpots spots p i → AsksValue shape i old events On new → Comes program spots p new
    asked shape (insn.Load z d b o) events (known, e, there) row = value_loaded shape z (λ x. x) d (effective_address old b o) events
        (subst (Leads 1) e there) row
    asked shape (insn.LoadSigned z d b o) events (known, e, there) row = value_loaded shape (plain_size z) (sign_extended (extension_of z))
        d (effective_address old b o) events (subst (Leads 1) e there) row
    asked shape (insn.StoreImmediate z b o n) events (known, e, there) row = value_stored shape z (effective_address old b o)
        (cast_unsigned w64 n) events (subst (Leads 1) e there) row
    asked shape (insn.Store z b o s) events (known, e, there) row = value_stored shape z (effective_address old b o) (value old s) events
        (subst (Leads 1) e there) row
    asked shape (insn.Atomic w op b o s) events (known, e, there) row = value_changed shape w op s (effective_address old b o) events
        (subst (Leads 1) e there) row
    asked shape _ events follows row = absurd row

    -- ---- a helper's call
    taken : (result : Result ℕ HelperFault) (held : List Span) (n : ℕ) → FollowsSpots spots p (insn.CallHelper n) → TakesResult result held
        old On new → Comes program spots p new
    taken (Ok x) held n (known, e, there) row =
        inl (on _ 1 known row.1 refl refl (subst (λ (ks : List (Option ℕ)). IsKnownOf ks
        (slice_set (with_arguments_cleared old.registers) 0 x)) (sym e) (helper_holds p.known old.registers x at.known)) there)
    taken (Err fault) held n follows row = absurd (let no : On ≡ Done _ = row.0 in cc)

    answered : (x drawn n : ℕ) → FollowsSpots spots p (insn.CallHelper n) → new ≡ record (after_helper old x) { drawn = drawn } → Comes program spots p new
    answered x drawn n (known, e, there) is =
        inl (on _ 1 known is refl refl (subst (λ (ks : List (Option ℕ)). IsKnownOf ks
        (slice_set (with_arguments_cleared old.registers) 0 x)) (sym e) (helper_holds p.known old.registers x at.known)) there)

    tries : (i : Insn) (n x : ℕ) → i ≡ insn.CallHelper n → n ≡ lock_number → FollowsSpots spots p (insn.CallHelper n) → new ≡ tried old x →
        Comes program spots p new ⊎ Tries i old new
    tries i n zero call lock follows is = inl (answered 0 old.drawn n follows is)
    tries i n (suc x) call lock follows is = inr (call ∙ ap (λ (k : ℕ). insn.CallHelper k) lock, is)

    helper_comes : (shape : Shape) (i : Insn) (n : ℕ) (events : List Event) → i ≡ insn.CallHelper n → FollowsSpots spots p
        (insn.CallHelper n) → Helper shape n old events On new → Comes program spots p new ⊎ Tries i old new
    helper_comes shape i n events call follows (inl asks) = inl (taken asks.1.0 asks.1.1 n follows asks.1.3)
    helper_comes shape i n events call follows (inr (inl asks)) = inl (answered asks.0 asks.1 n follows asks.5)
    helper_comes shape i n events call follows (inr (inr (inl (is, inl refused)))) = absurd (let no : On ≡ Done _ = refused.3.0 in cc)
    helper_comes shape i n events call follows (inr (inr (inl (is, inr row)))) = tries i n row.1.0 call is follows row.1.3
    helper_comes shape i n events call follows (inr (inr (inr (is, inl refused)))) = absurd (let no : On ≡ Done _ = refused.3.0 in cc)
    helper_comes shape i n events call follows (inr (inr (inr (is, inr row)))) = inl (answered 0 old.drawn n follows row.1.3)

    -- after a step that goes on the CPU is at a spot that comes next, or tries a lock again
    pub comes : (shape : Shape) (i : Insn) (events : List Event) → FollowsSpots spots p i → Executes shape i old events On new → Comes
        program spots p new ⊎ Tries i old new
    comes shape i events follows (inl row) = inl (quiet i follows row.2)
    comes shape i events follows (inr (inl call)) = helper_comes shape i call.0 events call.1 (subst (FollowsSpots spots p) call.1 follows) call.2
    comes shape i events follows (inr (inr row)) = inl (asked shape i events follows row.1)
