-- States that are alike make the same rows.
use Rattle.std.proofs.Common.{◌≡◌, ◌≢◌, ℕ, zero, suc, ◌+◌, ◌%◌, ◌^◌, ◌≤◌, ◌++◌, Bool, true, false, ℤ, pos, ◌+ℤ◌, List, [], ◌∷◌, length}
use Rattle.std.proofs.Common.{Option, Some, None, Result, Ok, Err, ◌⊎◌, inl, inr, refl, sym, ap, subst, ◌∙◌, arith, eq-eqb}
use Rattle.std.specs.Prelude.{◌==◌, ◌||◌, if◌then◌else◌, get_or, nat_le, slice_index, slice_set}
use Rattle.std.proofs.lemmas.Bool.{le-leb, ne_eqb}
use Rattle.std.proofs.lemmas.List.{get_or-set_other}
use Rattle.std.specs.Int.{w64, cast_unsigned}
use Rattle.bpf_base.specs.Bytes.{low_bytes}
use Rattle.bpf_base.specs.declared.atomic.Change.{Change}
use Rattle.bpf_base.specs.declared.atomic.Change.TheVariants.{Exchange, CompareExchange}
use Rattle.bpf_insn.specs.Register.{register_number}
use Rattle.bpf_insn.specs.Atomic.{change_of, fetched_into}
use Rattle.bpf_insn.specs.declared.operation.arithmetic.AluOp.{AluOp}
use Rattle.bpf_insn.specs.declared.operation.arithmetic.AluOp.TheVariants.{Mov}
use Rattle.bpf_insn.specs.declared.operation.widths.Width.{Width}
use Rattle.bpf_insn.specs.declared.operation.atomics.AtomicOp.{AtomicOp}
use Rattle.bpf_insn.specs.declared.operation.sizes.Size.{Size}
use Rattle.bpf_insn.specs.declared.operation.sizes.Size.TheVariants.{Word}
use Rattle.bpf_insn.specs.declared.register.Reg.{Reg}
use Rattle.bpf_insn.specs.declared.instruction.Operand.{Operand}
use Rattle.bpf_insn.specs.declared.instruction.Operand.TheVariants.{Immediate, Register}
use Rattle.bpf_insn.specs.declared.instruction.Insn.{Insn}
use Rattle.bpf_insn.specs.declared.instruction.Insn.TheVariants as insn
use Rattle.bpf_alu.specs.Arithmetic.{arithmetic, negated, sign_extended}
use Rattle.bpf_alu.specs.Bytes.{swapped}
use Rattle.bpf_alu.specs.Comparison.{holds}
use Rattle.bpf_shared.specs.declared.events.Span.{Span}
use Rattle.bpf_shared.specs.declared.events.Event.{Event}
use Rattle.bpf_shared.specs.declared.events.Event.TheVariants as event
use Rattle.bpf_shared.specs.declared.events.Size.TheVariants as event_size
use Rattle.bpf_shared.specs.Shape.{Shape}
use Rattle.bpf_mem.specs.declared.frames.Caller.{Caller}
use Rattle.bpf_mem.specs.declared.memory.PrivateMemory.{PrivateMemory}
use Rattle.bpf_mem.specs.Addresses.{top_of}
use Rattle.bpf_mem.specs.Atomic.{number_left}
use Rattle.bpf_mem.specs.Bytes.{length_of, size_of}
use Rattle.bpf_mem.specs.Memory.{Writes}
use Rattle.bpf_mem.specs.Stack.{zeroed}
use Rattle.bpf_helpers.specs.declared.fault.HelperFault.{HelperFault}
use Rattle.bpf_loader.specs.Loaded.{Loaded}
use Rattle.bpf_loader.specs.Places.{Begins}
use Rattle.bpf_cpu.specs.declared.cpu.Cpu.{Cpu}
use Rattle.bpf_cpu.specs.declared.outcome.Outcome.{Outcome}
use Rattle.bpf_cpu.specs.declared.outcome.Outcome.TheVariants as outcome
use Rattle.bpf_cpu.specs.declared.outcome.Progress.{Progress}
use Rattle.bpf_cpu.specs.declared.outcome.Progress.TheVariants.{On, Done}
use Rattle.bpf_cpu.specs.State.{value, operand_value, at_pc, with_register, effective_address, caller_of, after_call, after_return}
use Rattle.bpf_cpu.specs.Row.{Quiet, Jumps, JumpsIf, CallsLocal, Exits, Loads, Stores, Atomics, plain_size, extension_of, fetching}
use Rattle.bpf_cpu.specs.Row.{remembering, after_helper, TakesResult}
use Rattle.bpf_cpu.specs.Helping.{Helper, tried}
use Rattle.bpf_cpu.specs.Values.{asks_value, is_in_value, event_size_of, MayNotWrite, IsRefused, IsPlaceToWrite, LoadsValue, StoresValue}
use Rattle.bpf_cpu.specs.Values.{ChangesValue, AsksValue}
use Rattle.bpf_cpu.specs.Step.{Executes, Step}
use Rattle.bpf_live.specs.Registers.{is_move, only, reads, with_operand, writes}
use Rattle.bpf_live.specs.Live.{Each, HasCalls, HasLive, IsLive, IsLiveTable, StaysLive, Table}
use Rattle.bpf_live.specs.Alike.{AreAlike, IsEntered, with_registers}
use Rattle.bpf_live.specs.Laws.{StepsAreAlike}
use Rattle.bpf_live.proofs.AlikeLists.{same_long, set_alike, helped_long, helped_alike, helped_kept, restored_long, restored_alike, restored_kept, not_kept}
use Rattle.bpf_live.proofs.AlikeHelpers.{calls_alike}

none_last : {A : Type 0} (xs : List A) (x : A) → xs ++ x ∷ [] ≡ [] → ⊥
none_last [] x e = cc
none_last (y ∷ ys) x e = cc

entered_with : (program : Loaded) (old : Cpu) (memory : PrivateMemory) → IsEntered program old → memory.frames.callers ≡ old.memory.frames.callers
    → (memory.frames.callers ≡ []) ⊎ HasCalls program.instructions
entered_with program old memory (inl e) c = inl (c ∙ e)
entered_with program old memory (inr h) c = inr h

-- R10 is live, and so is what is past it
top_live : (table : Table) (pc r : ℕ) → 10 ≤ r → IsLive table pc r
top_live table pc r high = let e : nat_le 10 r ≡ true = le-leb 10 r high in ap (λ (b : Bool). b || get_or (get_or table pc []) r true) e

-- which registers an instruction writes on the way to another: a lock that was missed, and is tried
-- again, none; a return those that its caller gets back
abbrev pub wrote : Insn → Bool → List ℕ
wrote (insn.CallHelper n) true = []
wrote insn.Exit again = 6 ∷ 7 ∷ 8 ∷ 9 ∷ 10 ∷ []
wrote i again = writes i

-- of the registers in `next` these are those of `new`, and all others are these
pub record Differ (written rs : List ℕ) (new next : Cpu) : Type 0 where
  pub kept : (r : ℕ) → Each (λ w. r ≢ w) written → slice_index next.registers r ≡ slice_index rs r
  pub put : (r : ℕ) → (Each (λ w. r ≢ w) written → ⊥) → slice_index next.registers r ≡ slice_index new.registers r

no_loop : (pc : ℕ) → (pc + 1 == pc) ≡ false
no_loop pc = ne_eqb (pc + 1) pc (λ (e : pc + 1 ≡ pc). omega (arith, e))

-- a try or a release of the lock at an address, which leaves the CPU so by what it finds
abbrev LockAt : Shape → Change → ℕ → ℕ → Cpu → (ℕ → Cpu) → List Event → Progress → Cpu → Type 0
LockAt h change operand a old left events progress new =
    IsRefused (MayNotWrite h Word a old) old events progress new
    ⊎ (IsPlaceToWrite h Word a old × ((x : ℕ)
    × (events ≡ event.Atomic a event_size.Word change operand 0 x ∷ [])
    × (progress ≡ On) × (new ≡ left x)))

module _ (program : Loaded) (table : Table) (old : Cpu) (rs : List ℕ) (many : length rs ≡ length old.registers)
    (live : (r : ℕ) → IsLive table old.pc r → slice_index rs r ≡ slice_index old.registers r) (entered : IsEntered program old) where
  abbrev other : Cpu
  other = with_registers old rs

  abbrev Live : ℕ → Type 0
  Live r = IsLive table old.pc r

  -- the other state does so, and is alike again; where the job goes on, it has of the new state these
  -- registers, which the state says, and of its own all others
  abbrev Finds : (Cpu → List ℕ) → Progress → (Cpu → Type 0) → Cpu → Type 0
  Finds W progress R new = (next : Cpu) × R next × AreAlike program table new next × (progress ≡ On → Differ (W new) rs new next)

  ends : (W : Cpu → List ℕ) (end : Outcome) (progress : Progress) (new next : Cpu) → progress ≡ Done end → progress ≡ On → Differ (W new) rs new next
  ends W end progress new next done on = let no : Done end ≡ On = sym done ∙ on in cc

  differ_none : (new next : Cpu) → next.registers ≡ rs → Differ [] rs new next
  differ_none new next e = record { kept = λ r n. ap (λ (xs : List ℕ). slice_index xs r) e; put = λ r no. absurd (no tt) }

  itself : AreAlike program table old other
  itself = record { rest = refl; many = many; live = live; entered = inr entered }

  stays_here : (new : Cpu) → new ≡ old → AreAlike program table new other
  stays_here new e = subst (λ (c : Cpu). AreAlike program table c other) (sym e) itself

  also : (W : Cpu → List ℕ) (progress : Progress) (R S : Cpu → Type 0) (new : Cpu) → ((next : Cpu) → R next → S next) → Finds W progress R
      new → Finds W progress S new
  also W progress R S new f found = (found.0, f found.0 found.1, found.2, found.3)

  -- what is so of one number is so of an equal one
  of_equal : (W : Cpu → List ℕ) (progress : Progress) (R : ℕ → Cpu → Type 0) (a b : ℕ) (new : Cpu) → b ≡ a → Finds W progress (R a) new →
      Finds W progress (R b) new
  of_equal W progress R a b new e found = subst (λ (n : ℕ). Finds W progress (R n) new) (sym e) found

  found_at : (W : Cpu → List ℕ) (progress : Progress) (R : Cpu → Type 0) (made next new : Cpu) → new ≡ made → R next → AreAlike program
      table made next → Differ (W made) rs made next
      → Finds W progress R new
  found_at W progress R made next new e r alike differ =
      (next, r, subst (λ (c : Cpu). AreAlike program table c next) (sym e) alike, λ on. subst (λ (c : Cpu). Differ (W c) rs c next) (sym e) differ)

  -- ---- what is read
  same_operand : (s : Operand) (others : List ℕ) → Each Live (with_operand s others) → operand_value other s ≡ operand_value old s
  same_operand (Immediate n) others e = refl
  same_operand (Register r) others e = live (register_number r) e.0

  after_operand : (s : Operand) (others : List ℕ) → Each Live (with_operand s others) → Each Live others
  after_operand (Immediate n) others e = e
  after_operand (Register r) others e = e.1

  same_address : (b : Reg) (o : ℤ) → Live (register_number b) → effective_address other b o ≡ effective_address old b o
  same_address b o l = ap (λ (x : ℕ). (x + cast_unsigned w64 o) % 2 ^ 64) (live (register_number b) l)

  both : (w : Width) (op : AluOp) (d : Reg) (s : Operand) → Live (register_number d) → operand_value other s ≡ operand_value old s
      → arithmetic w op (value other d) (operand_value other s) ≡ arithmetic w op (value old d) (operand_value old s)
  both w op d s l e = ap (λ (x : ℕ). arithmetic w op x (operand_value other s)) (live (register_number d) l) ∙ ap (arithmetic w op (value old d)) e

  moves : (w : Width) (x y : ℕ) → arithmetic w Mov x y ≡ arithmetic w Mov 0 y
  unfolding arithmetic
  moves w x y = refl

  computed : (w : Width) (op : AluOp) (d : Reg) (s : Operand) → Each Live (if is_move op then [] else register_number d ∷ []) →
      operand_value other s ≡ operand_value old s
      → arithmetic w op (value other d) (operand_value other s) ≡ arithmetic w op (value old d) (operand_value old s)
  computed w Mov d s e same = moves w (value other d) (operand_value other s) ∙ ap (arithmetic w Mov 0) same ∙ sym (moves w (value old d) (operand_value old s))
  computed w op d s e same = both w op d s e.0 same

  -- ---- what is left
  puts_alike : (d : Reg) (x to : ℕ) → StaysLive table (register_number d ∷ []) old.pc to → AreAlike program table (with_register old d x to)
      (with_register other d x to)
  puts_alike d x to stays = record {
    rest = refl;
    many = same_long old.registers rs (register_number d) (register_number d) x x many;
    live = λ r l. set_alike old.registers rs (register_number d) x r many (λ n. live r (stays r l (n, tt)));
    entered = inr entered;
  }

  differ_one : (k x : ℕ) (new next : Cpu) → new.registers ≡ slice_set old.registers k x → next.registers ≡ slice_set rs k x → Differ (k ∷ []) rs new next
  differ_one k x new next e f = record {
    kept = λ r n. ap (λ (xs : List ℕ). slice_index xs r) f ∙ get_or-set_other rs k r x 0 n.0;
    put = λ r no. ap (λ (xs : List ℕ). slice_index xs r) f ∙ set_alike old.registers rs k x r many (λ n. absurd (no (n, tt))) ∙ sym
        (ap (λ (xs : List ℕ). slice_index xs r) e);
  }

  abbrev Just : List ℕ → Cpu → List ℕ
  Just written new = written

  abbrev One : Reg → Cpu → List ℕ
  One d new = register_number d ∷ []

  puts : (d : Reg) (x y to : ℕ) (progress : Progress) (new : Cpu) → y ≡ x → StaysLive table (register_number d ∷ []) old.pc to
      → (progress ≡ On) × (new ≡ with_register old d x to) → Finds (One d) progress (λ z. (progress ≡ On) × (z ≡ with_register other d y to)) new
  puts d x y to progress new e stays j =
      of_equal (One d) progress (λ n z. (progress ≡ On) × (z ≡ with_register other d n to)) x y new e
      (found_at (One d) progress (λ z. (progress ≡ On) × (z ≡ with_register other d x to)) (with_register old d x to)
      (with_register other d x to) new j.1 (j.0, refl) (puts_alike d x to stays)
      (differ_one (register_number d) x (with_register old d x to) (with_register other d x to) refl refl))

  moved : (to : ℕ) → StaysLive table [] old.pc to → AreAlike program table (at_pc old to) (at_pc other to)
  moved to stays = record { rest = refl; many = many; live = λ r l. live r (stays r l tt); entered = inr entered }

  -- where a jump leads, all stays live
  abbrev Led : List ℕ → ℤ → Type 0
  Led written by = (to : ℕ) → pos to ≡ pos (old.pc + 1) +ℤ by → StaysLive table written old.pc to

  jumped : (by : ℤ) (progress : Progress) (new : Cpu) → Led [] by → Jumps old by new → Finds (Just []) progress (Jumps other by) new
  jumped by progress new led j = found_at (Just []) progress (Jumps other by) (at_pc old j.0) (at_pc other j.0) new j.2 (j.0, j.1, refl)
      (moved j.0 (led j.0 j.1))
      (differ_none (at_pc old j.0) (at_pc other j.0) refl)

  jumped_if : (b : Bool) (by : ℤ) (progress : Progress) (new : Cpu) → Led [] by → StaysLive table [] old.pc (old.pc + 1) → JumpsIf b old by
      new → Finds (Just []) progress (JumpsIf b other by) new
  jumped_if true by progress new led stays j = jumped by progress new led j
  jumped_if false by progress new led stays j =
      found_at (Just []) progress (λ z. z ≡ at_pc other (old.pc + 1)) (at_pc old (old.pc + 1)) (at_pc other (old.pc + 1)) new j refl (moved (old.pc + 1) stays)
      (differ_none (at_pc old (old.pc + 1)) (at_pc other (old.pc + 1)) refl)

  -- ---- functions of the program
  same_caller : Each Live (6 ∷ 7 ∷ 8 ∷ 9 ∷ []) → caller_of other ≡ caller_of old
  same_caller e =
      let f : ℕ → ℕ → ℕ → ℕ → Caller = λ a b c d. record { return_pc = old.pc + 1; saved = a ∷ b ∷ c ∷ d ∷ [] } in
      let mine : ℕ → ℕ = slice_index old.registers in
      ap (λ (a : ℕ). f a (slice_index rs 7) (slice_index rs 8) (slice_index rs 9)) (live 6 e.0)
      ∙ ap (λ (b : ℕ). f (mine 6) b (slice_index rs 8) (slice_index rs 9)) (live 7 e.1.0)
      ∙ ap (λ (c : ℕ). f (mine 6) (mine 7) c (slice_index rs 9)) (live 8 e.1.1.0)
      ∙ ap (λ (d : ℕ). f (mine 6) (mine 7) (mine 8) d) (live 9 e.1.1.1.0)

  called : (to : ℕ) → Each Live (6 ∷ 7 ∷ 8 ∷ 9 ∷ []) → HasCalls program.instructions → StaysLive table (10 ∷ []) old.pc to
      → AreAlike program table (after_call old to) (after_call other to)
  called to e calls stays =
      let top = top_of (length old.memory.frames.live + 1) in
      let made : Caller → Cpu = λ caller. record old {
        registers = slice_set rs 10 top;
        pc = to;
        memory = record old.memory { frames = record { live = old.memory.frames.live ++ zeroed ∷ []; callers = old.memory.frames.callers ++ caller ∷ [] } };
      } in
      record {
        rest = ap made (same_caller e);
        many = same_long old.registers rs 10 10 top top many;
        live = λ r l. set_alike old.registers rs 10 top r many (λ n. live r (stays r l (n, tt)));
        entered = inr (inr calls);
      }

  calls_local : (by : ℤ) (progress : Progress) (new : Cpu) → Each Live (6 ∷ 7 ∷ 8 ∷ 9 ∷ []) → HasCalls program.instructions → Led (10 ∷ []) by
      → CallsLocal by old progress new → Finds (Just (10 ∷ [])) progress (CallsLocal by other progress) new
  calls_local by progress new e calls led (inl f) = (other, inl (f.0, (f.1.0, refl)), stays_here new f.1.1, ends (Just (10 ∷ [])) _ progress new other f.1.0)
  calls_local by progress new e calls led (inr j) =
      found_at (Just (10 ∷ [])) progress (CallsLocal by other progress) (after_call old j.2.0) (after_call other j.2.0) new j.2.2
      (inr (j.0, j.1, (j.2.0, j.2.1, refl))) (called j.2.0 e calls (led j.2.0 j.2.1))
      (differ_one 10 (top_of (length old.memory.frames.live + 1)) (after_call old j.2.0) (after_call other j.2.0) refl refl)

  abbrev Lower : Type 0
  Lower = Each Live (1 ∷ 2 ∷ 3 ∷ 4 ∷ 5 ∷ [])

  returned : (others : List Caller) (caller : Caller) → ((r : ℕ) → 10 ≤ r → Live r) → Live 0 → Lower → HasCalls program.instructions
      → AreAlike program table (after_return old others caller) (after_return other others caller)
  returned others caller top zeroth lower calls =
      let Same : ℕ → Type 0 = λ r. slice_index rs r ≡ slice_index old.registers r in
      record {
        rest = refl;
        many = restored_long caller (top_of (length others + 1)) old.registers rs many;
        live = λ r l. restored_alike caller (top_of (length others + 1)) old.registers rs r many
            (λ n6 n7 n8 n9 n10. not_kept Same (live 0 zeroth) (live 1 lower.0) (live 2 lower.1.0) (live 3 lower.1.1.0)
            (live 4 lower.1.1.1.0) (live 5 lower.1.1.1.1.0)
            (λ i high. live i (top i high)) r n6 n7 n8 n9);
        entered = inr (inr calls);
      }

  back_from : (others : List Caller) (caller : Caller) → old.memory.frames.callers ≡ others ++ caller ∷ [] → IsEntered program old →
      HasCalls program.instructions
  back_from others caller e (inl none) = absurd (none_last others caller (sym e ∙ none))
  back_from others caller e (inr calls) = calls

  abbrev Back : List ℕ
  Back = 6 ∷ 7 ∷ 8 ∷ 9 ∷ 10 ∷ []

  differ_back : (others : List Caller) (caller : Caller) → Differ Back rs (after_return old others caller) (after_return other others caller)
  differ_back others caller = record {
    kept = λ r n. restored_kept caller (top_of (length others + 1)) rs r n.0 n.1.0 n.1.1.0 n.1.1.1.0 n.1.1.1.1.0;
    put = λ r no. restored_alike caller (top_of (length others + 1)) old.registers rs r many (λ n6 n7 n8 n9 n10. absurd (no (n6, (n7, (n8, (n9, (n10, tt)))))));
  }

  exited : (progress : Progress) (new : Cpu) → ((r : ℕ) → 10 ≤ r → Live r) → Live 0 → (HasCalls program.instructions → Lower)
      → Exits old progress new → Finds (Just Back) progress (Exits other progress) new
  exited progress new top zeroth lower (inl f) =
      (other, inl (f.0, f.1 ∙ ap (λ (x : ℕ). Done (outcome.Exit x)) (sym (live 0 zeroth)), refl), stays_here new f.2, ends (Just Back) _ progress new other f.1)
  exited progress new top zeroth lower (inr j) =
      let calls = back_from j.0 j.1 j.2 entered in
      found_at (Just Back) progress (Exits other progress) (after_return old j.0 j.1) (after_return other j.0 j.1) new j.4
      (inr (j.0, j.1, j.2, j.3, refl)) (returned j.0 j.1 top zeroth (lower calls) calls) (differ_back j.0 j.1)

  -- ---- private memory
  loaded : (size : Size) (reading : ℕ → ℕ) (d : Reg) (a : ℕ) (progress : Progress) (new : Cpu) → StaysLive table (register_number d ∷ []) old.pc (old.pc + 1)
      → Loads size reading d a old progress new → Finds (One d) progress (Loads size reading d a other progress) new
  loaded size reading d a progress new stays (inl f) = (other, inl (f.0, (f.1.0, refl)), stays_here new f.1.1, ends (One d) _ progress new other f.1.0)
  loaded size reading d a progress new stays (inr j) =
      found_at (One d) progress (Loads size reading d a other progress) (with_register old d (reading j.0) (old.pc + 1))
      (with_register other d (reading j.0) (old.pc + 1)) new j.3
      (inr (j.0, j.1, j.2, refl)) (puts_alike d (reading j.0) (old.pc + 1) stays)
      (differ_one (register_number d) (reading j.0) (with_register old d (reading j.0) (old.pc + 1))
      (with_register other d (reading j.0) (old.pc + 1)) refl refl)

  stored : (size : Size) (a x : ℕ) (progress : Progress) (new : Cpu) → StaysLive table [] old.pc (old.pc + 1)
      → Stores size a x old progress new → Finds (Just []) progress (Stores size a x other progress) new
  stored size a x progress new stays (inl f) = (other, inl (f.0, (f.1.0, refl)), stays_here new f.1.1, ends (Just []) _ progress new other f.1.0)
  stored size a x progress new stays (inr j) =
      found_at (Just []) progress (Stores size a x other progress) (remembering old j.2.0) (remembering other j.2.0) new j.2.2
      (inr (j.0, j.1, (j.2.0, j.2.1, refl)))
      (record { rest = refl; many = many; live = λ r l. live r (stays r l tt); entered = inr (entered_with program old j.2.0 entered j.2.1.callers) })
      (differ_none (remembering old j.2.0) (remembering other j.2.0) refl)

  -- the registers after an operation that may fetch
  fetched_long : (o : Option Reg) (x : ℕ) → length (fetching o x rs) ≡ length (fetching o x old.registers)
  fetched_long None x = many
  fetched_long (Some r) x = same_long old.registers rs (register_number r) (register_number r) x x many

  fetched_alike : (o : Option Reg) (x to r : ℕ) → StaysLive table (only o) old.pc to → IsLive table to r
      → slice_index (fetching o x rs) r ≡ slice_index (fetching o x old.registers) r
  fetched_alike None x to r stays l = live r (stays r l tt)
  fetched_alike (Some d) x to r stays l = set_alike old.registers rs (register_number d) x r many (λ n. live r (stays r l (n, tt)))

  abbrev Fetches : Option Reg → Cpu → List ℕ
  Fetches o new = only o

  differ_fetched : (o : Option Reg) (x : ℕ) (new next : Cpu) → new.registers ≡ fetching o x old.registers → next.registers ≡ fetching o x rs
      → Differ (only o) rs new next
  differ_fetched None x new next e f = differ_none new next f
  differ_fetched (Some d) x new next e f = differ_one (register_number d) x new next e f

  operated : (w : Width) (op : AtomicOp) (s : Reg) (a : ℕ) (progress : Progress) (new : Cpu) → Live 0 → Live (register_number s)
      → StaysLive table (only (fetched_into op s)) old.pc (old.pc + 1)
      → Atomics w op s a old progress new → Finds (Fetches (fetched_into op s)) progress (Atomics w op s a other progress) new
  operated w op s a progress new zeroth l stays (inl f) = (
    other,
    inl (f.0, (f.1.0, refl)),
    stays_here new f.1.1,
    ends
        (Fetches (fetched_into op s)) _ progress new other f.1.0,
  )
  operated w op s a progress new zeroth l stays (inr (inl f)) =
      (other, inr (inl (f.0, f.1, (f.2.0, refl))), stays_here new f.2.1, ends (Fetches (fetched_into op s)) _ progress new other f.2.0)
  operated w op s a progress new zeroth l stays (inr (inr j)) =
      let left : number_left op w j.0 (value other s) (slice_index rs 0) ≡ number_left op w j.0 (value old s) (slice_index old.registers 0) =
      ap (λ (v : ℕ). number_left op w j.0 v (slice_index rs 0)) (live (register_number s) l) ∙ ap (number_left op w j.0 (value old s)) (live 0 zeroth) in
      let P : ℕ → Type 0 = λ n. Writes old.memory a (low_bytes (length_of (size_of w)) n) j.4.0 in
      let fetched = fetched_into op s in
      found_at (Fetches fetched) progress (Atomics w op s a other progress)
      (record (remembering old j.4.0) { registers = fetching fetched j.0 old.registers })
      (record (remembering other j.4.0) { registers = fetching fetched j.0 rs }) new j.4.2
      (inr (inr (j.0, j.1, j.2, j.3, (j.4.0, subst P (sym left) j.4.1, refl))))
      (record {
        rest = refl;
        many = fetched_long fetched j.0;
        live = λ r lives. fetched_alike fetched j.0 (old.pc + 1) r stays lives;
        entered = inr (entered_with program old j.4.0 entered j.4.1.callers);
      })
      (differ_fetched fetched j.0 (record (remembering old j.4.0) { registers = fetching fetched j.0 old.registers })
      (record (remembering other j.4.0) { registers = fetching fetched j.0 rs }) refl refl)

  -- ---- the rows that no store sees
  -- as an instruction that isn't a helper's call writes them
  abbrev By : Insn → Cpu → List ℕ
  By i new = wrote i (new.pc == old.pc)

  quiet_alike : (i : Insn) (progress : Progress) (new : Cpu) → HasLive program.instructions table old.pc i → Begins program.instructions old.pc i
      → Quiet i old progress new → Finds (By i) progress (Quiet i other progress) new
  quiet_alike (insn.Alu w op d s) progress new has begins j =
      let inputs : Each Live (with_operand s (if is_move op then [] else register_number d ∷ [])) = has.inputs in
      let rest : List ℕ = if is_move op then [] else register_number d ∷ [] in
      puts d _ _ (old.pc + 1) progress new (computed w op d s (after_operand s rest inputs) (same_operand s rest inputs)) (has.next 1 refl) j
  quiet_alike (insn.Negate w d) progress new has begins j =
      puts d _ _ (old.pc + 1) progress new (ap (negated w) (live (register_number d) has.inputs.0)) (has.next 1 refl) j
  quiet_alike (insn.SignExtend e d s) progress new has begins j =
      puts d _ _ (old.pc + 1) progress new (ap (sign_extended e) (live (register_number s) has.inputs.0)) (has.next 1 refl) j
  quiet_alike (insn.SwapBytes k w d) progress new has begins j =
      puts d _ _ (old.pc + 1) progress new (ap (swapped k w) (live (register_number d) has.inputs.0)) (has.next 1 refl) j
  quiet_alike (insn.Jump by) progress new has begins j =
      also (Just []) progress (Jumps other by) (Quiet (insn.Jump by) other progress) new (λ z k. (j.0, k))
      (jumped by progress new (λ to e. has.jumps by to refl e) j.1)
  quiet_alike (insn.JumpLong by) progress new has begins j =
      also (Just []) progress (Jumps other by) (Quiet (insn.JumpLong by) other progress) new (λ z k. (j.0, k))
      (jumped by progress new (λ to e. has.jumps by to refl e) j.1)
  quiet_alike (insn.JumpIf w c d s by) progress new has begins j =
      let inputs : Each Live (with_operand s (register_number d ∷ [])) = has.inputs in
      let mine = after_operand s (register_number d ∷ []) inputs in
      let same : holds w c (value other d) (operand_value other s) ≡ holds w c (value old d) (operand_value old s) =
      ap (λ (x : ℕ). holds w c x (operand_value other s)) (live (register_number d) mine.0) ∙ ap (holds w c (value old d))
      (same_operand s (register_number d ∷ []) inputs) in
      also (Just []) progress (JumpsIf (holds w c (value other d) (operand_value other s)) other by)
      (Quiet (insn.JumpIf w c d s by) other progress) new (λ z k. (j.0, k))
      (subst (λ (b : Bool). Finds (Just []) progress (JumpsIf b other by) new) (sym same)
      (jumped_if (holds w c (value old d) (operand_value old s)) by progress new (λ to e. has.jumps by to refl e) (has.next 1 refl) j.1))
  quiet_alike insn.Exit progress new has begins j = exited progress new (λ r high. top_live table old.pc r high) has.inputs.0 (has.exits refl) j
  quiet_alike (insn.LoadNumber d n) progress new has begins j = puts d n n (old.pc + 2) progress new refl (has.next 2 refl) j
  quiet_alike (insn.LoadMap d m) progress new has begins j = puts d _ _ (old.pc + 2) progress new refl (has.next 2 refl) j
  quiet_alike (insn.CallHelper n) progress new has begins j = absurd j
  quiet_alike (insn.CallLocal by) progress new has begins j =
      calls_local by progress new has.inputs (old.pc, by, begins) (λ to e. has.jumps by to refl e) j
  quiet_alike (insn.Load z d b o) progress new has begins j =
      of_equal (One d) progress (λ a. Loads z (λ x. x) d a other progress) (effective_address old b o) (effective_address other b o) new
      (same_address b o has.inputs.0)
      (loaded z (λ x. x) d (effective_address old b o) progress new (has.next 1 refl) j)
  quiet_alike (insn.LoadSigned z d b o) progress new has begins j =
      of_equal (One d) progress (λ a. Loads (plain_size z) (sign_extended (extension_of z)) d a other progress) (effective_address old b o)
      (effective_address other b o) new (same_address b o has.inputs.0)
      (loaded (plain_size z) (sign_extended (extension_of z)) d (effective_address old b o) progress new (has.next 1 refl) j)
  quiet_alike (insn.StoreImmediate z b o n) progress new has begins j =
      of_equal (Just []) progress (λ a. Stores z a (cast_unsigned w64 n) other progress) (effective_address old b o)
      (effective_address other b o) new (same_address b o has.inputs.0)
      (stored z (effective_address old b o) (cast_unsigned w64 n) progress new (has.next 1 refl) j)
  quiet_alike (insn.Store z b o s) progress new has begins j =
      of_equal (Just []) progress (λ a. Stores z a (value other s) other progress) (effective_address old b o) (effective_address other b o)
      new (same_address b o has.inputs.0)
      (of_equal (Just []) progress (λ x. Stores z (effective_address old b o) x other progress) (value old s) (value other s) new
      (live (register_number s) has.inputs.1.0)
      (stored z (effective_address old b o) (value old s) progress new (has.next 1 refl) j))
  quiet_alike (insn.Atomic w op b o s) progress new has begins j =
      of_equal (Fetches (fetched_into op s)) progress (λ a. Atomics w op s a other progress) (effective_address old b o)
      (effective_address other b o) new (same_address b o has.inputs.1.0)
      (operated w op s (effective_address old b o) progress new has.inputs.0 has.inputs.1.1.0 (has.next 1 refl) j)

  -- ---- helpers
  same_each : (numbers : List ℕ) → Each Live numbers → Each (λ r. slice_index rs r ≡ slice_index old.registers r) numbers
  same_each [] e = tt
  same_each (n ∷ ns) e = (live n e.0, same_each ns e.1)

  abbrev Helped : Type 0
  Helped = StaysLive table (0 ∷ 5 ∷ 4 ∷ 3 ∷ 2 ∷ 1 ∷ []) old.pc (old.pc + 1)

  helped : (x : ℕ) (held : List Span) (drawn : ℕ) → Helped
      → AreAlike program table (record (after_helper old x) { held = held; drawn = drawn }) (record (after_helper other x) { held = held; drawn = drawn })
  helped x held drawn stays = record {
    rest = refl;
    many = helped_long old.registers rs x many;
    live = λ r l. helped_alike old.registers rs x r many (λ n0 n5 n4 n3 n2 n1. live r (stays r l (n0, (n5, (n4, (n3, (n2, (n1, tt))))))));
    entered = inr entered;
  }

  abbrev Clears : List ℕ
  Clears = 0 ∷ 5 ∷ 4 ∷ 3 ∷ 2 ∷ 1 ∷ []

  -- it goes on to the next word then
  differ_helped : (number x : ℕ) (held : List Span) (drawn : ℕ)
      → Differ (wrote (insn.CallHelper number) (old.pc + 1 == old.pc)) rs (record (after_helper old x) { held = held; drawn = drawn })
      (record (after_helper other x) { held = held; drawn = drawn })
  differ_helped number x held drawn =
      let new : Cpu = record (after_helper old x) { held = held; drawn = drawn } in
      let next : Cpu = record (after_helper other x) { held = held; drawn = drawn } in
      let all : Differ Clears rs new next = record {
        kept = λ r n. helped_kept rs x r n.0 n.1.0 n.1.1.0 n.1.1.1.0 n.1.1.1.1.0 n.1.1.1.1.1.0;
        put = λ r no. helped_alike old.registers rs x r many (λ n0 n5 n4 n3 n2 n1. absurd (no (n0, (n5, (n4, (n3, (n2, (n1, tt))))))));
      } in
      subst (λ (again : Bool). Differ (wrote (insn.CallHelper number) again) rs new next) (sym (no_loop old.pc)) all

  -- or it stays
  differ_missed : (number : ℕ) → Differ (wrote (insn.CallHelper number) (old.pc == old.pc)) rs old other
  differ_missed number = subst (λ (again : Bool). Differ (wrote (insn.CallHelper number) again) rs old other)
      (sym (eq-eqb old.pc old.pc refl)) (differ_none old other refl)

  resulted : (number : ℕ) (result : Result ℕ HelperFault) (held : List Span) (progress : Progress) (new : Cpu) → Helped
      → TakesResult result held old progress new → Finds (By (insn.CallHelper number)) progress (TakesResult result held other progress) new
  resulted number (Ok x) held progress new stays k =
      found_at (By (insn.CallHelper number)) progress (TakesResult (Ok x) held other progress) (record (after_helper old x) { held = held })
      (record (after_helper other x) { held = held }) new k.1 (k.0, refl)
      (helped x held old.drawn stays) (differ_helped number x held old.drawn)
  resulted number (Err fault) held progress new stays k = (other, (k.0, refl), stays_here new k.1, ends (By (insn.CallHelper number)) _ progress new other k.0)

  locks : (number : ℕ) (h : Shape) (action : Change) (operand a : ℕ) (left further : ℕ → Cpu) (events : List Event) (progress : Progress) (new : Cpu)
      → ((x : ℕ) → AreAlike program table (left x) (further x)) → ((x : ℕ) → Differ (By (insn.CallHelper number) (left x)) rs (left x) (further x))
      → LockAt h action operand a old left events progress new → Finds (By (insn.CallHelper number)) progress
      (LockAt h action operand a other further events progress) new
  locks number h action operand a left further events progress new alike differ (inl f) =
      (other, inl (f.0, f.1, f.2, (f.3.0, refl)), stays_here new f.3.1, ends (By (insn.CallHelper number)) _ progress new other f.3.0)
  locks number h action operand a left further events progress new alike differ (inr j) =
      found_at (By (insn.CallHelper number)) progress (LockAt h action operand a other further events progress) (left j.1.0) (further j.1.0) new j.1.3
      (inr (j.0, (j.1.0, j.1.1, j.1.2, refl))) (alike j.1.0) (differ j.1.0)

  tried_alike : Helped → (x : ℕ) → AreAlike program table (tried old x) (tried other x)
  tried_alike stays zero = helped 0 old.held old.drawn stays
  tried_alike stays (suc x) = itself

  tried_differ : (number x : ℕ) → Differ (By (insn.CallHelper number) (tried old x)) rs (tried old x) (tried other x)
  tried_differ number zero = differ_helped number 0 old.held old.drawn
  tried_differ number (suc x) = differ_missed number

  helper_alike : (h : Shape) (number : ℕ) (events : List Event) (progress : Progress) (new : Cpu) → Each Live (reads (insn.CallHelper number)) → Helped
      → Helper h number old events progress new → Finds (By (insn.CallHelper number)) progress (Helper h number other events progress) new
  helper_alike h number events progress new inputs stays (inl (asks, j)) =
      let found = resulted number j.0 j.1 progress new stays j.3 in (
        found.0,
        inl (
          asks,
          (
            j.0,
            j.1,
            calls_alike h old.number old.memory old.held events j.0 j.1 old.registers rs number asks
                (same_each (reads (insn.CallHelper number)) inputs) j.2,
            found.1,
          ),
        ),
        found.2,
        found.3,
      )
  helper_alike h number events progress new inputs stays (inr (inl j)) =
      found_at (By (insn.CallHelper number)) progress (Helper h number other events progress)
      (record (after_helper old j.0) { drawn = j.1 }) (record (after_helper other j.0) { drawn = j.1 }) new j.5
      (inr (inl (j.0, j.1, j.2, j.3, j.4, refl))) (helped j.0 old.held j.1 stays) (differ_helped number j.0 old.held j.1)
  helper_alike h number events progress new inputs stays (inr (inr (inl j))) =
      let first : Each Live (1 ∷ []) = subst (λ (n : ℕ). Each Live (reads (insn.CallHelper n))) j.0 inputs in
      also (By (insn.CallHelper number)) progress (LockAt h CompareExchange 1 (slice_index rs 1) other (tried other) events progress)
      (Helper h number other events progress) new (λ z k. inr (inr (inl (j.0, k))))
      (of_equal (By (insn.CallHelper number)) progress (λ a. LockAt h CompareExchange 1 a other (tried other) events progress)
      (slice_index old.registers 1) (slice_index rs 1) new (live 1 first.0)
      (locks number h CompareExchange 1 (slice_index old.registers 1) (tried old) (tried other) events progress new (tried_alike stays)
      (tried_differ number) j.1))
  helper_alike h number events progress new inputs stays (inr (inr (inr j))) =
      let first : Each Live (1 ∷ []) = subst (λ (n : ℕ). Each Live (reads (insn.CallHelper n))) j.0 inputs in
      also (By (insn.CallHelper number)) progress (LockAt h Exchange 0 (slice_index rs 1) other (λ x. after_helper other 0) events progress)
      (Helper h number other events progress) new (λ z k. inr (inr (inr (j.0, k))))
      (of_equal (By (insn.CallHelper number)) progress (λ a. LockAt h Exchange 0 a other (λ x. after_helper other 0) events progress)
      (slice_index old.registers 1) (slice_index rs 1) new (live 1 first.0)
      (locks number h Exchange 0 (slice_index old.registers 1) (λ x. after_helper old 0) (λ x. after_helper other 0) events progress new
      (λ x. helped 0 old.held old.drawn stays) (λ x. differ_helped number 0 old.held old.drawn) j.1))

  -- ---- accesses to values
  value_loaded : (h : Shape) (z : Size) (reading : ℕ → ℕ) (d : Reg) (a : ℕ) (events : List Event) (progress : Progress) (new : Cpu)
      → StaysLive table (register_number d ∷ []) old.pc (old.pc + 1)
      → LoadsValue h z reading d a old events progress new → Finds (One d) progress (LoadsValue h z reading d a other events progress) new
  value_loaded h z reading d a events progress new stays (inl f) =
      (other, inl (f.0, f.1, f.2, (f.3.0, refl)), stays_here new f.3.1, ends (One d) _ progress new other f.3.0)
  value_loaded h z reading d a events progress new stays (inr j) =
      found_at (One d) progress (LoadsValue h z reading d a other events progress) (with_register old d (reading j.1.0) (old.pc + 1))
      (with_register other d (reading j.1.0) (old.pc + 1)) new j.1.3
      (inr (j.0, (j.1.0, j.1.1, j.1.2, refl))) (puts_alike d (reading j.1.0) (old.pc + 1) stays)
      (differ_one (register_number d) (reading j.1.0) (with_register old d (reading j.1.0) (old.pc + 1))
      (with_register other d (reading j.1.0) (old.pc + 1)) refl refl)

  value_stored : (h : Shape) (z : Size) (a x : ℕ) (events : List Event) (progress : Progress) (new : Cpu) → StaysLive table [] old.pc (old.pc + 1)
      → StoresValue h z a x old events progress new → Finds (Just []) progress (StoresValue h z a x other events progress) new
  value_stored h z a x events progress new stays (inl f) = (
    other,
    inl (f.0, f.1, f.2, (f.3.0, refl)),
    stays_here new f.3.1,
    ends (Just [])
        _ progress new other f.3.0,
  )
  value_stored h z a x events progress new stays (inr j) =
      found_at (Just []) progress (StoresValue h z a x other events progress) (at_pc old (old.pc + 1)) (at_pc other (old.pc + 1)) new j.3
      (inr (j.0, j.1, j.2, refl)) (moved (old.pc + 1) stays) (differ_none (at_pc old (old.pc + 1)) (at_pc other (old.pc + 1)) refl)

  value_changed : (h : Shape) (w : Width) (op : AtomicOp) (s : Reg) (a : ℕ) (events : List Event) (progress : Progress) (new : Cpu) → Live 0
      → Live (register_number s)
      → StaysLive table (only (fetched_into op s)) old.pc (old.pc + 1)
      → ChangesValue h w op s a old events progress new → Finds (Fetches (fetched_into op s)) progress (ChangesValue h w op s a other events progress) new
  value_changed h w op s a events progress new zeroth l stays (inl f) =
      (other, inl (f.0, f.1, f.2, (f.3.0, refl)), stays_here new f.3.1, ends (Fetches (fetched_into op s)) _ progress new other f.3.0)
  value_changed h w op s a events progress new zeroth l stays (inr j) =
      let asked : ℕ → ℕ → List Event = λ v n. event.Atomic a (event_size_of (size_of w)) (change_of op) v n j.1.0 ∷ [] in
      let same : asked (value other s) (slice_index rs 0) ≡ asked (value old s) (slice_index old.registers 0) =
      ap (λ (v : ℕ). asked v (slice_index rs 0)) (live (register_number s) l) ∙ ap (asked (value old s)) (live 0 zeroth) in
      let fetched = fetched_into op s in
      found_at (Fetches fetched) progress (ChangesValue h w op s a other events progress)
      (record old { registers = fetching fetched j.1.0 old.registers; pc = old.pc + 1 })
      (record other { registers = fetching fetched j.1.0 rs; pc = old.pc + 1 }) new j.1.3
      (inr (j.0, (j.1.0, j.1.1 ∙ sym same, j.1.2, refl)))
      (record {
        rest = refl;
        many = fetched_long fetched j.1.0;
        live = λ r lives. fetched_alike fetched j.1.0 (old.pc + 1) r stays lives;
        entered = inr entered;
      })
      (differ_fetched fetched j.1.0 (record old { registers = fetching fetched j.1.0 old.registers; pc = old.pc + 1 })
      (record other { registers = fetching fetched j.1.0 rs; pc = old.pc + 1 }) refl refl)

  value_alike : (h : Shape) (i : Insn) (events : List Event) (progress : Progress) (new : Cpu) → HasLive program.instructions table old.pc i
      → AsksValue h i old events progress new → Finds (By i) progress (AsksValue h i other events progress) new
  value_alike h (insn.Load z d b o) events progress new has j =
      of_equal (One d) progress (λ a. LoadsValue h z (λ x. x) d a other events progress) (effective_address old b o)
      (effective_address other b o) new (same_address b o has.inputs.0)
      (value_loaded h z (λ x. x) d (effective_address old b o) events progress new (has.next 1 refl) j)
  value_alike h (insn.LoadSigned z d b o) events progress new has j =
      of_equal (One d) progress (λ a. LoadsValue h (plain_size z) (sign_extended (extension_of z)) d a other events progress)
      (effective_address old b o) (effective_address other b o) new
      (same_address b o has.inputs.0)
      (value_loaded h (plain_size z) (sign_extended (extension_of z)) d (effective_address old b o) events progress new (has.next 1 refl) j)
  value_alike h (insn.StoreImmediate z b o n) events progress new has j =
      of_equal (Just []) progress (λ a. StoresValue h z a (cast_unsigned w64 n) other events progress) (effective_address old b o)
      (effective_address other b o) new (same_address b o has.inputs.0)
      (value_stored h z (effective_address old b o) (cast_unsigned w64 n) events progress new (has.next 1 refl) j)
  value_alike h (insn.Store z b o s) events progress new has j =
      of_equal (Just []) progress (λ a. StoresValue h z a (value other s) other events progress) (effective_address old b o)
      (effective_address other b o) new (same_address b o has.inputs.0)
      (of_equal (Just []) progress (λ x. StoresValue h z (effective_address old b o) x other events progress) (value old s) (value other s)
      new (live (register_number s) has.inputs.1.0)
      (value_stored h z (effective_address old b o) (value old s) events progress new (has.next 1 refl) j))
  value_alike h (insn.Atomic w op b o s) events progress new has j =
      of_equal (Fetches (fetched_into op s)) progress (λ a. ChangesValue h w op s a other events progress) (effective_address old b o)
      (effective_address other b o) new (same_address b o has.inputs.1.0)
      (value_changed h w op s (effective_address old b o) events progress new has.inputs.0 has.inputs.1.1.0 (has.next 1 refl) j)
  value_alike h _ events progress new has j = absurd j

  -- ---- any row
  same_asks : (i : Insn) → Each Live (reads i) → asks_value i other ≡ asks_value i old
  same_asks (insn.Load z d b o) e = ap (λ (a : ℕ). is_in_value old a z) (same_address b o e.0)
  same_asks (insn.LoadSigned z d b o) e = ap (λ (a : ℕ). is_in_value old a (plain_size z)) (same_address b o e.0)
  same_asks (insn.StoreImmediate z b o n) e = ap (λ (a : ℕ). is_in_value old a z) (same_address b o e.0)
  same_asks (insn.Store z b o s) e = ap (λ (a : ℕ). is_in_value old a z) (same_address b o e.0)
  same_asks (insn.Atomic w op b o s) e = ap (λ (a : ℕ). is_in_value old a (size_of w)) (same_address b o e.1.0)
  same_asks _ e = refl

  row_alike : (h : Shape) (i : Insn) (events : List Event) (progress : Progress) (new : Cpu) → HasLive program.instructions table old.pc i →
      Begins program.instructions old.pc i
      → Executes h i old events progress new → Finds (By i) progress (Executes h i other events progress) new
  row_alike h i events progress new has begins (inl j) =
      also (By i) progress (Quiet i other progress) (Executes h i other events progress) new
      (λ z k. inl (same_asks i has.inputs ∙ j.0, j.1, k)) (quiet_alike i progress new has begins j.2)
  row_alike h i events progress new has begins (inr (inl j)) =
      let its = subst (λ (k : Insn). HasLive program.instructions table old.pc k) j.1 has in
      also (By i) progress (Helper h j.0 other events progress) (Executes h i other events progress) new (λ z k. inr (inl (j.0, j.1, k)))
      (subst (λ (k : Insn). Finds (By k) progress (Helper h j.0 other events progress) new) (sym j.1)
      (helper_alike h j.0 events progress new its.inputs (its.next 1 refl) j.2))
  row_alike h i events progress new has begins (inr (inr j)) =
      also (By i) progress (AsksValue h i other events progress) (Executes h i other events progress) new
      (λ z k. inr (inr (same_asks i has.inputs ∙ j.0, k))) (value_alike h i events progress new has j.1)

  pub step_alike : (h : Shape) (events : List Event) (progress : Progress) (new : Cpu) → IsLiveTable program.instructions table
      → (step : Step h program old events progress new) → Finds (By step.instruction) progress (Step h program other events progress) new
  step_alike h events progress new sound step =
      also (By step.instruction) progress (Executes h step.instruction other events progress) (Step h program other events progress) new
      (λ z k. record { instruction = step.instruction; begins = step.begins; row = k })
      (row_alike h step.instruction events progress new (sound old.pc step.instruction step.begins) step.begins step.row)

-- ---- so do states
pub like_itself : (program : Loaded) (table : Table) (cpu : Cpu) → AreAlike program table cpu cpu
like_itself program table cpu = record { rest = refl; many = refl; live = λ r l. refl; entered = inl refl }

module _ (h : Shape) (program : Loaded) (table : Table) (old other new : Cpu) (events : List Event) (progress : Progress)
    (sound : IsLiveTable program.instructions table) (alike : AreAlike program table old other) (step : Step h program old events progress new) where
  abbrev Stepped : Cpu → Type 0
  Stepped c = (next : Cpu) × Step h program c events progress next × AreAlike program table new next

  stepped : (other.registers ≡ old.registers) ⊎ IsEntered program old → Stepped (with_registers old other.registers)
  stepped (inl same) = subst (λ (rs : List ℕ). Stepped (with_registers old rs)) (sym same) (new, step, like_itself program table new)
  stepped (inr entered) = let r = step_alike program table old other.registers alike.many alike.live entered h events progress new sound step in (r.0, r.1, r.2)

  pub next_alike : Stepped other
  next_alike = subst Stepped (sym alike.rest) (stepped alike.entered)

pub steps_are_alike : StepsAreAlike
steps_are_alike h program table old other new events progress sound alike step = next_alike h program table old other new events progress sound alike step
