-- What a row asks the store the replies determine, and so the state that it leaves.
use Rattle.std.proofs.Common.{◌≡◌, ℕ, zero, suc, ◌+◌, ◌-◌, ◌<◌, Bool, true, false, ℤ, List, [], ◌∷◌, ◌++◌, length, take, Option, Some, None}
use Rattle.std.proofs.Common.{Result, Ok, Err, inl, inr, refl, sym, ap, subst, ◌∙◌, arith, length-append}
use Rattle.std.specs.Prelude.{is_some, option_map, slice_index}
use Rattle.std.proofs.lemmas.List.{length-take-le, length-replicate}
use Rattle.std.proofs.lemmas.List.Elements.{All-push, All-take}
use Rattle.std.proofs.lemmas.Bool.{false≢true}
use Rattle.std.specs.Int.{w64, cast_unsigned}
use Rattle.bpf_insn.specs.declared.operation.widths.Width.{Width}
use Rattle.bpf_insn.specs.declared.operation.atomics.AtomicOp.{AtomicOp}
use Rattle.bpf_insn.specs.declared.operation.sizes.Size.{Size}
use Rattle.bpf_insn.specs.declared.operation.sizes.Size.TheVariants.{Word}
use Rattle.bpf_base.specs.declared.atomic.Change.{Change}
use Rattle.bpf_base.specs.declared.atomic.Change.TheVariants.{Exchange, CompareExchange}
use Rattle.bpf_insn.specs.declared.register.Reg.{Reg}
use Rattle.bpf_insn.specs.declared.instruction.Insn.{Insn}
use Rattle.bpf_insn.specs.declared.instruction.Insn.TheVariants as insn
use Rattle.bpf_alu.specs.Arithmetic.{sign_extended}
use Rattle.bpf_alu.specs.Comparison.{holds}
use Rattle.bpf_shared.specs.declared.events.Span.{Span}
use Rattle.bpf_shared.specs.declared.events.Event.{Event}
use Rattle.bpf_shared.specs.declared.events.Event.TheVariants as event
use Rattle.bpf_shared.specs.declared.events.Size.TheVariants as event_size
use Rattle.bpf_shared.specs.Shape.{Shape}
use Rattle.bpf_mem.specs.declared.frames.Caller.{Caller}
use Rattle.bpf_mem.specs.declared.memory.PrivateMemory.{PrivateMemory}
use Rattle.bpf_base.specs.Bytes.{low_bytes}
use Rattle.bpf_base.proofs.Lists.{same_last}
use Rattle.bpf_mem.specs.Bytes.{length_of, size_of}
use Rattle.bpf_mem.specs.Atomic.{number_left}
use Rattle.bpf_insn.specs.Atomic.{change_of, fetched_into}
use Rattle.bpf_mem.specs.Memory.{Writes}
use Rattle.bpf_mem.specs.Stack.{zeroed}
use Rattle.bpf_mem.specs.Laws.{IsMemory, WritesAreDetermined}
use Rattle.bpf_cpu.specs.declared.cpu.Cpu.{Cpu}
use Rattle.bpf_cpu.specs.declared.outcome.Fault.{Fault}
use Rattle.bpf_cpu.specs.declared.outcome.Progress.{Progress}
use Rattle.bpf_cpu.specs.declared.outcome.Progress.TheVariants.{On}
use Rattle.bpf_cpu.specs.State.{value, operand_value, effective_address, at_pc, caller_of, after_call, after_return, with_register}
use Rattle.bpf_helpers.specs.declared.fault.HelperFault.{HelperFault}
use Rattle.bpf_helpers.specs.Laws.{AreAskedAlike}
use Rattle.bpf_helpers.proofs.Answering.{answers_once, of_job, store_or_job, store_or_lock, job_or_lock}
use Rattle.bpf_helpers.proofs.Determined.{calls_are_determined}
use Rattle.bpf_cpu.proofs.Asking.{asks-nothing, asks-one}
use Rattle.bpf_cpu.specs.Helping.{Helper, UsesLock, tried}
use Rattle.bpf_cpu.specs.Row.{Faults, Quiet, Jumps, JumpsIf, CallsLocal, Exits, Loads, Stores, Atomics, plain_size, extension_of, fetching}
use Rattle.bpf_cpu.specs.Row.{remembering, after_helper, TakesResult, AsksStore, AsksJob}
use Rattle.bpf_cpu.specs.declared.outcome.Fault.TheVariants.{BadAddress, Misaligned, ReadOnly}
use Rattle.bpf_cpu.specs.Values.{asks_value, event_size_of, MayNotRead, MayNotWrite, IsRefused, IsPlace, IsPlaceToWrite, LoadsValue}
use Rattle.bpf_cpu.specs.Values.{StoresValue, ChangesValue, AsksValue}
use Rattle.bpf_cpu.specs.Step.{Executes}

-- the same end, with the memory of a CPU
pub record Same (progress end : Progress) (new other : Cpu) : Type 0 where
  pub turns : progress ≡ end
  pub states : new ≡ other
  pub sound : IsMemory new.memory

-- the same calls as long as the replies are the same, and where all of them are, the same end
pub record Agrees (events others : List Event) (progress end : Progress) (new other : Cpu) : Type 0 where
  pub asks : AreAskedAlike events others
  pub replied : events ≡ others → Same progress end new other

-- ---- why an access to a value is refused

module _ (h : Shape) (z : Size) (a : ℕ) (cpu : Cpu) where
  same_why_read : (f g : Fault) → MayNotRead h z a cpu f → MayNotRead h z a cpu g → f ≡ g
  same_why_read BadAddress BadAddress w v = refl
  same_why_read BadAddress Misaligned w v = absurd (w v.0)
  same_why_read Misaligned BadAddress w v = absurd (v w.0)
  same_why_read Misaligned Misaligned w v = refl
  same_why_read BadAddress _ w v = absurd v
  same_why_read Misaligned _ w v = absurd v
  same_why_read _ g w v = absurd w

  same_why_write : (f g : Fault) → MayNotWrite h z a cpu f → MayNotWrite h z a cpu g → f ≡ g
  same_why_write ReadOnly ReadOnly w v = refl
  same_why_write ReadOnly BadAddress w v = absurd (v (inr w.0.1.0))
  same_why_write ReadOnly Misaligned w v = absurd (v.1 w.1)
  same_why_write BadAddress ReadOnly w v = absurd (w (inr v.0.1.0))
  same_why_write Misaligned ReadOnly w v = absurd (w.1 v.1)
  same_why_write BadAddress BadAddress w v = refl
  same_why_write BadAddress Misaligned w v = absurd (w v.0)
  same_why_write Misaligned BadAddress w v = absurd (v w.0)
  same_why_write Misaligned Misaligned w v = refl
  same_why_write ReadOnly _ w v = absurd v
  same_why_write BadAddress _ w v = absurd v
  same_why_write Misaligned _ w v = absurd v
  same_why_write _ g w v = absurd w

  no_place_to_read : (f : Fault) → MayNotRead h z a cpu f → IsPlace h z a cpu → ⊥
  no_place_to_read BadAddress w k = w k.0
  no_place_to_read Misaligned w k = w.1 k.1
  no_place_to_read _ w k = w

  no_place_to_write : (f : Fault) → MayNotWrite h z a cpu f → IsPlaceToWrite h z a cpu → ⊥
  no_place_to_write ReadOnly w k = k.1 w.0
  no_place_to_write BadAddress w k = w k.0.0
  no_place_to_write Misaligned w k = w.1 k.0.1
  no_place_to_write _ w k = w

-- ---- lists

none_last : {A : Type 0} (xs : List A) (x : A) → xs ++ x ∷ [] ≡ [] → ⊥
none_last [] x e = cc
none_last (y ∷ ys) x e = cc

-- ---- memory

pub whole_frame : length zeroed ≡ 512
unfolding zeroed
whole_frame = length-replicate {A = ℕ} 512 0

found_bytes : (o : Option (List ℕ)) (number : List ℕ → ℕ) (x : ℕ) → option_map number o ≡ Some x → is_some o ≡ true
found_bytes None number x e = absurd cc
found_bytes (Some bytes) number x e = refl

sound_entered : (old : Cpu) (to : ℕ) → IsMemory old.memory → length old.memory.frames.live < 8 → IsMemory (after_call old to).memory
sound_entered old to sound room =
    let live = old.memory.frames.live in
    let paired = sound.stack.paired in
    record {
      stack = record {
        some = omega (arith, length-append live (zeroed ∷ []));
        bounded = omega (arith, length-append live (zeroed ∷ []));
        sized = All-push (λ frame. length frame ≡ 512) live zeroed sound.stack.sized whole_frame;
        paired = omega (arith, length-append live (zeroed ∷ []), length-append old.memory.frames.callers (caller_of old ∷ []));
      };
      small = sound.small;
      brief = sound.brief;
    }

sound_left : (old : Cpu) (others : List Caller) (caller : Caller) → IsMemory old.memory → old.memory.frames.callers ≡ others ++ caller ∷ []
    → IsMemory (after_return old others caller).memory
sound_left old others caller sound e =
    let live = old.memory.frames.live in
    let paired = sound.stack.paired in
    let bounded = sound.stack.bounded in
    let callers : length old.memory.frames.callers ≡ length others + 1 = ap length e ∙ length-append others (caller ∷ []) in
    let count : length (take (length live - 1) live) ≡ length live - 1 = length-take-le (length live - 1) live (omega arith) in
    record {
      stack = record {
        some = omega arith;
        bounded = omega arith;
        sized = All-take (λ frame. length frame ≡ 512) (length live - 1) live sound.stack.sized;
        paired = omega arith;
      };
      small = sound.small;
      brief = sound.brief;
    }

module _ (law : WritesAreDetermined) (old new other : Cpu) (progress end : Progress) (sound : IsMemory old.memory) where
  -- both make this state
  makes : (made : Cpu) → progress ≡ On → end ≡ On → new ≡ made → other ≡ made → IsMemory made.memory → Same progress end new other
  makes made t e n o m = record { turns = t ∙ sym e; states = n ∙ sym o; sound = let P : Cpu → Type 0 = λ c. IsMemory c.memory in subst P (sym n) m }

  -- both are the same fault
  faults : (fault : Fault) → Faults fault old progress new → Faults fault old end other → Same progress end new other
  faults fault f g = record { turns = f.0 ∙ sym g.0; states = f.1 ∙ sym g.1; sound = let P : Cpu → Type 0 = λ c. IsMemory c.memory in subst P (sym f.1) sound }

  jumped : (by : ℤ) → progress ≡ On → end ≡ On → Jumps old by new → Jumps old by other → Same progress end new other
  jumped by t e j k =
      let to : k.0 ≡ j.0 = cc (j.1, k.1) in
      makes (at_pc old j.0) t e j.2 (k.2 ∙ ap (at_pc old) to) sound

  jumped_if : (by : ℤ) (b : Bool) → progress ≡ On → end ≡ On → JumpsIf b old by new → JumpsIf b old by other → Same progress end new other
  jumped_if by true t e j k = jumped by t e j k
  jumped_if by false t e j k = makes _ t e j k sound

  called : (by : ℤ) → CallsLocal by old progress new → CallsLocal by old end other → Same progress end new other
  called by (inl f) (inl g) = faults _ f.1 g.1
  called by (inl f) (inr k) = absurd (let full = f.0 in let room = k.0 in omega arith)
  called by (inr j) (inl g) = absurd (let full = g.0 in let room = j.0 in omega arith)
  called by (inr j) (inr k) =
      let to : k.2.0 ≡ j.2.0 = cc (j.2.1, k.2.1) in
      makes (after_call old j.2.0) j.1 k.1 j.2.2 (k.2.2 ∙ ap (after_call old) to) (sound_entered old j.2.0 sound j.0)

  exited : Exits old progress new → Exits old end other → Same progress end new other
  exited (inl f) (inl g) = record {
    turns = f.1 ∙ sym g.1;
    states = f.2 ∙ sym g.2;
    sound =
        let P : Cpu → Type 0 = λ c. IsMemory c.memory in subst P (sym f.2) sound;
  }
  exited (inl f) (inr k) = absurd (none_last k.0 k.1 (sym k.2 ∙ f.0))
  exited (inr j) (inl g) = absurd (none_last j.0 j.1 (sym j.2 ∙ g.0))
  exited (inr j) (inr k) =
      let same = same_last k.0 j.0 k.1 j.1 (sym k.2 ∙ j.2) in
      makes (after_return old j.0 j.1) j.3 k.3 j.4 (k.4 ∙ ap (λ callers. after_return old callers k.1) same.0 ∙ ap (after_return old j.0)
      same.1) (sound_left old j.0 j.1 sound j.2)

  loaded : (size : Size) (reading : ℕ → ℕ) (d : Reg) (a : ℕ) → Loads size reading d a old progress new → Loads size reading d a old end
      other → Same progress end new other
  loaded size reading d a (inl f) (inl g) = faults _ f.1 g.1
  loaded size reading d a (inl f) (inr k) = absurd (false≢true (sym f.0 ∙ found_bytes _ _ _ k.1))
  loaded size reading d a (inr j) (inl g) = absurd (false≢true (sym g.0 ∙ found_bytes _ _ _ j.1))
  loaded size reading d a (inr j) (inr k) =
      let x : k.0 ≡ j.0 = cc (j.1, k.1) in
      makes (with_register old d (reading j.0) (old.pc + 1)) j.2 k.2 j.3 (k.3 ∙ ap (λ n. with_register old d (reading n) (old.pc + 1)) x) sound

  stored : (size : Size) (a x : ℕ) → Stores size a x old progress new → Stores size a x old end other → Same progress end new other
  stored size a x (inl f) (inl g) = faults _ f.1 g.1
  stored size a x (inl f) (inr k) = absurd (false≢true (sym f.0 ∙ k.0))
  stored size a x (inr j) (inl g) = absurd (false≢true (sym g.0 ∙ j.0))
  stored size a x (inr j) (inr k) =
      let one = law old.memory a _ j.2.0 k.2.0 sound j.2.1 k.2.1 in
      makes (remembering old j.2.0) j.1 k.1 j.2.2 (k.2.2 ∙ ap (remembering old) (sym one.1)) one.0

  operated : (w : Width) (op : AtomicOp) (s : Reg) (a : ℕ) → Atomics w op s a old progress new → Atomics w op s a old end other → Same progress end new other
  operated w op s a (inl f) (inl g) = faults _ f.1 g.1
  operated w op s a (inl f) (inr (inl k)) = absurd (false≢true (sym f.0 ∙ k.0))
  operated w op s a (inl f) (inr (inr k)) = absurd (false≢true (sym f.0 ∙ found_bytes _ _ _ k.1))
  operated w op s a (inr (inl j)) (inl g) = absurd (false≢true (sym g.0 ∙ j.0))
  operated w op s a (inr (inl j)) (inr (inl k)) = faults _ j.2 k.2
  operated w op s a (inr (inl j)) (inr (inr k)) = absurd (j.1 k.2)
  operated w op s a (inr (inr j)) (inl g) = absurd (false≢true (sym g.0 ∙ found_bytes _ _ _ j.1))
  operated w op s a (inr (inr j)) (inr (inl k)) = absurd (k.1 j.2)
  operated w op s a (inr (inr j)) (inr (inr k)) =
      let x : k.0 ≡ j.0 = cc (j.1, k.1) in
      let done : ℕ → PrivateMemory → Cpu = λ n memory. record (remembering old memory) { registers = fetching (fetched_into op s) n old.registers } in
      let P : ℕ → Type 0 = λ n. Writes old.memory a (low_bytes (length_of (size_of w))
      (number_left op w n (value old s) (slice_index old.registers 0))) k.4.0 in
      let one = law old.memory a _ j.4.0 k.4.0 sound j.4.1 (subst P x k.4.1) in
      makes (done j.0 j.4.0) j.3 k.3 j.4.2 (k.4.2 ∙ ap (λ n. done n k.4.0) x ∙ ap (done j.0) (sym one.1)) one.0

  quiet_same : (i : Insn) → Quiet i old progress new → Quiet i old end other → Same progress end new other
  quiet_same (insn.Alu w op d s) j k = makes _ j.0 k.0 j.1 k.1 sound
  quiet_same (insn.Negate w d) j k = makes _ j.0 k.0 j.1 k.1 sound
  quiet_same (insn.SignExtend e d s) j k = makes _ j.0 k.0 j.1 k.1 sound
  quiet_same (insn.SwapBytes o w d) j k = makes _ j.0 k.0 j.1 k.1 sound
  quiet_same (insn.Jump by) j k = jumped by j.0 k.0 j.1 k.1
  quiet_same (insn.JumpLong by) j k = jumped by j.0 k.0 j.1 k.1
  quiet_same (insn.JumpIf w c d s by) j k = jumped_if by (holds w c (value old d) (operand_value old s)) j.0 k.0 j.1 k.1
  quiet_same insn.Exit j k = exited j k
  quiet_same (insn.LoadNumber d n) j k = makes _ j.0 k.0 j.1 k.1 sound
  quiet_same (insn.LoadMap d m) j k = makes _ j.0 k.0 j.1 k.1 sound
  quiet_same (insn.CallHelper n) j k = absurd j
  quiet_same (insn.CallLocal by) j k = called by j k
  quiet_same (insn.Load z d b o) j k = loaded z (λ x. x) d (effective_address old b o) j k
  quiet_same (insn.LoadSigned z d b o) j k = loaded (plain_size z) (sign_extended (extension_of z)) d (effective_address old b o) j k
  quiet_same (insn.StoreImmediate z b o n) j k = stored z (effective_address old b o) (cast_unsigned w64 n) j k
  quiet_same (insn.Store z b o s) j k = stored z (effective_address old b o) (value old s) j k
  quiet_same (insn.Atomic w op b o s) j k = operated w op s (effective_address old b o) j k

  -- ---- helpers

  -- what the job goes on with, or its fault
  resulted : (result : Result ℕ HelperFault) (held : List Span) → TakesResult result held old progress new → TakesResult result held old end
      other → Same progress end new other
  resulted (Ok x) held j k = makes _ j.0 k.0 j.1 k.1 sound
  resulted (Err fault) held j k = faults _ j k

  -- no event at all
  unasked : (events others : List Event) → events ≡ [] → others ≡ [] → Same progress end new other → Agrees events others progress end new other
  unasked events others e f same = record { asks = asks-nothing events others e f; replied = λ _. same }

  store_agrees : (shape : Shape) (number : ℕ) (events others : List Event) → AsksStore shape number old events progress new → AsksStore
      shape number old others end other → Agrees events others progress end new other
  store_agrees shape number events others j k =
      let calls = calls_are_determined shape number old.number old.registers old.memory old.held j.1 k.1 events others j.0 k.0 j.2 k.2 in
      record {
        asks = calls.0;
        replied = λ same.
            let results = calls.1 same in
            let P : Result ℕ HelperFault → Type 0 = λ r. TakesResult r k.1 old end other in
            let Q : List Span → Type 0 = λ held. TakesResult j.0 held old end other in
            resulted j.0 j.1 j.3 (subst Q (sym results.1) (subst P (sym results.0) k.3));
      }

  job_agrees : (number : ℕ) (events others : List Event) → AsksJob number old events progress new → AsksJob number old others end other →
      Agrees events others progress end new other
  job_agrees number events others j k =
      let same = answers_once number old.given old.drawn j.0 k.0 j.1 k.1 j.2 k.2 in
      let done : ℕ → ℕ → Cpu = λ x drawn. record (after_helper old x) { drawn = drawn } in
      unasked events others j.3 k.3 (makes (done j.0 j.1) j.4 k.4 j.5 (k.5 ∙ ap (λ x. done x k.1) (sym same.0) ∙ ap (done j.0) (sym same.1)) sound)

  -- ---- accesses to values

  refused_agrees : (why : Fault → Type 0) → ((f g : Fault) → why f → why g → f ≡ g) → (events others : List Event) → IsRefused why old
      events progress new → IsRefused why old others end other → Agrees events others progress end new other
  refused_agrees why same events others f g = unasked events others f.2 g.2
      (faults _ f.3 (subst (λ (x : Fault). Faults x old end other) (same g.0 f.0 g.1 f.1) g.3))

  tried_sound : (x : ℕ) → IsMemory (tried old x).memory
  tried_sound zero = sound
  tried_sound (suc x) = sound

  lock_agrees : (h : Shape) (action : Change) (operand : ℕ) (left : ℕ → Cpu) → ((x : ℕ) → IsMemory (left x).memory) → (events others : List Event)
      → UsesLock h action operand left old events progress new → UsesLock h action operand left old others end other → Agrees events others
      progress end new other
  lock_agrees h action operand left sound_left events others (inl f) (inl g) = refused_agrees
      (MayNotWrite h Word (slice_index old.registers 1) old) (same_why_write h Word (slice_index old.registers 1) old) events others f g
  lock_agrees h action operand left sound_left events others (inl f) (inr k) = absurd (no_place_to_write h Word (slice_index old.registers 1) old f.0 f.1 k.0)
  lock_agrees h action operand left sound_left events others (inr j) (inl g) = absurd (no_place_to_write h Word (slice_index old.registers 1) old g.0 g.1 j.0)
  lock_agrees h action operand left sound_left events others (inr j) (inr k) =
      let asked : ℕ → Event = λ n. event.Atomic (slice_index old.registers 1) event_size.Word action operand 0 n in
      record {
        asks = asks-one events others (asked j.1.0) (asked k.1.0) j.1.1 k.1.1 refl;
        replied = λ same.
            let lists : asked j.1.0 ∷ [] ≡ asked k.1.0 ∷ [] = sym j.1.1 ∙ same ∙ k.1.1 in
            let x : k.1.0 ≡ j.1.0 = cc in
            makes (left j.1.0) j.1.2 k.1.2 j.1.3 (k.1.3 ∙ ap left x) (sound_left j.1.0);
      }

  helper_agrees : (shape : Shape) (number : ℕ) (events others : List Event) → Helper shape number old events progress new → Helper shape
      number old others end other → Agrees events others progress end new other
  helper_agrees shape number events others (inl j) (inl k) = store_agrees shape number events others j.1 k.1
  helper_agrees shape number events others (inr (inl j)) (inr (inl k)) = job_agrees number events others j k
  helper_agrees shape number events others (inr (inr (inl j))) (inr (inr (inl k))) = lock_agrees shape CompareExchange 1 (tried old)
      tried_sound events others j.1 k.1
  helper_agrees shape number events others (inr (inr (inr j))) (inr (inr (inr k))) = lock_agrees shape Exchange 0 (λ x. after_helper old 0)
      (λ x. sound) events others j.1 k.1
  helper_agrees shape number events others (inl j) (inr (inl k)) = absurd (store_or_job number j.0 (of_job number old.given old.drawn k.0 k.1 k.2))
  helper_agrees shape number events others (inr (inl j)) (inl k) = absurd (store_or_job number k.0 (of_job number old.given old.drawn j.0 j.1 j.2))
  helper_agrees shape number events others (inl j) (inr (inr (inl k))) = absurd (store_or_lock number j.0 (inl k.0))
  helper_agrees shape number events others (inl j) (inr (inr (inr k))) = absurd (store_or_lock number j.0 (inr k.0))
  helper_agrees shape number events others (inr (inr (inl j))) (inl k) = absurd (store_or_lock number k.0 (inl j.0))
  helper_agrees shape number events others (inr (inr (inr j))) (inl k) = absurd (store_or_lock number k.0 (inr j.0))
  helper_agrees shape number events others (inr (inl j)) (inr (inr (inl k))) = absurd
      (job_or_lock number (of_job number old.given old.drawn j.0 j.1 j.2) (inl k.0))
  helper_agrees shape number events others (inr (inl j)) (inr (inr (inr k))) = absurd
      (job_or_lock number (of_job number old.given old.drawn j.0 j.1 j.2) (inr k.0))
  helper_agrees shape number events others (inr (inr (inl j))) (inr (inl k)) = absurd
      (job_or_lock number (of_job number old.given old.drawn k.0 k.1 k.2) (inl j.0))
  helper_agrees shape number events others (inr (inr (inr j))) (inr (inl k)) = absurd
      (job_or_lock number (of_job number old.given old.drawn k.0 k.1 k.2) (inr j.0))
  helper_agrees shape number events others (inr (inr (inl j))) (inr (inr (inr k))) = absurd (let e = j.0 in let f = k.0 in omega arith)
  helper_agrees shape number events others (inr (inr (inr j))) (inr (inr (inl k))) = absurd (let e = j.0 in let f = k.0 in omega arith)

  value_loaded : (h : Shape) (z : Size) (reading : ℕ → ℕ) (d : Reg) (a : ℕ) (events others : List Event) → LoadsValue h z reading d a old
      events progress new → LoadsValue h z reading d a old others end other → Agrees events others progress end new other
  value_loaded h z reading d a events others (inl f) (inl g) = refused_agrees (MayNotRead h z a old) (same_why_read h z a old) events others f g
  value_loaded h z reading d a events others (inl f) (inr k) = absurd (no_place_to_read h z a old f.0 f.1 k.0)
  value_loaded h z reading d a events others (inr j) (inl g) = absurd (no_place_to_read h z a old g.0 g.1 j.0)
  value_loaded h z reading d a events others (inr j) (inr k) = record {
    asks = asks-one events others (event.Load a (event_size_of z) j.1.0) (event.Load a (event_size_of z) k.1.0) j.1.1 k.1.1 refl;
    replied = λ same.
        let lists : event.Load a (event_size_of z) j.1.0 ∷ [] ≡ event.Load a (event_size_of z) k.1.0 ∷ [] = sym j.1.1 ∙ same ∙ k.1.1 in
        let x : k.1.0 ≡ j.1.0 = cc in
        makes (with_register old d (reading j.1.0) (old.pc + 1)) j.1.2 k.1.2 j.1.3 (k.1.3 ∙ ap (λ n. with_register old d (reading n) (old.pc + 1)) x) sound;
  }

  value_stored : (h : Shape) (z : Size) (a x : ℕ) (events others : List Event) → StoresValue h z a x old events progress new → StoresValue h
      z a x old others end other → Agrees events others progress end new other
  value_stored h z a x events others (inl f) (inl g) = refused_agrees (MayNotWrite h z a old) (same_why_write h z a old) events others f g
  value_stored h z a x events others (inl f) (inr k) = absurd (no_place_to_write h z a old f.0 f.1 k.0)
  value_stored h z a x events others (inr j) (inl g) = absurd (no_place_to_write h z a old g.0 g.1 j.0)
  value_stored h z a x events others (inr j) (inr k) = record {
    asks = asks-one events others (event.Store a (event_size_of z) x) (event.Store a (event_size_of z) x) j.1 k.1 refl;
    replied = λ same. makes _ j.2 k.2 j.3 k.3 sound;
  }

  value_changed : (h : Shape) (w : Width) (op : AtomicOp) (s : Reg) (a : ℕ) (events others : List Event) → ChangesValue h w op s a old
      events progress new → ChangesValue h w op s a old others end other → Agrees events others progress end new other
  value_changed h w op s a events others (inl f) (inl g) = refused_agrees (MayNotWrite h (size_of w) a old)
      (same_why_write h (size_of w) a old) events others f g
  value_changed h w op s a events others (inl f) (inr k) = absurd (no_place_to_write h (size_of w) a old f.0 f.1 k.0)
  value_changed h w op s a events others (inr j) (inl g) = absurd (no_place_to_write h (size_of w) a old g.0 g.1 j.0)
  value_changed h w op s a events others (inr j) (inr k) =
      let asked : ℕ → Event = λ n. event.Atomic a (event_size_of (size_of w)) (change_of op) (value old s) (slice_index old.registers 0) n in
      let done : ℕ → Cpu = λ n. record old { registers = fetching (fetched_into op s) n old.registers; pc = old.pc + 1 } in
      record {
        asks = asks-one events others (asked j.1.0) (asked k.1.0) j.1.1 k.1.1 refl;
        replied = λ same.
            let lists : asked j.1.0 ∷ [] ≡ asked k.1.0 ∷ [] = sym j.1.1 ∙ same ∙ k.1.1 in
            let x : k.1.0 ≡ j.1.0 = cc in
            makes (done j.1.0) j.1.2 k.1.2 j.1.3 (k.1.3 ∙ ap done x) sound;
      }

  value_agrees : (h : Shape) (i : Insn) (events others : List Event) → AsksValue h i old events progress new → AsksValue h i old others end
      other → Agrees events others progress end new other
  value_agrees h (insn.Load z d b o) events others j k = value_loaded h z (λ x. x) d (effective_address old b o) events others j k
  value_agrees h (insn.LoadSigned z d b o) events others j k = value_loaded h (plain_size z) (sign_extended (extension_of z)) d
      (effective_address old b o) events others j k
  value_agrees h (insn.StoreImmediate z b o n) events others j k = value_stored h z (effective_address old b o) (cast_unsigned w64 n) events others j k
  value_agrees h (insn.Store z b o s) events others j k = value_stored h z (effective_address old b o) (value old s) events others j k
  value_agrees h (insn.Atomic w op b o s) events others j k = value_changed h w op s (effective_address old b o) events others j k
  value_agrees h _ events others j k = absurd j

  -- ---- any row

  quiet_helper : (i : Insn) (number : ℕ) (end : Progress) (state : Cpu) → i ≡ insn.CallHelper number → Quiet i old end state → ⊥
  quiet_helper i number end state e row = let P : Insn → Type 0 = λ i. Quiet i old end state in subst P e row

  helper_value : (i : Insn) (number : ℕ) → i ≡ insn.CallHelper number → asks_value i old ≡ true → ⊥
  helper_value i number e asks = false≢true (subst (λ (j : Insn). asks_value j old ≡ true) e asks)

  pub row_agrees : (shape : Shape) (i : Insn) (events others : List Event) → Executes shape i old events progress new → Executes shape i old
      others end other → Agrees events others progress end new other
  row_agrees shape i events others (inl j) (inl k) = unasked events others j.1 k.1 (quiet_same i j.2 k.2)
  row_agrees shape i events others (inl j) (inr (inl k)) = absurd (quiet_helper i k.0 progress new k.1 j.2)
  row_agrees shape i events others (inl j) (inr (inr k)) = absurd (false≢true (sym j.0 ∙ k.0))
  row_agrees shape i events others (inr (inl j)) (inl k) = absurd (quiet_helper i j.0 end other j.1 k.2)
  row_agrees shape i events others (inr (inl j)) (inr (inl k)) =
      let number : k.0 ≡ j.0 = cc (j.1, k.1) in
      let P : ℕ → Type 0 = λ n. Helper shape n old others end other in
      helper_agrees shape j.0 events others j.2 (subst P number k.2)
  row_agrees shape i events others (inr (inl j)) (inr (inr k)) = absurd (helper_value i j.0 j.1 k.0)
  row_agrees shape i events others (inr (inr j)) (inl k) = absurd (false≢true (sym k.0 ∙ j.0))
  row_agrees shape i events others (inr (inr j)) (inr (inl k)) = absurd (helper_value i k.0 k.1 j.0)
  row_agrees shape i events others (inr (inr j)) (inr (inr k)) = value_agrees shape i events others j.1 k.1
