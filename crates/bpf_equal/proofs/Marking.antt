-- A program that asks for no marks makes the same rows with others.
use Rattle.std.proofs.Common.{◌≡◌, ℕ, zero, suc, Bool, true, false, ℤ, List, Result, Ok, Err, inl, inr, refl, sym, ap, subst, ◌∙◌}
use Rattle.std.specs.Prelude.{if◌then◌else◌, nat_lt, slice_index}
use Rattle.bpf_base.specs.declared.atomic.Change.{Change}
use Rattle.bpf_base.specs.declared.atomic.Change.TheVariants.{Exchange, CompareExchange}
use Rattle.bpf_insn.specs.declared.operation.atomics.AtomicOp.{AtomicOp}
use Rattle.bpf_insn.specs.declared.operation.sizes.Size.{Size}
use Rattle.bpf_insn.specs.declared.operation.widths.Width.{Width}
use Rattle.bpf_insn.specs.declared.register.Reg.{Reg}
use Rattle.bpf_insn.specs.declared.instruction.Insn.{Insn}
use Rattle.bpf_insn.specs.declared.instruction.Insn.TheVariants as insn
use Rattle.bpf_alu.specs.Comparison.{holds}
use Rattle.bpf_mem.specs.declared.memory.PrivateMemory.{PrivateMemory}
use Rattle.bpf_shared.specs.declared.events.Span.{Span}
use Rattle.bpf_shared.specs.declared.events.Event.{Event}
use Rattle.bpf_shared.specs.declared.shapes.ArrayShape.{ArrayShape}
use Rattle.bpf_shared.specs.Shape.{Shape, IsArray, fixed_span}
use Rattle.bpf_helpers.specs.declared.fault.HelperFault.{HelperFault}
use Rattle.bpf_helpers.specs.Arrays.{array_refusal}
use Rattle.bpf_helpers.specs.Calls.{Answers, CallsArray, CallsHelper, copy_for, LooksUpIndex, UpdatesIndex}
use Rattle.bpf_helpers.specs.Given.{AnswersJob}
use Rattle.bpf_loader.specs.Places.{Begins}
use Rattle.bpf_cpu.specs.declared.cpu.Cpu.{Cpu}
use Rattle.bpf_cpu.specs.declared.outcome.Fault.{Fault}
use Rattle.bpf_cpu.specs.declared.outcome.Progress.{Progress}
use Rattle.bpf_cpu.specs.State.{value, operand_value, effective_address}
use Rattle.bpf_cpu.specs.Row.{Quiet, Jumps, JumpsIf, CallsLocal, Exits, Faults, Loads, Stores, Atomics, TakesResult, AsksJob, after_helper}
use Rattle.bpf_cpu.specs.Helping.{Helper, UsesLock, tried}
use Rattle.bpf_cpu.specs.Values.{asks_value, AsksValue, IsRefused}
use Rattle.bpf_cpu.specs.Step.{Executes}
use Rattle.bpf_equal.specs.Laws.{StepsAreMarked}
use Rattle.bpf_equal.specs.States.{HasNoOwnValues, Marks, TellsMarks, marked}

module _ (n : Marks) (old new : Cpu) where
  abbrev other : Cpu
  other = marked n old

  abbrev next : Cpu
  next = marked n new

  -- ---- the rows that no store sees
  jumped : (by : ℤ) → Jumps old by new → Jumps other by next
  jumped by j = (j.0, j.1, ap (marked n) j.2)

  jumped_if : (b : Bool) (by : ℤ) → JumpsIf b old by new → JumpsIf b other by next
  jumped_if true by j = jumped by j
  jumped_if false by e = ap (marked n) e

  faulted : (fault : Fault) (progress : Progress) → Faults fault old progress new → Faults fault other progress next
  faulted fault progress f = (f.0, ap (marked n) f.1)

  called : (by : ℤ) (progress : Progress) → CallsLocal by old progress new → CallsLocal by other progress next
  called by progress (inl f) = inl (f.0, (f.1.0, ap (marked n) f.1.1))
  called by progress (inr j) = inr (j.0, j.1, (j.2.0, j.2.1, ap (marked n) j.2.2))

  exited : (progress : Progress) → Exits old progress new → Exits other progress next
  exited progress (inl f) = inl (f.0, f.1, ap (marked n) f.2)
  exited progress (inr j) = inr (j.0, j.1, j.2, j.3, ap (marked n) j.4)

  loaded : (size : Size) (reading : ℕ → ℕ) (d : Reg) (a : ℕ) (progress : Progress) → Loads size reading d a old progress new → Loads size
      reading d a other progress next
  loaded size reading d a progress (inl f) = inl (f.0, (f.1.0, ap (marked n) f.1.1))
  loaded size reading d a progress (inr j) = inr (j.0, j.1, j.2, ap (marked n) j.3)

  stored : (size : Size) (a x : ℕ) (progress : Progress) → Stores size a x old progress new → Stores size a x other progress next
  stored size a x progress (inl f) = inl (f.0, (f.1.0, ap (marked n) f.1.1))
  stored size a x progress (inr j) = inr (j.0, j.1, (j.2.0, j.2.1, ap (marked n) j.2.2))

  operated : (w : Width) (op : AtomicOp) (s : Reg) (a : ℕ) (progress : Progress) → Atomics w op s a old progress new → Atomics w op s a other progress next
  operated w op s a progress (inl f) = inl (f.0, (f.1.0, ap (marked n) f.1.1))
  operated w op s a progress (inr (inl f)) = inr (inl (f.0, f.1, (f.2.0, ap (marked n) f.2.1)))
  operated w op s a progress (inr (inr j)) = inr (inr (j.0, j.1, j.2, j.3, (j.4.0, j.4.1, ap (marked n) j.4.2)))

  pub quiet : (i : Insn) (progress : Progress) → Quiet i old progress new → Quiet i other progress next
  quiet (insn.Alu w op d s) progress j = (j.0, ap (marked n) j.1)
  quiet (insn.Negate w d) progress j = (j.0, ap (marked n) j.1)
  quiet (insn.SignExtend e d s) progress j = (j.0, ap (marked n) j.1)
  quiet (insn.SwapBytes k w d) progress j = (j.0, ap (marked n) j.1)
  quiet (insn.Jump by) progress j = (j.0, jumped by j.1)
  quiet (insn.JumpLong by) progress j = (j.0, jumped by j.1)
  quiet (insn.JumpIf w c d s by) progress j = (j.0, jumped_if (holds w c (value old d) (operand_value old s)) by j.1)
  quiet insn.Exit progress j = exited progress j
  quiet (insn.LoadNumber d k) progress j = (j.0, ap (marked n) j.1)
  quiet (insn.LoadMap d m) progress j = (j.0, ap (marked n) j.1)
  quiet (insn.CallHelper k) progress j = absurd j
  quiet (insn.CallLocal by) progress j = called by progress j
  quiet (insn.Load z d b o) progress j = loaded z _ d (effective_address old b o) progress j
  quiet (insn.LoadSigned z d b o) progress j = loaded _ _ d (effective_address old b o) progress j
  quiet (insn.StoreImmediate z b o k) progress j = stored z (effective_address old b o) _ progress j
  quiet (insn.Store z b o s) progress j = stored z (effective_address old b o) _ progress j
  quiet (insn.Atomic w op b o s) progress j = operated w op s (effective_address old b o) progress j

  -- ---- accesses to values
  refused : (why : Fault → Type 0) (events : List Event) (progress : Progress) → IsRefused why old events progress new → IsRefused why other
      events progress next
  refused why events progress f = (f.0, f.1, f.2, (f.3.0, ap (marked n) f.3.1))

  value_asked : (h : Shape) (i : Insn) (events : List Event) (progress : Progress) → AsksValue h i old events progress new → AsksValue h i
      other events progress next
  value_asked h (insn.Load z d b o) events progress (inl f) = inl (refused _ events progress f)
  value_asked h (insn.Load z d b o) events progress (inr j) = inr (j.0, (j.1.0, j.1.1, j.1.2, ap (marked n) j.1.3))
  value_asked h (insn.LoadSigned z d b o) events progress (inl f) = inl (refused _ events progress f)
  value_asked h (insn.LoadSigned z d b o) events progress (inr j) = inr (j.0, (j.1.0, j.1.1, j.1.2, ap (marked n) j.1.3))
  value_asked h (insn.StoreImmediate z b o k) events progress (inl f) = inl (refused _ events progress f)
  value_asked h (insn.StoreImmediate z b o k) events progress (inr j) = inr (j.0, j.1, j.2, ap (marked n) j.3)
  value_asked h (insn.Store z b o s) events progress (inl f) = inl (refused _ events progress f)
  value_asked h (insn.Store z b o s) events progress (inr j) = inr (j.0, j.1, j.2, ap (marked n) j.3)
  value_asked h (insn.Atomic w op b o s) events progress (inl f) = inl (refused _ events progress f)
  value_asked h (insn.Atomic w op b o s) events progress (inr j) = inr (j.0, (j.1.0, j.1.1, j.1.2, ap (marked n) j.1.3))
  value_asked h _ events progress j = absurd j

  -- ---- helpers
  took : (result : Result ℕ HelperFault) (held : List Span) (progress : Progress) → TakesResult result held old progress new → TakesResult
      result held other progress next
  took (Ok x) held progress j = (j.0, ap (marked n) j.1)
  took (Err fault) held progress j = (j.0, ap (marked n) j.1)

  -- what the job was given answers the same, but for marks
  same_answer : (number answer drawn : ℕ) → (TellsMarks number → ⊥) → AnswersJob number old.given old.drawn answer drawn → AnswersJob number other.given
      other.drawn answer drawn
  same_answer number answer drawn not (inl row) = inl row
  same_answer number answer drawn not (inr (inl row)) = absurd (not (inr (inr row.0)))
  same_answer number answer drawn not (inr (inr (inl row))) = absurd (not (inr (inl row.0)))
  same_answer number answer drawn not (inr (inr (inr row))) = inr (inr (inr row))

  pub answered : (number : ℕ) (events : List Event) (progress : Progress) → (TellsMarks number → ⊥) → AsksJob number old events progress new → AsksJob
      number other events progress next
  answered number events progress not j = (j.0, j.1, same_answer number j.0 j.1 not j.2, j.3, j.4, ap (marked n) j.5)

  used : (h : Shape) (what : Change) (operand : ℕ) (left right : ℕ → Cpu) (events : List Event) (progress : Progress)
      → ((x : ℕ) → marked n (left x) ≡ right x)
      → UsesLock h what operand left old events progress new → UsesLock h what operand right other events progress next
  used h what operand left right events progress same (inl f) = inl (refused _ events progress f)
  used h what operand left right events progress same (inr j) =
      inr (j.0, (j.1.0, j.1.1, j.1.2, ap (marked n) j.1.3 ∙ same j.1.0))

  tried_too : (x : ℕ) → marked n (tried old x) ≡ tried other x
  tried_too zero = refl
  tried_too (suc x) = refl

-- ---- an array, whose values are those of all CPUs
module _ (h : Shape) (memory : PrivateMemory) (registers : List ℕ) (held : List Span) (a : ℕ) (g : ArrayShape) (m k : ℕ)
    (same : copy_for m g ≡ copy_for k g) (events : List Event) (result : Result ℕ HelperFault) (after : List Span) where
  looked_up : LooksUpIndex h memory registers held m a g events result after → LooksUpIndex h memory registers held k a g events result after
  looked_up (inl f) = inl f
  looked_up (inr j) =
      inr (j.0, j.1, j.2 ∙ ap (λ (x : ℕ). Ok (if nat_lt j.0 g.max then (fixed_span a g x j.0).at else 0)) same, j.3)

  updated : UpdatesIndex h memory registers held m a g events result after → UpdatesIndex h memory registers held k a g events result after
  updated (inl f) = inl f
  updated (inr (inl f)) = inr (inl f)
  updated (inr (inr j)) =
      let P : ℕ → Type 0 = λ x. Answers h memory registers held (fixed_span a g x j.0).at g.value
      (array_refusal g j.0 (slice_index registers 4)) j.2 result in
      inr (inr (j.0, j.1, j.2, j.3, j.4, j.5, subst P same j.6, j.7))

  called_array : (number : ℕ) → CallsArray h memory registers held m a g number events result after → CallsArray h memory registers held k a g
      number events result after
  called_array number (inl j) = inl (j.0, looked_up j.1)
  called_array number (inr (inl j)) = inr (inl (j.0, updated j.1))
  called_array number (inr (inr j)) = inr (inr j)

pub same_asks : (n : Marks) (old : Cpu) (i : Insn) → asks_value i (marked n old) ≡ asks_value i old
same_asks n old (insn.Load z d b o) = refl
same_asks n old (insn.LoadSigned z d b o) = refl
same_asks n old (insn.StoreImmediate z b o k) = refl
same_asks n old (insn.Store z b o s) = refl
same_asks n old (insn.Atomic w op b o s) = refl
same_asks n old _ = refl

one_copy : (h : Shape) (a : ℕ) (g : ArrayShape) (m k : ℕ) → HasNoOwnValues h → IsArray h.arrays a g → copy_for m g ≡ copy_for k g
one_copy h a g m k none is =
    let shared = none a g is in
    ap (λ (b : Bool). if b then m else 0) shared ∙ sym (ap (λ (b : Bool). if b then k else 0) shared)

module _ (h : Shape) (none : HasNoOwnValues h) (n : Marks) (old new : Cpu) (events : List Event) (progress : Progress) where
  called_helper : (number : ℕ) (result : Result ℕ HelperFault) (held : List Span) → (TellsMarks number → ⊥)
      → CallsHelper h number old.number old.registers old.memory old.held events result held
      → CallsHelper h number n.number old.registers old.memory old.held events result held
  called_helper number result held not (inl j) = absurd (not (inl j.0))
  called_helper number result held not (inr (inl j)) = inr (inl j)
  called_helper number result held not (inr (inr (inl j))) = inr (inr (inl j))
  called_helper number result held not (inr (inr (inr j))) =
      inr (inr (inr (
        j.0,
        j.1,
        j.2,
        j.3,
        called_array h old.memory old.registers old.held j.0 j.1 old.number n.number (one_copy h j.0 j.1 old.number n.number none j.2.1)
            events result held number j.4,
      )))

  helped : (number : ℕ) → (TellsMarks number → ⊥) → Helper h number old events progress new → Helper h number (marked n old) events
      progress (marked n new)
  helped number not (inl j) = inl (
    j.0,
    (
      j.1.0,
      j.1.1,
      called_helper number j.1.0 j.1.1 not j.1.2,
      took n old new j.1.0 j.1.1 progress j.1.3,
    ),
  )
  helped number not (inr (inl j)) = inr (inl (answered n old new number events progress not j))
  helped number not (inr (inr (inl j))) =
      inr (inr (inl (j.0, used n old new h CompareExchange 1 (tried old) (tried (marked n old)) events progress (tried_too n old new) j.1)))
  helped number not (inr (inr (inr j))) =
      inr (inr (inr (j.0, used n old new h Exchange 0 (λ x. after_helper old 0) (λ x. after_helper (marked n old) 0) events progress (λ x. refl) j.1)))

  executed : (i : Insn) → ((number : ℕ) → i ≡ insn.CallHelper number → TellsMarks number → ⊥) → Executes h i old events progress new
      → Executes h i (marked n old) events progress (marked n new)
  executed i not (inl j) = inl (same_asks n old i ∙ j.0, j.1, quiet n old new i progress j.2)
  executed i not (inr (inl j)) = inr (inl (j.0, j.1, helped j.0 (not j.0 j.1) j.2))
  executed i not (inr (inr j)) = inr (inr (same_asks n old i ∙ j.0, value_asked n old new h i events progress j.1))

pub steps_are_marked : StepsAreMarked
steps_are_marked h program n old new events progress asks none step = record {
  instruction = step.instruction;
  begins = step.begins;
  row = executed h none n old new events progress step.instruction
      (λ number e. asks old.pc number (subst (Begins program.instructions old.pc) e step.begins)) step.row;
}
