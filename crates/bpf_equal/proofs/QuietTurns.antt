-- Turns that no store sees are the same with other marks, of a program that asks for none.
use Rattle.std.proofs.Common.{◌≡◌, ◌∙◌, ℕ, zero, suc, true, false, List, [], ◌∷◌, map, Some, None, Result, Ok, Err, inl, inr, refl}
use Rattle.std.proofs.Common.{sym, ap, subst, arith}
use Rattle.bpf_insn.specs.declared.instruction.Insn.{Insn}
use Rattle.bpf_insn.specs.declared.instruction.Insn.TheVariants as insn
use Rattle.bpf_mem.specs.declared.memory.PrivateMemory.{PrivateMemory}
use Rattle.bpf_shared.specs.declared.events.Event.{Event}
use Rattle.bpf_shared.specs.declared.events.Event.TheVariants.{Begin, End, Lookup, Update, Delete, Keys, Load, Store, Atomic}
use Rattle.bpf_shared.specs.declared.events.Span.{Span}
use Rattle.bpf_shared.specs.Events.{Allowed}
use Rattle.bpf_shared.specs.History.{PlainlyLegal, entry}
use Rattle.bpf_shared.specs.Shape.{Shape}
use Rattle.bpf_shared.specs.Store.{Plain, as_made}
use Rattle.bpf_helpers.specs.declared.fault.HelperFault.{HelperFault}
use Rattle.bpf_helpers.specs.declared.fault.HelperFault.TheVariants.{NotAMap}
use Rattle.bpf_helpers.specs.Calls.{CallsHelper, processor_number}
use Rattle.bpf_loader.specs.Loaded.{Loaded}
use Rattle.bpf_loader.specs.Places.{Begins}
use Rattle.bpf_cpu.specs.declared.cpu.Cpu.{Cpu}
use Rattle.bpf_cpu.specs.declared.outcome.Fault.{Fault}
use Rattle.bpf_cpu.specs.declared.outcome.Outcome.TheVariants.{OutOfBudget}
use Rattle.bpf_cpu.specs.declared.outcome.Progress.{Progress}
use Rattle.bpf_cpu.specs.declared.outcome.Progress.TheVariants.{On, Done}
use Rattle.bpf_cpu.specs.Helping.{Helper}
use Rattle.bpf_cpu.specs.Row.{AsksJob}
use Rattle.bpf_cpu.specs.Step.{Executes, Step}
use Rattle.bpf_cpu.specs.Values.{AsksValue, IsRefused}
use Rattle.bpf_machine.specs.Headways.{TakesQuietTurns}
use Rattle.bpf_machine.specs.Schedule.{Advances, outcome_after}
use Rattle.bpf_machine.proofs.NoStore.{no_store}
use Rattle.bpf_equal.specs.States.{AsksNoMarks, Marks, TellsMarks, marked}
use Rattle.bpf_equal.proofs.Marking.{answered, quiet, same_asks}
use Rattle.bpf_equal.proofs.Turns.{same_outcome}

-- ---- a store of no CPU allows no event
abbrev nowhere : Plain
nowhere = as_made no_store

no_event : (c : ℕ) (e : Event) (t : Plain) → Allowed nowhere c e t → ⊥
no_event c Begin t a = let less = a.0 in omega (arith, less)
no_event c (Keys m ks) t a = let less = a.0 in omega (arith, less)
no_event c End t a = let no : false ≡ true = a.0 in cc
no_event c (Lookup m key found) t a = let no : false ≡ true = a.0 in cc
no_event c (Update m key bytes flags answer) t a = let no : false ≡ true = a.0 in cc
no_event c (Delete m key answer) t a = let no : false ≡ true = a.0 in cc
no_event c (Load at size found) t a = let no : false ≡ true = a.0 in cc
no_event c (Store at size x) t a = let no : false ≡ true = a.0 in cc
no_event c (Atomic at size op operand expected found) t a = let no : false ≡ true = a.0 in cc

no_events : (c : ℕ) (es : List Event) (t : Plain) → PlainlyLegal nowhere (map (entry c) es) t → es ≡ []
no_events c [] t legal = refl
no_events c (e ∷ es) t (m, allowed, rest) = absurd (no_event c e m allowed.0)

-- ---- a row that goes on there asks no store
answers : (number cpu : ℕ) (registers : List ℕ) (memory : PrivateMemory) (held after : List Span) (events : List Event) (result : Result ℕ HelperFault) (x : ℕ)
    → result ≡ Ok x → CallsHelper no_store number cpu registers memory held events result after → number ≡ processor_number
answers number cpu registers memory held after events result x e (inl row) = row.0
answers number cpu registers memory held after events result x e (inr (inl row)) = (let no : Err NotAMap ≡ Ok x = sym row.3.1 ∙ e in cc)
answers number cpu registers memory held after events result x e (inr (inr (inl (m, h, at, row)))) = (let none : None ≡ Some h = at.1 in absurd cc)
answers number cpu registers memory held after events result x e (inr (inr (inr (a, g, at, other, row)))) = (let none : None ≡ Some g = at.1 in absurd cc)

module _ (old mid : Cpu) where
  asks_job : (number : ℕ) → (TellsMarks number → ⊥) → Helper no_store number old [] On mid → AsksJob number old [] On mid
  asks_job number not (inl (helper, (Ok x, held, row, takes))) =
      absurd (not (inl (answers number old.number old.registers old.memory old.held held [] (Ok x) x refl row)))
  asks_job number not (inl (helper, (Err fault, held, row, takes))) = (let no : On ≡ Done _ = takes.0 in cc)
  asks_job number not (inr (inl asks)) = asks
  asks_job number not (inr (inr (inl (is, inl row)))) = (let no : On ≡ Done _ = row.3.0 in cc)
  asks_job number not (inr (inr (inl (is, inr row)))) = (let no : [] ≡ _ ∷ [] = row.1.1 in cc)
  asks_job number not (inr (inr (inr (is, inl row)))) = (let no : On ≡ Done _ = row.3.0 in cc)
  asks_job number not (inr (inr (inr (is, inr row)))) = (let no : [] ≡ _ ∷ [] = row.1.1 in cc)

  not_refused : (why : Fault → Type 0) → IsRefused why old [] On mid → ⊥
  not_refused why row = (let no : On ≡ Done _ = row.3.0 in cc)

  never_asks : (h : Shape) (i : Insn) → AsksValue h i old [] On mid → ⊥
  never_asks h (insn.Load z d b o) (inl row) = not_refused _ row
  never_asks h (insn.Load z d b o) (inr row) = (let no : [] ≡ _ ∷ [] = row.1.1 in cc)
  never_asks h (insn.LoadSigned z d b o) (inl row) = not_refused _ row
  never_asks h (insn.LoadSigned z d b o) (inr row) = (let no : [] ≡ _ ∷ [] = row.1.1 in cc)
  never_asks h (insn.StoreImmediate z b o n) (inl row) = not_refused _ row
  never_asks h (insn.StoreImmediate z b o n) (inr row) = (let no : [] ≡ _ ∷ [] = row.1 in cc)
  never_asks h (insn.Store z b o s) (inl row) = not_refused _ row
  never_asks h (insn.Store z b o s) (inr row) = (let no : [] ≡ _ ∷ [] = row.1 in cc)
  never_asks h (insn.Atomic w op b o s) (inl row) = not_refused _ row
  never_asks h (insn.Atomic w op b o s) (inr row) = (let no : [] ≡ _ ∷ [] = row.1.1 in cc)
  never_asks h _ row = absurd row

  -- so it is the same at any store, and on any CPU
  anywhere : (h : Shape) (n : Marks) (i : Insn) → ((number : ℕ) → i ≡ insn.CallHelper number → TellsMarks number → ⊥) → Executes no_store i old [] On mid
      → Executes h i (marked n old) [] On (marked n mid)
  anywhere h n i not (inl row) = inl (same_asks n old i ∙ row.0, refl, quiet n old mid i On row.2)
  anywhere h n i not (inr (inl (number, call, row))) =
      inr (inl (number, call, inr (inl (answered n old mid number [] On (not number call) (asks_job number (not number call) row)))))
  anywhere h n i not (inr (inr row)) = absurd (never_asks no_store i row.1)

goes_on : (answer : Progress) (n : ℕ) (new : Cpu) → None ≡ outcome_after answer n new → answer ≡ On
goes_on (Done end) n new e = let none : None ≡ Some end = e in cc
goes_on On n new e = refl

-- ---- turns
module _ (program : Loaded) (asks : AsksNoMarks program) (c d : ℕ) (k : Marks) where
  advance_quietly : (old : Cpu) (left : ℕ) (mid : Cpu) (more : ℕ) → ((s : Plain) → Advances program c s old left None s mid more)
      → (s : Plain) → Advances program d s (marked k old) left None s (marked k mid) more
  advance_quietly old zero mid more made s = let a = made nowhere in let none : None ≡ Some (OutOfBudget old.pc) = a.0 in absurd cc
  advance_quietly old (suc n) mid more made s =
      let a = made nowhere in
      let on : a.1 ≡ On = goes_on a.1 n mid a.4 in
      let none : a.0 ≡ [] = no_events c a.0 nowhere a.3 in
      let step = subst (λ (es : List Event). Step no_store program old es On mid) none
      (subst (λ (p : Progress). Step no_store program old a.0 p mid) on a.2) in
      let there : Step s.shape program (marked k old) [] On (marked k mid) = record {
        instruction = step.instruction;
        begins = step.begins;
        row = anywhere old mid s.shape k step.instruction (λ number e. asks old.pc number (subst (Begins program.instructions old.pc) e step.begins)) step.row;
      } in
      let still : None ≡ outcome_after On n mid = a.4 ∙ ap (λ (p : Progress). outcome_after p n mid) on in
      ([], On, there, refl, still ∙ sym (same_outcome On n mid (marked k mid) refl), a.5)

  pub turns_quietly : (n : ℕ) (old : Cpu) (left : ℕ) (new : Cpu) (rest : ℕ) → TakesQuietTurns program c n old left new rest
      → TakesQuietTurns program d n (marked k old) left (marked k new) rest
  turns_quietly zero old left new rest made = (ap (marked k) made.0, made.1)
  turns_quietly (suc n) old left new rest made = (
    marked k made.0,
    made.1,
    advance_quietly old left made.0 made.1 made.2,
    turns_quietly n made.0 made.1 new rest made.3,
  )
