-- A step that goes on, with no event, where a store has no maps and no arrays has none at any store.
use Rattle.std.proofs.Common.{◌≡◌, ◌∙◌, ℕ, true, false, List, [], ◌∷◌, Some, None, inl, inr, refl, sym, ap, subst, arith}
use Rattle.std.specs.Prelude.{Result, Ok, Err}
use Rattle.bpf_shared.specs.declared.events.Event.{Event}
use Rattle.bpf_shared.specs.declared.events.Span.{Span}
use Rattle.bpf_shared.specs.Shape.{Shape, without_arrays}
use Rattle.bpf_insn.specs.declared.instruction.Insn.{Insn}
use Rattle.bpf_insn.specs.declared.instruction.Insn.TheVariants as insn
use Rattle.bpf_mem.specs.declared.memory.PrivateMemory.{PrivateMemory}
use Rattle.bpf_helpers.specs.declared.fault.HelperFault.{HelperFault}
use Rattle.bpf_helpers.specs.declared.fault.HelperFault.TheVariants.{NotAMap}
use Rattle.bpf_helpers.specs.Calls.{CallsHelper, processor_number}
use Rattle.bpf_helpers.specs.Given.{AsksNothing, IsJobHelper}
use Rattle.bpf_helpers.proofs.Answering.{job_or_lock, of_job, store_or_job}
use Rattle.bpf_cpu.specs.declared.cpu.Cpu.{Cpu}
use Rattle.bpf_cpu.specs.declared.outcome.Fault.{Fault}
use Rattle.bpf_cpu.specs.declared.outcome.Progress.{Progress}
use Rattle.bpf_cpu.specs.declared.outcome.Progress.TheVariants.{On, Done}
use Rattle.bpf_cpu.specs.Helping.{Helper}
use Rattle.bpf_cpu.specs.Row.{Quiet}
use Rattle.bpf_cpu.specs.Step.{Executes}
use Rattle.bpf_cpu.specs.Values.{asks_value, AsksValue, IsRefused}

abbrev pub no_store : Shape
no_store = without_arrays 0 []

-- a helper of the others that answers there is the one for the CPU's number
answers : (number cpu : ℕ) (registers : List ℕ) (memory : PrivateMemory) (held after : List Span) (events : List Event) (result : Result ℕ HelperFault) (x : ℕ)
    → result ≡ Ok x → CallsHelper no_store number cpu registers memory held events result after → number ≡ processor_number
answers number cpu registers memory held after events result x e (inl row) = row.0
answers number cpu registers memory held after events result x e (inr (inl row)) = (let no : Err NotAMap ≡ Ok x = sym row.3.1 ∙ e in cc)
answers number cpu registers memory held after events result x e (inr (inr (inl (m, h, at, row)))) = (let none : None ≡ Some h = at.1 in absurd cc)
answers number cpu registers memory held after events result x e (inr (inr (inr (a, g, at, other, row)))) = (let none : None ≡ Some g = at.1 in absurd cc)

module _ (old mid : Cpu) where
  asks_nothing : (number : ℕ) → Helper no_store number old [] On mid → AsksNothing number
  asks_nothing number (inl (helper, (Ok x, held, row, takes))) = inl (answers number old.number old.registers old.memory old.held held [] (Ok x) x refl row)
  asks_nothing number (inl (helper, (Err fault, held, row, takes))) = (let no : On ≡ Done _ = takes.0 in cc)
  asks_nothing number (inr (inl asks)) = inr (of_job number old.given old.drawn asks.0 asks.1 asks.2)
  asks_nothing number (inr (inr (inl (is, inl row)))) = (let no : On ≡ Done _ = row.3.0 in cc)
  asks_nothing number (inr (inr (inl (is, inr row)))) = (let no : [] ≡ _ ∷ [] = row.1.1 in cc)
  asks_nothing number (inr (inr (inr (is, inl row)))) = (let no : On ≡ Done _ = row.3.0 in cc)
  asks_nothing number (inr (inr (inr (is, inr row)))) = (let no : [] ≡ _ ∷ [] = row.1.1 in cc)

  not_refused : (why : Fault → Type 0) → IsRefused why old [] On mid → ⊥
  not_refused why row = (let no : On ≡ Done _ = row.3.0 in cc)

  never_asks : (i : Insn) → AsksValue no_store i old [] On mid → ⊥
  never_asks (insn.Load z d b o) (inl row) = not_refused _ row
  never_asks (insn.Load z d b o) (inr row) = (let no : [] ≡ _ ∷ [] = row.1.1 in cc)
  never_asks (insn.LoadSigned z d b o) (inl row) = not_refused _ row
  never_asks (insn.LoadSigned z d b o) (inr row) = (let no : [] ≡ _ ∷ [] = row.1.1 in cc)
  never_asks (insn.StoreImmediate z b o n) (inl row) = not_refused _ row
  never_asks (insn.StoreImmediate z b o n) (inr row) = (let no : [] ≡ _ ∷ [] = row.1 in cc)
  never_asks (insn.Store z b o s) (inl row) = not_refused _ row
  never_asks (insn.Store z b o s) (inr row) = (let no : [] ≡ _ ∷ [] = row.1 in cc)
  never_asks (insn.Atomic w op b o s) (inl row) = not_refused _ row
  never_asks (insn.Atomic w op b o s) (inr row) = (let no : [] ≡ _ ∷ [] = row.1.1 in cc)
  never_asks (insn.Alu w op d s) row = row
  never_asks (insn.Negate w d) row = row
  never_asks (insn.SignExtend e d s) row = row
  never_asks (insn.SwapBytes k w d) row = row
  never_asks (insn.Jump by) row = row
  never_asks (insn.JumpLong by) row = row
  never_asks (insn.JumpIf w c d s by) row = row
  never_asks insn.Exit row = row
  never_asks (insn.LoadNumber d n) row = row
  never_asks (insn.LoadMap d m) row = row
  never_asks (insn.CallHelper n) row = row
  never_asks (insn.CallLocal by) row = row

module _ (h : Shape) (old after : Cpu) (events : List Event) (answer : Progress) where
  -- the processor's number is asked of no store
  processor_asks : (number : ℕ) → number ≡ processor_number → Helper h number old events answer after → events ≡ []
  processor_asks number is (inl (helper, (result, held, inl row, takes))) = row.1
  processor_asks number is (inl (helper, (result, held, inr (inl row), takes))) = absurd (row.0 is)
  processor_asks number is (inl (helper, (result, held, inr (inr (inl (m, g, at, inl row))), takes))) = cc
  processor_asks number is (inl (helper, (result, held, inr (inr (inl (m, g, at, inr (inl row)))), takes))) = cc
  processor_asks number is (inl (helper, (result, held, inr (inr (inl (m, g, at, inr (inr row)))), takes))) = cc
  processor_asks number is (inl (helper, (result, held, inr (inr (inr (a, g, at, other, inl row))), takes))) = cc
  processor_asks number is (inl (helper, (result, held, inr (inr (inr (a, g, at, other, inr (inl row)))), takes))) = cc
  processor_asks number is (inl (helper, (result, held, inr (inr (inr (a, g, at, other, inr (inr row)))), takes))) = cc
  processor_asks number is (inr (inl asks)) = asks.3
  processor_asks number is (inr (inr (inl (lock, row)))) = absurd (let e = is in let f = lock in omega arith)
  processor_asks number is (inr (inr (inr (lock, row)))) = absurd (let e = is in let f = lock in omega arith)

  -- nor is what a job was given
  job_asks : (number : ℕ) → IsJobHelper number → Helper h number old events answer after → events ≡ []
  job_asks number is (inl asks) = absurd (store_or_job number asks.0 is)
  job_asks number is (inr (inl asks)) = asks.3
  job_asks number is (inr (inr (inl (lock, row)))) = absurd (job_or_lock number is (inl lock))
  job_asks number is (inr (inr (inr (lock, row)))) = absurd (job_or_lock number is (inr lock))

  quiet_asks : (i : Insn) (mid : Cpu) → asks_value i old ≡ false → Quiet i old On mid → Executes h i old events answer after → events ≡ []
  quiet_asks i mid asks quiet (inl row) = row.1
  quiet_asks i mid asks quiet (inr (inl (number, is, row))) = absurd (subst (λ (j : Insn). Quiet j old On mid) is quiet)
  quiet_asks i mid asks quiet (inr (inr row)) = (let no : true ≡ false = sym row.0 ∙ asks in cc)

  helper_asks : (i : Insn) (number : ℕ) → i ≡ insn.CallHelper number → AsksNothing number → Executes h i old events answer after → events ≡ []
  helper_asks i number call is (inl row) = row.1
  helper_asks i number call is (inr (inl (other, same, row))) =
      let calls : insn.CallHelper other ≡ insn.CallHelper number = sym same ∙ call in
      let one : other ≡ number = cc in
      elim is [
        | inl processor ↦ processor_asks other (one ∙ processor) row
        | inr job ↦ job_asks other (subst IsJobHelper (sym one) job) row
      ]
  helper_asks i number call is (inr (inr row)) =
      let no : true ≡ false = sym row.0 ∙ ap (λ (j : Insn). asks_value j old) call in
      cc

  pub none_anywhere : (i : Insn) (mid : Cpu) → Executes no_store i old [] On mid → Executes h i old events answer after → events ≡ []
  none_anywhere i mid (inl row) other = quiet_asks i mid row.0 row.2 other
  none_anywhere i mid (inr (inl (number, call, row))) other = helper_asks i number call (asks_nothing old mid number row) other
  none_anywhere i mid (inr (inr row)) other = absurd (never_asks old mid i row.1)
