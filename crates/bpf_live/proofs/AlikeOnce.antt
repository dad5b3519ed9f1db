-- Where a step of one state leads to this state whatever the store, the other's lead to one that is
-- alike whatever the store.
use Rattle.std.proofs.Common.{◌≡◌, ◌≢◌, ◌⊎◌, ℕ, suc, ◌==◌, List, [], ◌∷◌, length, inl, inr, refl, sym, ap, subst, ◌∙◌, arith}
use Rattle.std.specs.Prelude.{slice_index}
use Rattle.bpf_insn.specs.declared.instruction.Insn.{Insn}
use Rattle.bpf_shared.specs.declared.events.Event.{Event}
use Rattle.bpf_shared.specs.Shape.{Shape}
use Rattle.bpf_shared.proofs.Puts.{equal_or_not}
use Rattle.bpf_loader.specs.Loaded.{Loaded}
use Rattle.bpf_loader.specs.Laws.{OneInstructionBegins}
use Rattle.bpf_cpu.specs.declared.cpu.Cpu.{Cpu}
use Rattle.bpf_cpu.specs.declared.outcome.Progress.TheVariants.{On}
use Rattle.bpf_cpu.specs.Step.{Step}
use Rattle.bpf_live.specs.Alike.{AreAlike, IsEntered, with_registers}
use Rattle.bpf_live.specs.Laws.{OneStateIsAlike}
use Rattle.bpf_live.specs.Live.{Each, IsLiveTable, Table}
use Rattle.bpf_live.proofs.AlikeRows.{Differ, like_itself, step_alike, wrote}

same_lists : (xs ys : List ℕ) → length ys ≡ length xs → ((r : ℕ) → slice_index ys r ≡ slice_index xs r) → ys ≡ xs
same_lists [] [] e f = refl
same_lists [] (y ∷ ys) e f = absurd (omega (arith, e))
same_lists (x ∷ xs) [] e f = absurd (omega (arith, e))
same_lists (x ∷ xs) (y ∷ ys) e f =
    ap (λ (n : ℕ). n ∷ ys) (f 0) ∙ ap (λ (ns : List ℕ). x ∷ ns) (same_lists xs ys (omega (arith, e)) (λ r. f (suc r)))

-- it is none of them, or one
none_or_one : (written : List ℕ) (r : ℕ) → Each (λ w. r ≢ w) written ⊎ (Each (λ w. r ≢ w) written → ⊥)
none_or_one [] r = inl tt
none_or_one (w ∷ ws) r = elim (equal_or_not r w) [
  | inl e ↦ inr (λ n. n.0 e)
  | inr ne ↦ more ne (none_or_one ws r)
]
  where
    more : r ≢ w → Each (λ v. r ≢ v) ws ⊎ (Each (λ v. r ≢ v) ws → ⊥) → Each (λ v. r ≢ v) (w ∷ ws) ⊎ (Each (λ v. r ≢ v) (w ∷ ws) → ⊥)
    more ne (inl n) = inl (ne, n)
    more ne (inr some) = inr (λ n. some n.1)

-- what differs so is one
module _ (written rs : List ℕ) (new next last : Cpu) (one : Differ written rs new next) (two : Differ written rs new last) where
  same_here : (r : ℕ) → Each (λ w. r ≢ w) written ⊎ (Each (λ w. r ≢ w) written → ⊥) → slice_index last.registers r ≡ slice_index next.registers r
  same_here r (inl n) = two.kept r n ∙ sym (one.kept r n)
  same_here r (inr some) = two.put r some ∙ sym (one.put r some)

  same_registers : length last.registers ≡ length next.registers → last.registers ≡ next.registers
  same_registers e = same_lists next.registers last.registers e (λ r. same_here r (none_or_one written r))

module _ (begins : OneInstructionBegins) (program : Loaded) (table : Table) (old other new : Cpu)
    (sound : IsLiveTable program.instructions table) (alike : AreAlike program table old other)
    (shape : Shape) (events : List Event) (step : Step shape program old events On new) where
  abbrev Leads : Cpu → Cpu → Type 0
  Leads c next = (h : Shape) (es : List Event) → Step h program old es On new → Step h program c es On next

  abbrev Found : Cpu → Type 0
  Found c = (next : Cpu) × AreAlike program table new next × Leads c next

  found : (other.registers ≡ old.registers) ⊎ IsEntered program old → Found (with_registers old other.registers)
  found (inl same) = subst (λ (rs : List ℕ). Found (with_registers old rs)) (sym same) (new, like_itself program table new, λ h es s. s)
  found (inr entered) =
      let rs = other.registers in
      let r = step_alike program table old rs alike.many alike.live entered shape events On new sound step in (
        r.0,
        r.2,
        λ h es s.
            let t = step_alike program table old rs alike.many alike.live entered h es On new sound s in
            let is : s.instruction ≡ step.instruction = begins program.instructions old.pc s.instruction step.instruction s.begins step.begins in
            let differ = subst (λ (i : Insn). Differ (wrote i (new.pc == old.pc)) rs new t.0) is (t.3 refl) in
            let same = same_registers (wrote step.instruction (new.pc == old.pc)) rs new r.0 t.0 (r.3 refl) differ (t.2.many ∙ sym r.2.many) in
            let one : t.0 ≡ r.0 = t.2.rest ∙ ap (with_registers new) same ∙ sym r.2.rest in
            subst (λ (c : Cpu). Step h program (with_registers old rs) es On c) one t.1,
      )

  pub one_alike : Found other
  one_alike = subst Found (sym alike.rest) (found alike.entered)

pub one_state_is_alike : OneInstructionBegins → OneStateIsAlike
one_state_is_alike begins program table old other new shape events sound alike step = one_alike begins program table old other new sound alike shape events step
