-- Whether all jobs have ended.
use Rattle.std.proofs.Common.{◌≡◌, ℕ, ◌+◌, ◌<◌, ◌≤◌, List, Some, inl, inr, length, sym, ap, subst, ◌∙◌, arith}
use Rattle.std.specs.Prelude.{slice_get}
use Rattle.std.proofs.lemmas.Bool.{cases_lt}
use Rattle.std.proofs.lemmas.Option.{slice_get_within}
use Rattle.bpf_cpu.specs.declared.outcome.Outcome.{Outcome}
use Rattle.bpf_cpu.specs.Task.{Task, Ended}
use Rattle.bpf_machine.specs.Rounds.{HaveEnded}

abbrev pub HasEnded : Task → Type 0
HasEnded x = (outcome : Outcome) × (x.stage ≡ Ended outcome)

-- the first n have
abbrev pub EndedBelow : List Task → ℕ → Type 0
EndedBelow jobs n = (k : ℕ) (x : Task) → k < n → slice_get jobs k ≡ Some x → HasEnded x

pub more_ended : (jobs : List Task) (j : ℕ) (x : Task) → slice_get jobs j ≡ Some x → HasEnded x → EndedBelow jobs j → EndedBelow jobs (j + 1)
more_ended jobs j x here ended before k y less at = elim (cases_lt k j) [
  | inl under ↦ before k y under at
  | inr past ↦
      let e : k ≡ j = omega arith in
      let two : Some x ≡ Some y = sym here ∙ ap (λ (n : ℕ). slice_get jobs n) (sym e) ∙ at in
      let same : x ≡ y = cc in
      subst HasEnded same ended
]

pub all_ended : (jobs : List Task) (n : ℕ) → length jobs ≤ n → EndedBelow jobs n → HaveEnded jobs
all_ended jobs n past ended j task at =
    let inside : j < length jobs = slice_get_within jobs j task at in
    ended j task (omega arith) at

pub one_open : (jobs : List Task) (j : ℕ) (x : Task) → slice_get jobs j ≡ Some x →
    ((outcome : Outcome) → x.stage ≡ Ended outcome → ⊥) → HaveEnded jobs → ⊥
one_open jobs j x at goes all = let end = all j x at in goes end.0 end.1
