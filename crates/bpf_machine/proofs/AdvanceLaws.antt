-- One step of a job in hand, over a `PlainStore`.
use Rattle.std.proofs.Common.{◌≡◌, ◌≢◌, ◌+◌, ◌<◌, ℕ, zero, suc, List, [], Option, Some, None, refl, sym, subst, arith}
use Rattle.bpf_shared.specs.Shape.{Shape}
use Rattle.bpf_shared.specs.declared.events.Event.{Event}
use Rattle.bpf_shared.specs.Store.{Plain}
use Rattle.bpf_shared.specs.Sound.{IsSoundStore}
use Rattle.bpf_shared.specs.Chain.{Chain}
use Rattle.bpf_plain.specs.PlainStore.{Contents, has_cpu, shape_of, StandsFor, Passes}
use Rattle.bpf_loader.specs.Loaded.{Loaded}
use Rattle.bpf_cpu.specs.declared.cpu.Cpu.{Cpu}
use Rattle.bpf_cpu.specs.declared.outcome.Progress.{Progress}
use Rattle.bpf_cpu.specs.declared.outcome.Progress.TheVariants.{On}
use Rattle.bpf_cpu.specs.declared.outcome.Outcome.{Outcome}
use Rattle.bpf_cpu.specs.declared.outcome.Outcome.TheVariants.{OutOfBudget}
use Rattle.bpf_cpu.specs.Step.{Step, MakesQuietSteps}
use Rattle.bpf_machine.specs.Schedule.{Advances, outcome_after}
use Rattle.bpf_machine.specs.Headways.{TakesQuietTurns}
use Rattle.bpf_machine.proofs.OwnEvents.{chain_leads}

-- from each plain store that the first value shows, the job's step leads to one that the second shows
abbrev pub StepLeads : Loaded → Contents → Contents → Cpu → ℕ → Option Outcome → Cpu → ℕ → Type 0
StepLeads program x y old n end new left =
    (s : Plain) → IsSoundStore s → StandsFor x s → (t : Plain) × Advances program old.number s old n end t new left × IsSoundStore t × StandsFor y t

module _ (program : Loaded) (x y : Contents) (old new : Cpu) where
  pub no_step_leads : (n : ℕ) → n ≡ 0 → StepLeads program x x old n (Some (OutOfBudget old.pc)) old n
  no_step_leads n e = let P : ℕ → Type 0 = λ k. StepLeads program x x old k (Some (OutOfBudget old.pc)) old k in subst P (sym e)
      (λ s sound shows. (s, (refl, refl, refl, refl), sound, shows))

  pub step_leads : (progress : Progress) (n m : ℕ) (end : Option Outcome) → n ≡ suc m → end ≡ outcome_after progress m new
      → (events : List Event) × Chain Passes has_cpu old.number x y events × Step (shape_of x) program old events progress new
      → StepLeads program x y old n end new m
  step_leads progress n m end e is step =
      let P : ℕ → Type 0 = λ k. StepLeads program x y old k end new m in
      subst P (sym e) (λ s sound shows.
      let r = chain_leads x y old.number step.0 step.1 s sound shows in
      let Q : Shape → Type 0 = λ h. Step h program old step.0 progress new in
      (r.0, (step.0, progress, subst Q (sym shows.shape) step.2, r.1, is, refl), r.2, r.3))

-- the outcome of a job that goes on
pub last_step : (m : ℕ) (new : Cpu) → m ≡ 0 → Some (OutOfBudget new.pc) ≡ outcome_after On m new
last_step zero new e = refl
last_step (suc m) new e = absurd (omega arith)

pub not_last_step : (m : ℕ) (new : Cpu) → m ≢ 0 → None ≡ outcome_after On m new
not_last_step zero new ne = absurd (ne refl)
not_last_step (suc m) new ne = refl

-- ---- steps that no store sees
-- steps of a job whose budget has more left are turns
pub quiet_turns : (program : Loaded) (c n : ℕ) (old : Cpu) (left : ℕ) (new : Cpu) (rest : ℕ) → MakesQuietSteps program n old new → left ≡ n
    + suc rest → TakesQuietTurns program c n old left new (suc rest)
quiet_turns program c zero old left new rest made e = (made, omega arith)
quiet_turns program c (suc n) old left new rest made e = (
  made.0,
  n + suc rest,
  λ s. subst (λ (k : ℕ). Advances program c s old k None s made.0 (n + suc rest)) left_is (one s),
  quiet_turns program c n made.0 (n + suc rest) new rest made.2 refl,
)
  where
    left_is : suc (n + suc rest) ≡ left
    left_is = omega arith

    one : (s : Plain) → Advances program c s old (suc (n + suc rest)) None s made.0 (n + suc rest)
    one s = ([], On, made.1 s.shape, refl, not_last (n + suc rest) (omega arith), refl)
      where
        not_last : (k : ℕ) → 0 < k → None ≡ outcome_after On k made.0
        not_last zero less = absurd (omega arith)
        not_last (suc k) less = refl
