-- Jobs whose CPUs a store has.
use Rattle.std.proofs.Common.{◌≡◌, ℕ, ◌+◌, ◌<◌, ◌≤◌, List, ap, sym, subst, ◌∙◌, length, get_or, arith}
use Rattle.std.proofs.lemmas.List.{get_or_default}
use native.Mathlib.Decide.{ℕ_discrete}
use Rattle.bpf_cpu.specs.declared.job.Job.{Job}
use Rattle.bpf_sched.specs.Refusing.{AreHere}

module _ (cpus : ℕ) (jobs : List Job) where
  -- so are the CPUs of the first k jobs
  abbrev pub FirstAreHere : ℕ → Type 0
  FirstAreHere k = (i : ℕ) (d : Job) → i < k → (get_or jobs i d).cpu < cpus

  module _ (k : ℕ) (job : Job) (at : job ≡ get_or jobs k job) (inside : k < length jobs) (here : job.cpu < cpus) (first : FirstAreHere k) where
    this_or_before : (i : ℕ) (d : Job) → i < k + 1 → Dec (i ≡ k) → (get_or jobs i d).cpu < cpus
    this_or_before i d below (yes same) =
        let is : get_or jobs i d ≡ job = ap (λ (n : ℕ). get_or jobs n d) same ∙ (get_or_default jobs k d job inside ∙ sym at) in
        subst (λ (j : Job). j.cpu < cpus) (sym is) here
    this_or_before i d below (no other) = first i d (omega arith)

    pub one_more_here : FirstAreHere (k + 1)
    one_more_here = λ i d below. this_or_before i d below (ℕ_discrete i k)

  pub all_here : (k : ℕ) → length jobs ≤ k → FirstAreHere k → AreHere cpus jobs
  all_here k past first = λ i d inside. first i d (omega arith)
