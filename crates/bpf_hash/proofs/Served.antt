-- Only CPUs that a `HashStore` has are in a run.
use Rattle.std.proofs.Common.{◌≡◌, ◌<◌, ℕ, true, false, length, inl, inr, sym, subst, ap, ◌∙◌}
use Rattle.std.proofs.lemmas.Bool.{cases_lt}
use Rattle.std.proofs.lemmas.List.{get_or_past}
use Rattle.bpf_shared.specs.Store.{Plain}
use Rattle.bpf_hash.specs.HashStore.{Contents, StandsFor}
use Rattle.bpf_hash.specs.Private.Runs.{no_runs}
use Rattle.bpf_hash.specs.Private.Contents.{runs_of}

-- in each plain store that is shown only its own CPUs are in a run
pub runs_are_served : (p : Contents) (s : Plain) → StandsFor p s
    → (c : ℕ) → s.running c ≡ true → c < s.shape.cpus
runs_are_served p s shows c runs = elim (cases_lt c (length p.runs)) [
  | inl l ↦ subst (λ (n : ℕ). c < n) (sym shows.cpus) l
  | inr g ↦
      let none : runs_of p c ≡ no_runs = get_or_past p.runs c no_runs g in
      let no : false ≡ true =
      sym (ap (λ (r : _). r.running) none) ∙ (sym (shows.running c) ∙ runs)
      in
      cc
]
