-- The jobs of one CPU among those that were gone through.
use Rattle.std.proofs.Common.{◌≡◌, ◌≢◌, ℕ, ◌+◌, ◌<◌, ◌==◌, Bool, true, false, List, [], ◌∷◌, ◌++◌, ap, ◌∙◌, length, map, take, get_or, cond, arith}
use Rattle.std.proofs.lemmas.List.{append-nil, get_or-map, length-map, map-append}
use Rattle.std.proofs.lemmas.List.Elements.{filter_more}
use Rattle.std.proofs.lemmas.Bool.Decides.{nat_tests}
use Rattle.bpf_cpu.specs.declared.job.Job.{Job}
use Rattle.bpf_cpu.specs.Task.{Task, waiting}
use Rattle.bpf_sched.specs.declared.assignment.Assignment.{Assignment}
use Rattle.bpf_sched.specs.Explained.{jobs_of}
use Rattle.bpf_sched.specs.Working.{assigned}

module _ (cpu : ℕ) (jobs : List Job) (k : ℕ) (d : Job) (inside : k < length jobs) where
  abbrev given_of : ℕ → List Assignment
  given_of n = map assigned (jobs_of cpu (take n (map waiting jobs)))

  abbrev mine : Bool
  mine = (get_or jobs k d).cpu == cpu

  more : given_of (k + 1) ≡ given_of k ++ map assigned (cond mine (waiting (get_or jobs k d) ∷ []) [])
  more =
      let there : get_or (map waiting jobs) k (waiting d) ≡ waiting (get_or jobs k d) = get_or-map waiting jobs k d (waiting d) inside in
      ap (map assigned) (filter_more (λ (task : Task). task.cpu == cpu) (map waiting jobs) k (waiting d) (omega (arith, length-map jobs waiting))
      ∙ ap (λ (task : Task). jobs_of cpu (take k (map waiting jobs)) ++ cond (task.cpu == cpu) (task ∷ []) []) there)
      ∙ map-append assigned (jobs_of cpu (take k (map waiting jobs))) (cond mine (waiting (get_or jobs k d) ∷ []) [])

  pub one_of_its : (get_or jobs k d).cpu ≡ cpu → given_of (k + 1) ≡ given_of k ++ assigned (waiting (get_or jobs k d)) ∷ []
  one_of_its same =
      let is : mine ≡ true = grind (arith, nat_tests) in
      more ∙ ap (λ b. given_of k ++ map assigned (cond b (waiting (get_or jobs k d) ∷ []) [])) is

  pub one_of_others : (get_or jobs k d).cpu ≢ cpu → given_of (k + 1) ≡ given_of k
  one_of_others other =
      let is : mine ≡ false = grind (arith, nat_tests) in
      more ∙ ap (λ b. given_of k ++ map assigned (cond b (waiting (get_or jobs k d) ∷ []) [])) is ∙ append-nil (given_of k)
