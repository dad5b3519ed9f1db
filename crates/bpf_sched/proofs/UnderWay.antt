-- A CPU that has run some of its jobs.
use Rattle.std.proofs.Common.{◌≡◌, ℕ, ◌+◌, ◌<◌, Bool, true, false, List, ◌∷◌, ◌++◌, [], All, ap, sym, subst, ◌∙◌, length, get_or, take, drop, set, arith}
use Rattle.bpf_shared.specs.Shape.{Shape}
use Rattle.std.proofs.lemmas.List.{drop-set-lt, drop-drop, length-set, take_more, take_more_set}
use Rattle.bpf_shared.specs.declared.events.Event.{Event}
use Rattle.bpf_shared.specs.declared.events.Entry.{Entry}
use Rattle.bpf_shared.specs.declared.events.Span.{Span}
use Rattle.bpf_shared.specs.Chain.{Chain}
use Rattle.bpf_helpers.specs.Held.{KeepsRun}
use Rattle.bpf_loader.specs.Loaded.{Loaded}
use Rattle.bpf_sched.specs.declared.assignment.Assignment.{Assignment}
use Rattle.bpf_sched.specs.Working.{IsNew, Runs, RunsAll}
use Rattle.bpf_sched.proofs.Working.{one_more, number_is, own_number, still_there}

module _ {T : Type 0} (passes : T → T → List Entry → Type 0) (serves running : T → ℕ → Bool) (held : T → ℕ → Span → Bool)
    (may_wear : T → ℕ → Type 0) (shapes : T → Shape)
    (programs : List Loaded) (cpu : ℕ) (x : T) (olds : List Assignment) where
  -- the first k jobs are run, and the others are as they were
  pub record IsUnderWay (k : ℕ) (y : T) (number : ℕ) (news : List Assignment) : Type 0 where
    pub same_cpu : number ≡ cpu
    pub size : length news ≡ length olds
    pub rest : drop k news ≡ drop k olds
    pub events : List Event
    pub run : RunsAll (Chain passes serves cpu) (λ z. may_wear z cpu) (shapes x) programs x (take k olds) (take k news) events y
    pub served : serves y ≡ serves x
    pub runs : running y ≡ running x
    pub shaped : shapes y ≡ shapes x

  module _ (new : All (IsNew cpu (length programs)) olds) (k : ℕ) (y : T) (number : ℕ) (news : List Assignment)
      (is : IsUnderWay k y number news) (inside : k < length olds)
      (job : Assignment) (at : job ≡ get_or news k job) where
    abbrev now_new : IsNew cpu (length programs) job
    now_new = subst (IsNew cpu (length programs)) (sym (at ∙ still_there olds news k job is.rest)) (new k job inside)

    pub has_number : job.cpu.number ≡ cpu
    has_number = number_is cpu (length programs) job now_new

    pub is_new : IsNew job.cpu.number (length programs) job
    is_new = own_number cpu (length programs) job now_new

    pub is_served : serves x cpu ≡ true → serves y job.cpu.number ≡ true
    is_served s = ap (serves y) has_number ∙ (ap (λ f. f cpu) is.served ∙ s)

    pub is_idle : running x cpu ≡ false → running y job.cpu.number ≡ false
    is_idle s = ap (running y) has_number ∙ (ap (λ f. f cpu) is.runs ∙ s)

    abbrev ran_as : ℕ → Assignment → List Event → T → Type 0
    ran_as n done events z = Runs (Chain passes serves n) (λ w. may_wear w n) (shapes y) programs y job done events z

    pub goes_on : (done : Assignment) (z : T) (mine : List Event) → ran_as job.cpu.number done mine z → KeepsRun shapes running held job.cpu.number y z
        → IsUnderWay (k + 1) z number (set news k done)
    goes_on done z mine r keeps =
        let own : ran_as cpu done mine z = subst (λ n. ran_as n done mine z) has_number r in
        let there : Runs (Chain passes serves cpu) (λ w. may_wear w cpu) (shapes x) programs y (get_or olds k job) done mine z =
        subst (λ a. Runs (Chain passes serves cpu) (λ w. may_wear w cpu) (shapes x) programs y a done mine z) (at ∙ still_there olds news k job is.rest)
        (subst (λ h. Runs (Chain passes serves cpu) (λ w. may_wear w cpu) h programs y job done mine z) is.shaped own) in
        let so_far : List Assignment → List Assignment → Type 0 = λ os ns. RunsAll (Chain passes serves cpu) (λ w. may_wear w cpu)
        (shapes x) programs x os ns (is.events ++ mine) z in
        record {
          same_cpu = is.same_cpu;
          size = length-set news k done ∙ is.size;
          rest = drop-set-lt (k + 1) news k done (omega arith) ∙ (sym (drop-drop 1 k news) ∙ (ap (drop 1) is.rest ∙ drop-drop 1 k olds));
          events = is.events ++ mine;
          run = subst (so_far (take (k + 1) olds)) (sym (take_more_set news k done (omega (arith, is.size))))
              (subst (λ os. so_far os (take k news ++ done ∷ [])) (sym (take_more olds k job inside))
              (one_more (Chain passes serves cpu) (λ w. may_wear w cpu) (shapes x) programs x y z (take k olds) (take k news)
              (get_or olds k job) done is.events mine is.run there));
          served = own.way.serves_same ∙ is.served;
          runs = keeps.runs ∙ is.runs;
          shaped = keeps.shape ∙ is.shaped;
        }
