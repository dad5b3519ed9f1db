-- How the outcomes of one CPU's jobs get to their places.
use Rattle.std.proofs.Common.{◌≡◌, ◌≢◌, ℕ, ◌+◌, ◌<◌, ◌==◌, Bool, true, false, List, [], ◌∷◌, ◌++◌, ap, sym, ◌∙◌, length, map, take, set, get_or, cond, arith}
use Rattle.std.proofs.lemmas.List.{append-nil, get_or-map, length-map, map-append, length-set, take_more}
use Rattle.std.proofs.lemmas.List.Filters.{length-filter_more}
use Rattle.std.proofs.lemmas.Bool.Decides.{nat_tests}
use Rattle.bpf_cpu.specs.declared.job.Job.{Job}
use Rattle.bpf_cpu.specs.declared.outcome.Outcome.{Outcome}
use Rattle.bpf_cpu.specs.declared.outcome.Outcome.TheVariants.{OutOfBudget}
use Rattle.bpf_cpu.specs.Task.{Task, waiting}
use Rattle.bpf_sched.specs.declared.assignment.Assignment.{Assignment}
use Rattle.bpf_sched.specs.Explained.{jobs_of, ends_of}
use Rattle.bpf_sched.specs.Working.{outcome_of}
use Rattle.bpf_sched.proofs.Picking.{picked-set, picked_more, picked_more_set, one_left}

module _ (cpu : ℕ) (jobs : List Job) (work : List Assignment) (first : List Outcome) where
  -- of the first `place` jobs those of the CPU, `done` in number, have their outcomes
  pub record IsNoted (place done : ℕ) (ends : List Outcome) : Type 0 where
    pub room : length ends ≡ length first
    pub count : done ≡ length (jobs_of cpu (take place (map waiting jobs)))
    pub noted : ends_of cpu (take place (map waiting jobs)) (take place ends) ≡ map outcome_of (take done work)
    pub others : (c : ℕ) → c ≢ cpu → ends_of c (map waiting jobs) ends ≡ ends_of c (map waiting jobs) first

  pub moved : (place : ℕ) {done next : ℕ} {ends new : List Outcome} → next ≡ done → new ≡ ends → IsNoted place done ends → IsNoted place next new
  moved place same equal is = rw (same, equal) is

  module _ (place next : ℕ) (ends : List Outcome) (is : IsNoted place next ends) (d : Job) (inside : place < length jobs)
      (room : length first ≡ length jobs) (enough : length work ≡ length (jobs_of cpu (map waiting jobs))) where
    abbrev tasks : List Task
    tasks = map waiting jobs

    abbrev test : ℕ → Task → Bool
    test c task = task.cpu == c

    long : length tasks ≡ length jobs
    long = length-map jobs waiting

    here : (c : ℕ) → test c (get_or tasks place (waiting d)) ≡ ((get_or jobs place d).cpu == c)
    here c = ap (test c) (get_or-map waiting jobs place d (waiting d) inside)

    one : (c : ℕ) → (get_or jobs place d).cpu ≡ c → test c (get_or tasks place (waiting d)) ≡ true
    one c e = here c ∙ grind (arith, nat_tests)

    none_of : (c : ℕ) → (get_or jobs place d).cpu ≢ c → test c (get_or tasks place (waiting d)) ≡ false
    none_of c e = here c ∙ grind (arith, nat_tests)

    -- the CPU has an outcome for a job of its own
    pub has_next : (get_or jobs place d).cpu ≡ cpu → next < length work
    has_next e = let l = one_left (test cpu) tasks place (waiting d) (omega (arith, long)) (one cpu e) in omega (arith, is.count)

    pub noted_one : (e : Assignment) → (get_or jobs place d).cpu ≡ cpu → IsNoted (place + 1) (next + 1) (set ends place (get_or work next e).outcome)
    noted_one e mine =
        let at : place < length (map waiting jobs) = omega (arith, long) in
        record {
          room = length-set ends place (get_or work next e).outcome ∙ is.room;
          count = omega (arith, is.count, length-filter_more (test cpu) tasks place (waiting d) at, ap (λ b. cond {A = ℕ} b 1 0) (one cpu mine));
          noted = picked_more_set (test cpu) tasks ends place (get_or work next e).outcome (waiting d) at (long ∙ sym (is.room ∙ room))
              ∙ ap (λ b. ends_of cpu (take place tasks) (take place ends) ++ cond b ((get_or work next e).outcome ∷ []) []) (one cpu mine)
              ∙ ap (λ (l : List Outcome). l ++ (get_or work next e).outcome ∷ []) is.noted
              ∙ sym (ap (map outcome_of) (take_more work next e (has_next mine)) ∙ map-append outcome_of (take next work) (get_or work next e ∷ []));
          others = λ c other. picked-set (test c) tasks ends place (get_or work next e).outcome (waiting d) at (long ∙ sym (is.room ∙ room))
              (none_of c (λ same. other (sym same ∙ mine))) ∙ is.others c other;
        }

    pub noted_none : (get_or jobs place d).cpu ≢ cpu → IsNoted (place + 1) next ends
    noted_none foreign =
        let at : place < length (map waiting jobs) = omega (arith, long) in
        record {
          room = is.room;
          count = omega (arith, is.count, length-filter_more (test cpu) tasks place (waiting d) at, ap (λ b. cond {A = ℕ} b 1 0) (none_of cpu foreign));
          noted = picked_more (test cpu) tasks ends place (OutOfBudget 0) (waiting d) at (long ∙ sym (is.room ∙ room))
              ∙ ap (λ b. ends_of cpu (take place tasks) (take place ends) ++ cond b (get_or ends place (OutOfBudget 0) ∷ []) []) (none_of cpu foreign)
              ∙ append-nil (ends_of cpu (take place tasks) (take place ends))
              ∙ is.noted;
          others = is.others;
        }
