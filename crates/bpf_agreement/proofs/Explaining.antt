-- What explains how the jobs of a CPU ended is a run of each.
use Rattle.std.proofs.Common.{◌≡◌, ◌≢◌, ℕ, suc, ◌+◌, ◌-◌, ◌*◌, ◌^◌, ◌<◌, ◌==◌, Bool, true, false, cond, if◌then◌else◌, List, [], ◌∷◌, ◌++◌}
use Rattle.std.proofs.Common.{length, Some, ◌⊎◌, inl, inr, refl, sym, ap, subst, ◌∙◌, append_assoc, arith, eq-eqb}
use Rattle.std.specs.Prelude.{slice_get}
use Rattle.std.proofs.lemmas.Bool.Decides.{nat_tests}
use Rattle.bpf_shared.specs.declared.events.Event.{Event}
use Rattle.bpf_shared.specs.declared.events.Event.TheVariants.{Begin, End}
use Rattle.bpf_shared.specs.Own.{turns_of}
use Rattle.bpf_shared.proofs.Chains.{turns_of-append}
use Rattle.bpf_cpu.specs.declared.cpu.Cpu.{Cpu}
use Rattle.bpf_cpu.specs.declared.input.Input.{Input}
use Rattle.bpf_cpu.specs.declared.outcome.Fault.TheVariants.{Worn}
use Rattle.bpf_cpu.specs.declared.outcome.Outcome.{Outcome}
use Rattle.bpf_cpu.specs.declared.outcome.Outcome.TheVariants.{Fault}
use Rattle.bpf_cpu.specs.State.{start}
use Rattle.bpf_cpu.specs.Step.{MakesSteps}
use Rattle.bpf_cpu.specs.Task.{Task, Stage, Waiting}
use Rattle.bpf_sched.specs.Explained.{ExplainsJob, ExplainsJobs, IsWorn, ends_of, jobs_of, waiting_input}
use Rattle.bpf_agreement.proofs.Standing.{Given, HasRun, HasRuns}
use Rattle.bpf_agreement.proofs.StepEvents.{steps_inside}

-- the CPU's run counter, which counts two for each job, is far from its end
far : (turns jobs : ℕ) → turns + 2 * jobs < 2 ^ 63 → 0 + turns ≡ 2 ^ 64 - 2 → ⊥
far turns jobs few worn =
    let b : turns + 2 * jobs < 9223372036854775808 = few in
    let w : 0 + turns ≡ 18446744073709551614 = worn in
    omega arith

one_less : (turns jobs : ℕ) → turns + 2 * suc jobs < 2 ^ 63 → turns + 2 + 2 * jobs < 2 ^ 63
one_less turns jobs few =
    let b : turns + 2 * suc jobs < 9223372036854775808 = few in
    let r : turns + 2 + 2 * jobs < 9223372036854775808 = omega arith in
    r

passed : (turns jobs : ℕ) → turns + 2 * suc jobs < 2 ^ 63 → turns + 2 * jobs < 2 ^ 63
passed turns jobs few =
    let b : turns + 2 * suc jobs < 9223372036854775808 = few in
    let r : turns + 2 * jobs < 9223372036854775808 = omega arith in
    r

-- the events of one run
run_turns : (steps : List Event) → turns_of steps ≡ 0 → turns_of (Begin ∷ (steps ++ End ∷ [])) ≡ 2
run_turns steps none =
    let all : turns_of (steps ++ End ∷ []) ≡ turns_of steps + turns_of (End ∷ []) = turns_of-append steps (End ∷ []) in
    let last : turns_of (End ∷ []) ≡ 1 = refl in
    let sum : turns_of (steps ++ End ∷ []) + 1 ≡ 2 = omega (arith, all, none, last) in
    sum

input_of : (stage : Stage) (input : Input) → stage ≡ Waiting input → waiting_input stage ≡ input
input_of stage input is = ap waiting_input is

module _ (g : Given) (c : ℕ) where
  -- each of these jobs waits
  abbrev AreWaiting : List Task → Type 0
  AreWaiting tasks = (k : ℕ) (task : Task) → slice_get tasks k ≡ Some task → (input : Input) × (task.stage ≡ Waiting input)

  abbrev Explain : List Event → List Task → List Outcome → List Event → Type 0
  Explain before tasks ends events = ExplainsJobs g.shape 0 g.programs before tasks ends [] events

  more_turns : (before mine : List Event) (jobs : ℕ) → turns_of mine ≡ 2 → turns_of before + 2 * suc jobs < 2 ^ 63 → turns_of
      (before ++ mine) + 2 * jobs < 2 ^ 63
  more_turns before mine jobs two few =
      let sum : turns_of (before ++ mine) ≡ turns_of before + 2 = turns_of-append before mine ∙ ap (λ (n : ℕ). turns_of before + n) two in
      subst (λ (n : ℕ). n + 2 * jobs < 2 ^ 63) (sym sum) (one_less (turns_of before) jobs few)

  -- a job that is the CPU's: it had its run, since the run counter isn't worn
  own_run : (task : Task) (end : Outcome) (before mine : List Event) (jobs : ℕ) → turns_of before + 2 * suc jobs < 2 ^ 63 → (input : Input)
      → task.stage ≡ Waiting input → ExplainsJob g.shape 0 g.programs task end before mine
      → (rest events : List Event) → events ≡ mine ++ rest → HasRun g task end events rest × (turns_of mine ≡ 2)
  own_run task end before mine jobs few input waits job rest events is = from job.explained
    where
      from : ((steps : List Event) × (last : Cpu) × (mine ≡ Begin ∷ (steps ++ End ∷ [])) × MakesSteps g.shape job.program task.budget
          (start task.cpu (waiting_input task.stage)) steps end last) ⊎ ((mine ≡ []) × (end ≡ Fault Worn 0) × IsWorn 0 before) → HasRun g
          task end events rest × (turns_of mine ≡ 2)
      from (inl (steps, last, made, makes)) = (
        record {
          input = input;
          waits = waits;
          program = job.program;
          loaded = job.listed;
          steps = steps;
          last = last;
          makes = subst (λ (i : Input). MakesSteps g.shape job.program task.budget (start task.cpu i) steps end last) (input_of task.stage input waits) makes;
          is = is ∙ ap (λ (es : List Event). es ++ rest) made ∙ ap (λ (es : List Event). Begin ∷ es) (append_assoc steps (End ∷ []) rest);
        },
        ap turns_of made ∙ run_turns steps (steps_inside g.shape job.program task.budget (start task.cpu (waiting_input task.stage)) steps end last makes),
      )
      from (inr worn) = absurd (far (turns_of before) (suc jobs) few worn.2)

  -- one job and what is so of the others
  one : (task : Task) (tasks : List Task) (end : Outcome) (ends : List Outcome) (before events : List Event) →
      ((input : Input) × (task.stage ≡ Waiting input)) → turns_of before + 2 * suc (length tasks) < 2 ^ 63
      → ((so_far later : List Event) → turns_of so_far + 2 * length tasks < 2 ^ 63 → Explain so_far (jobs_of c tasks) (ends_of c tasks ends)
      later → HasRuns g c tasks ends later)
      → (b : Bool) → (task.cpu == c) ≡ b → Explain before (cond b (task ∷ jobs_of c tasks) (jobs_of c tasks))
      (if b then end ∷ ends_of c tasks ends else ends_of c tasks ends) events → HasRuns g c (task ∷ tasks) (end ∷ ends) events
  one task tasks end ends before events (input, waits) few others true its (mine, rest, is, job, more) =
      let of : task.cpu ≡ c = grind (arith, nat_tests) in
      let run = own_run task end before mine (length tasks) few input waits job rest events is in
      inl (of, (rest, run.0, others (before ++ mine) rest (more_turns before mine (length tasks) run.1 few) more))
  one task tasks end ends before events wait few others false other is =
      let ne : task.cpu ≢ c = (λ e. let same : (task.cpu == c) ≡ true = eq-eqb task.cpu c e in cc) in
      inr (ne, others before events (passed (turns_of before) (length tasks) few) is)

  pub has_runs : (tasks : List Task) (ends : List Outcome) (before events : List Event) → AreWaiting tasks → length ends ≡ length tasks →
      turns_of before + 2 * length tasks < 2 ^ 63
      → Explain before (jobs_of c tasks) (ends_of c tasks ends) events → HasRuns g c tasks ends events
  has_runs [] [] before events wait sizes few is = is
  has_runs [] (end ∷ ends) before events wait sizes few is = absurd (let no : suc (length ends) ≡ 0 = sizes in omega arith)
  has_runs (task ∷ tasks) [] before events wait sizes few is = absurd (let no : 0 ≡ suc (length tasks) = sizes in omega arith)
  has_runs (task ∷ tasks) (end ∷ ends) before events wait sizes few is =
      one task tasks end ends before events (wait 0 task refl) few
      (λ so_far later few' is'. has_runs tasks ends so_far later (λ k t at. wait (suc k) t at) (one_size (length ends) (length tasks) sizes)
      few' is') (task.cpu == c) refl is
    where
      one_size : (m n : ℕ) → suc m ≡ suc n → m ≡ n
      one_size m n e = omega arith
