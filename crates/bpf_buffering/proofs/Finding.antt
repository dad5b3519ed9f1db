-- The job that a CPU has in hand, and its lowest that waits, in the list of jobs.
use Rattle.std.proofs.Common.{◌≡◌, ℕ, ◌+◌, ◌<◌, ◌≤◌, Bool, true, false, ◌==◌, ◌&&◌, List, Option, Some, None, inl, inr, length, refl, sym}
use Rattle.std.proofs.Common.{ap, ◌∙◌, arith, eq-eqb}
use Rattle.std.specs.Prelude.{slice_get, option_map}
use Rattle.std.proofs.lemmas.Bool.{and_parts, cases_lt}
use Rattle.std.proofs.lemmas.Bool.Decides.{nat_tests}
use Rattle.std.proofs.lemmas.Option.{slice_get-map, slice_get_within}
use Rattle.bpf_cpu.specs.declared.input.Input.{Input}
use Rattle.bpf_cpu.specs.Task.{Stage, Task, Waiting, InHand, Ended}
use Rattle.bpf_machine.specs.declared.machine.parts.KeptStage.{KeptStage}
use Rattle.bpf_machine.specs.declared.machine.parts.KeptStage.TheVariants as kept
use Rattle.bpf_machine.specs.Kept.{kept_stage}
use Rattle.bpf_machine.specs.Hands.{IsAt, IsFree, NoneWaitsBelow, NoneWaits}
use Rattle.bpf_machine.specs.Work.{HasInHand}
use Rattle.bpf_buffering.specs.declared.jobs.Listed.{Listed}
use Rattle.bpf_buffering.specs.Jobs.{task_of, tasks_of, in_hand, waits, held_by, waits_for, IsLowest}

same_number : (m n : ℕ) → (m == n) ≡ true → m ≡ n
same_number m n e = grind (arith, nat_tests)

both : (a b : Bool) → a ≡ true → b ≡ true → (a && b) ≡ true
both a b p q = ap (λ (x : Bool). x && b) p ∙ q

-- none of the first passes the test, nor does the next
pub more_none : (jobs : List Listed) (test : Listed → Bool) (j : ℕ) (x : Listed) → slice_get jobs j ≡ Some x → test x ≡ false →
    ((k : ℕ) (y : Listed) → k < j → slice_get jobs k ≡ Some y → test y ≡ false)
    → (k : ℕ) (y : Listed) → k < j + 1 → slice_get jobs k ≡ Some y → test y ≡ false
more_none jobs test j x here fails before k y less at = elim (cases_lt k j) [
  | inl under ↦ before k y under at
  | inr past ↦
      let e : k ≡ j = omega arith in
      let two : Some x ≡ Some y = sym here ∙ ap (λ (n : ℕ). slice_get jobs n) (sym e) ∙ at in
      let same : x ≡ y = cc in
      ap test (sym same) ∙ fails
]

-- the task at a place, and the entry
pub task_at : (jobs : List Listed) (j : ℕ) (task : Task) → slice_get (tasks_of jobs) j ≡ Some task → (x : Listed) ×
    (slice_get jobs j ≡ Some x) × (task_of x ≡ task)
task_at jobs j task is = from (slice_get jobs j) refl (sym (slice_get-map task_of jobs j) ∙ is)
  where
    from : (o : Option Listed) → slice_get jobs j ≡ o → option_map task_of o ≡ Some task → (x : Listed) × (slice_get jobs j ≡ Some x) × (task_of x ≡ task)
    from (Some x) e shown = (x, e, (let two : Some (task_of x) ≡ Some task = shown in cc))
    from None e shown = let no : None ≡ Some task = shown in cc

pub entry_at : (jobs : List Listed) (j : ℕ) (x : Listed) → slice_get jobs j ≡ Some x → slice_get (tasks_of jobs) j ≡ Some (task_of x)
entry_at jobs j x is = slice_get-map task_of jobs j ∙ ap (option_map task_of) is

pub found_hand : (jobs : List Listed) (c j : ℕ) (x : Listed) → slice_get jobs j ≡ Some x → held_by c x ≡ true → HasInHand (tasks_of jobs) c j
found_hand jobs c j x at is = from (kept_stage x.stage) refl (and_parts (x.cpu == c) (in_hand (kept_stage x.stage)) is).1
  where
    of : x.cpu ≡ c
    of = same_number x.cpu c (and_parts (x.cpu == c) (in_hand (kept_stage x.stage)) is).0

    from : (s : Stage) → kept_stage x.stage ≡ s → in_hand s ≡ true → HasInHand (tasks_of jobs) c j
    from (InHand state left) e so = (task_of x, state, left, record { listed = entry_at jobs j x at; of = of; at = e })
    from (Waiting input) e so = let no : false ≡ true = so in cc
    from (Ended end) e so = let no : false ≡ true = so in cc

pub found_waiting : (jobs : List Listed) (c j : ℕ) (x : Listed) → slice_get jobs j ≡ Some x → waits_for c x ≡ true
    → ((k : ℕ) (y : Listed) → k < j → slice_get jobs k ≡ Some y → waits_for c y ≡ false) → IsLowest (tasks_of jobs) c j
found_waiting jobs c j x at is before = (from (kept_stage x.stage) refl (and_parts (x.cpu == c) (waits (kept_stage x.stage)) is).1, below)
  where
    of : x.cpu ≡ c
    of = same_number x.cpu c (and_parts (x.cpu == c) (waits (kept_stage x.stage)) is).0

    from : (s : Stage) → kept_stage x.stage ≡ s → waits s ≡ true → (task : Task) × (input : Input) × IsAt (tasks_of jobs) c j task (Waiting input)
    from (Waiting input) e so = (task_of x, input, record { listed = entry_at jobs j x at; of = of; at = e })
    from (InHand state left) e so = let no : false ≡ true = so in cc
    from (Ended end) e so = let no : false ≡ true = so in cc

    below : NoneWaitsBelow (tasks_of jobs) c j
    below k task input less there =
        let y = task_at jobs k task there.listed in
        let no : false ≡ true = sym (before k y.0 less y.1) ∙ both (y.0.cpu == c) (waits (kept_stage y.0.stage))
        (eq-eqb y.0.cpu c (ap (λ (t : Task). t.cpu) y.2 ∙ there.of)) (ap waits (ap (λ (t : Task). t.stage) y.2 ∙ there.at)) in cc

pub none_in_hand : (jobs : List Listed) (c n : ℕ) → length jobs ≤ n →
    ((k : ℕ) (y : Listed) → k < n → slice_get jobs k ≡ Some y → held_by c y ≡ false) → IsFree (tasks_of jobs) c
none_in_hand jobs c n past none j task state left there =
    let y = task_at jobs j task there.listed in
    let inside : j < length jobs = slice_get_within jobs j y.0 y.1 in
    let no : false ≡ true = sym (none j y.0 (omega arith) y.1) ∙ both (y.0.cpu == c) (in_hand (kept_stage y.0.stage))
    (eq-eqb y.0.cpu c (ap (λ (t : Task). t.cpu) y.2 ∙ there.of)) (ap in_hand (ap (λ (t : Task). t.stage) y.2 ∙ there.at)) in cc

pub none_waiting : (jobs : List Listed) (c n : ℕ) → length jobs ≤ n →
    ((k : ℕ) (y : Listed) → k < n → slice_get jobs k ≡ Some y → waits_for c y ≡ false) → NoneWaits (tasks_of jobs) c
none_waiting jobs c n past none j task input there =
    let y = task_at jobs j task there.listed in
    let inside : j < length jobs = slice_get_within jobs j y.0 y.1 in
    let no : false ≡ true = sym (none j y.0 (omega arith) y.1) ∙ both (y.0.cpu == c) (waits (kept_stage y.0.stage))
    (eq-eqb y.0.cpu c (ap (λ (t : Task). t.cpu) y.2 ∙ there.of)) (ap waits (ap (λ (t : Task). t.stage) y.2 ∙ there.at)) in cc

pub kept_waits : (s : KeptStage) → waits (kept_stage s) ≡ true → (input : Input) × (s ≡ kept.Waiting input)
kept_waits (kept.Waiting input) so = (input, refl)
kept_waits (kept.InHand state left) so = let no : false ≡ true = so in cc
kept_waits (kept.Ended end) so = let no : false ≡ true = so in cc
