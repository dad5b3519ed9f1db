-- After a turn from a machine in which each job in hand has its whole budget left, so has each again
-- once the CPU's has its own back.
use Rattle.std.proofs.Common.{◌≡◌, ◌≢◌, ◌∙◌, ℕ, zero, suc, ◌+◌, ◌≤◌, ◌⊎◌, List, [], Option, Some, None, inl, inr, sym, ap, subst, arith}
use Rattle.std.specs.Prelude.{slice_get}
use Rattle.bpf_base.proofs.Lists.{slice_get-set_known}
use Rattle.bpf_shared.specs.Shape.{without_arrays}
use Rattle.bpf_shared.specs.Store.{Plain, as_made}
use Rattle.bpf_loader.specs.Loaded.{Loaded}
use Rattle.bpf_cpu.specs.declared.cpu.Cpu.{Cpu}
use Rattle.bpf_cpu.specs.declared.outcome.Outcome.{Outcome}
use Rattle.bpf_cpu.specs.State.{start}
use Rattle.bpf_cpu.specs.Task.{Stage, Task, Waiting, InHand, Ended}
use Rattle.bpf_machine.specs.declared.machine.Turn.{Turn}
use Rattle.bpf_machine.specs.declared.machine.ahead.Headway.{Headway}
use Rattle.bpf_machine.specs.declared.machine.ahead.Headway.TheVariants.{Idle, Turns}
use Rattle.bpf_machine.specs.Cover.{TurnsAhead}
use Rattle.bpf_machine.specs.Hands.{IsAt, with_stage}
use Rattle.bpf_machine.specs.Headways.{TakesQuietTurns, RunsAhead}
use Rattle.bpf_machine.specs.Machine.{MachineState, Shows}
use Rattle.bpf_machine.specs.Patient.{IsRefilled, AreRefilled}
use Rattle.bpf_machine.specs.Schedule.{World, Advances, Settles, GoesOn, TakesTurn}
use Rattle.bpf_machine.specs.Work.{HasInHand}
use Rattle.bpf_machine.proofs.DeterminedTurns.{Changed, Same, Other, changed}
use Rattle.bpf_machine.proofs.ListLaws.{with_end, lists_jobs}

-- ---- while a CPU makes turns
-- no job in hand has more than its budget left, and one of another CPU has all of it
abbrev Spent : List Task → ℕ → Type 0
Spent jobs c = (d j : ℕ) (task : Task) (state : Cpu) (left : ℕ) → IsAt jobs d j task (InHand state left) → (left ≤ task.budget) ×
    ((d ≡ c) ⊎ (left ≡ task.budget))

-- the CPU has at most one job in hand
abbrev HasOne : List Task → ℕ → Type 0
HasOne jobs c = (j k : ℕ) → HasInHand jobs c j → HasInHand jobs c k → j ≡ k

set_budget : (jobs : List Task) (j k : ℕ) (task other : Task) (stage : Stage) → slice_get jobs j ≡ Some task → k ≡ j → slice_get
    (with_stage jobs j task stage) k ≡ Some other → other.budget ≡ task.budget
set_budget jobs j k task other stage at e there =
    let new : Task = record task { stage = stage } in
    let two : Some new ≡ Some other = sym (slice_get-set_known jobs j new task at) ∙ subst
    (λ (n : ℕ). slice_get (with_stage jobs j task stage) n ≡ Some other) e there in
    let one : new ≡ other = cc in
    ap (λ (t : Task). t.budget) (sym one)

-- its job is in another stage
set_spent : (jobs : List Task) (c j : ℕ) (task : Task) (before now : Stage) → IsAt jobs c j task before →
    ((state : Cpu) (left : ℕ) → InHand state left ≡ now → left ≤ task.budget) → Spent jobs c → Spent (with_stage jobs j task now) c
set_spent jobs c j task before now at fits spent d k other state left there = go (changed jobs c j task before now d k other (InHand state left) at there)
  where
    go : Changed jobs c j now d k other (InHand state left) → (left ≤ other.budget) × ((d ≡ c) ⊎ (left ≡ other.budget))
    go (Same e of is) =
        let budget = set_budget jobs j k task other now at.listed e there.listed in
        let few = fits state left is in
        (omega arith, inl of)
    go (Other ne was) = spent d k other state left was

set_as : (jobs news : List Task) (c : ℕ) → news ≡ jobs → Spent jobs c → Spent news c
set_as jobs news c same spent = subst (λ (ts : List Task). Spent ts c) (sym same) spent

same_left : (state other : Cpu) (left rest most : ℕ) → InHand state left ≡ InHand other rest → rest ≤ most → left ≤ most
same_left state other left rest most e few = let lefts : left ≡ rest = cc in omega arith

-- no step gives steps
advances_less : (program : Loaded) (c : ℕ) (s : Plain) (old : Cpu) (left : ℕ) (end : Option Outcome) (t : Plain) (new : Cpu) (rest : ℕ) →
    Advances program c s old left end t new rest → rest ≤ left
advances_less program c s old zero end t new rest made = let none : rest ≡ 0 = made.3 in omega arith
advances_less program c s old (suc n) end t new rest made = let one : rest ≡ n = made.5 in omega arith

module _ (w : World) (c j : ℕ) (task : Task) (before : Stage) (at : IsAt w.jobs c j task before) (spent : Spent w.jobs c) where
  settles_spent : (s : Plain) (new : Cpu) (rest : ℕ) (end : Option Outcome) (answer : Turn) (z : World) → rest ≤ task.budget → Settles
      (record w { store = s }) c j task new rest end answer z → Spent z.jobs c
  settles_spent s new rest None answer z few settles =
      set_as (with_stage w.jobs j task (InHand new rest)) z.jobs c (ap (λ (x : World). x.jobs) settles.1)
      (set_spent w.jobs c j task before (InHand new rest) at (λ state left e. same_left state new left rest task.budget e few) spent)
  settles_spent s new rest (Some end) answer z few settles =
      set_as (with_stage w.jobs j task (Ended end)) z.jobs c (lists_jobs (with_end w j task end settles.0) c z settles.3)
      (set_spent w.jobs c j task before (Ended end) at (λ state left e. cc) spent)

goes_spent : (w : World) (c j : ℕ) (task : Task) (before : Stage) (state : Cpu) (left : ℕ) (answer : Turn) (z : World) → IsAt w.jobs c j
    task before → Spent w.jobs c → left ≤ task.budget → GoesOn w c j task state left answer z → Spent z.jobs c
goes_spent w c j task before state left answer z at spent few g =
    let less = advances_less g.0 c w.store state left g.1 g.2 g.3 g.4 g.6 in
    settles_spent w c j task before at spent g.2 g.3 g.4 g.1 answer z (omega arith) g.7

whole_spent : (jobs : List Task) (c : ℕ) → AreRefilled jobs → Spent jobs c
whole_spent jobs c whole d j task state left at = let all = whole d j task state left at in (omega arith, inr all)

turn_spent : (w : World) (c : ℕ) (answer : Turn) (z : World) → AreRefilled w.jobs → TakesTurn w c answer z → Spent z.jobs c
turn_spent w c answer z whole (inl (j, task, state, left, at, goes)) =
    let spent = whole_spent w.jobs c whole in
    goes_spent w c j task (InHand state left) state left answer z at spent (spent c j task state left at).0 goes
turn_spent w c answer z whole (inr (inl (free, (j, task, input, s, at, none, begins, goes)))) =
    goes_spent (record w { store = s }) c j task (Waiting input) (start c input) task.budget answer z at (whole_spent w.jobs c whole) (omega arith) goes
turn_spent w c answer z whole (inr (inr (free, none, is, same))) = set_as w.jobs z.jobs c (ap (λ (x : World). x.jobs) same) (whole_spent w.jobs c whole)

-- ---- turns that no store sees
any_store : Plain
any_store = as_made (without_arrays 0 [])

quiet_less : (n : ℕ) (program : Loaded) (c : ℕ) (old new : Cpu) (left rest : ℕ) → TakesQuietTurns program c n old left new rest → rest ≤ left
quiet_less zero program c old new left rest made = let same : rest ≡ left = made.1 in omega arith
quiet_less (suc n) program c old new left rest (mid, more, steps, made) =
    let first = advances_less program c any_store old left None any_store mid more (steps any_store) in
    let last = quiet_less n program c mid new more rest made in
    omega arith

ahead_spent : (old new : MachineState) (c : ℕ) (h : Headway) → Spent old.jobs c → RunsAhead old c h new → Spent new.jobs c × HasOne new.jobs c
ahead_spent old new c Idle spent (same, free, none) =
    let jobs : new.jobs ≡ old.jobs = ap (λ (m : MachineState). m.jobs) same in
    (set_as old.jobs new.jobs c jobs spent, subst (λ (ts : List Task). HasOne ts c) (sym jobs) (λ j k here there. absurd (free j here.0 here.1 here.2 here.3)))
ahead_spent old new c (Turns n) spent (inl (same, zeros, (i, next))) =
    let jobs : new.jobs ≡ old.jobs = ap (λ (m : MachineState). m.jobs) same in (
      set_as old.jobs new.jobs c jobs spent,
      subst (λ (ts : List Task). HasOne ts c) (sym jobs)
          (λ j k here there. absurd (next.0 j here.0 here.1 here.2 here.3)),
    )
ahead_spent old new c (Turns n) spent (inr (i, goes, one)) =
    let task = goes.0 in
    let later = goes.4 in
    let rest = goes.5 in
    let few = (spent c i task goes.1 goes.2 goes.6).0 in
    let less = quiet_less n goes.3 c goes.1 later goes.2 rest goes.8 in
    let fits : rest ≤ task.budget = omega arith in
    let set = set_spent old.jobs c i task (InHand goes.1 goes.2) (InHand later rest) goes.6
    (λ state left e. same_left state later left rest task.budget e fits) spent in (
      set_as (with_stage old.jobs i task (InHand later rest)) new.jobs c (ap (λ (m : MachineState). m.jobs) goes.9) set,
      λ j k here there.
          one j here ∙ sym (one k there),
    )

-- ---- the job in hand has its whole budget back
refill_whole : (old new : MachineState) (c : ℕ) → Spent old.jobs c → HasOne old.jobs c → IsRefilled old c new → AreRefilled new.jobs
refill_whole old new c spent one (inl (free, same)) d j task state left at =
    let jobs : new.jobs ≡ old.jobs = ap (λ (m : MachineState). m.jobs) same in
    let there = subst (λ (ts : List Task). IsAt ts d j task (InHand state left)) jobs at in
    elim (spent d j task state left there).1 [
      | inl own ↦ absurd (free j task state left (subst (λ (b : ℕ). IsAt old.jobs b j task (InHand state left)) own there))
      | inr whole ↦ whole
    ]
refill_whole old new c spent one (inr (i, (own, cpu, had, more, here, exact, same))) d j task state left at = go
    (changed old.jobs c i own (InHand cpu had) (InHand cpu (had + more)) d j task (InHand state left) here there)
  where
    there : IsAt (with_stage old.jobs i own (InHand cpu (had + more))) d j task (InHand state left)
    there = subst (λ (m : MachineState). IsAt m.jobs d j task (InHand state left)) same at

    other : (j ≢ i) → IsAt old.jobs d j task (InHand state left) → left ≡ task.budget
    other ne was = elim (spent d j task state left was).1 [
      | inl of ↦ absurd (ne (one j i (task, state, left, subst (λ (b : ℕ). IsAt old.jobs b j task (InHand state left)) of was) (own, cpu, had, here)))
      | inr whole ↦ whole
    ]

    go : Changed old.jobs c i (InHand cpu (had + more)) d j task (InHand state left) → left ≡ task.budget
    go (Same e of is) =
        let lefts : left ≡ had + more = cc in
        let few = (spent c i own cpu had here).0 in
        let budget = set_budget old.jobs i j own task (InHand cpu (had + more)) here.listed e there.listed in
        omega arith
    go (Other ne was) = other ne was

-- after a turn from a machine in which each has its own
pub turn_whole : (restored after refilled : MachineState) (c made : ℕ) (w : World) → Shows restored w → AreRefilled restored.jobs →
    TurnsAhead restored c made after → IsRefilled after c refilled → AreRefilled refilled.jobs
turn_whole restored after refilled c made w shows whole (answer, mid, headway, turns, ahead, count) refills =
    let r = turns w shows in
    let spent = turn_spent w c answer r.0 (subst AreRefilled (sym shows.jobs) whole) r.1 in
    let both = ahead_spent mid after c headway (subst (λ (ts : List Task). Spent ts c) r.2.jobs spent) ahead in
    refill_whole after refilled c both.0 both.1 refills
