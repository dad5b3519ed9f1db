-- A turn of a CPU, from what it is to do and what doing it changes.
use Rattle.std.proofs.Common.{ℕ, ◌+◌, ◌<◌, ◌≤◌, List, [], ◌∷◌, ◌++◌, length, take, get_or, Option, Some, None, inl, inr, refl, sym, ap, subst, ◌∙◌}
use Rattle.std.proofs.lemmas.List.{take_more, take_all}
use Rattle.bpf_cpu.specs.declared.cpu.Cpu.{Cpu}
use Rattle.bpf_cpu.specs.declared.outcome.Outcome.{Outcome}
use Rattle.bpf_machine.specs.declared.machine.Turn.{Turn}
use Rattle.bpf_machine.specs.declared.machine.Turn.TheVariants.{Idle}
use Rattle.bpf_cpu.specs.State.{start}
use Rattle.bpf_cpu.specs.Task.{Stage, Task, InHand, Waiting, Ended}
use Rattle.bpf_machine.specs.Hands.{IsAt, IsFree, NoneWaits, NoneWaitsBelow, with_stage}
use Rattle.bpf_machine.specs.Schedule.{World, Lists, Settles, GoesOn, TakesTurn, RunsSchedule}
use Rattle.bpf_machine.specs.Listings.{listing_at}
use Rattle.bpf_machine.specs.Machine.{MachineState, Shows}
use Rattle.bpf_machine.specs.Work.{HasInHand, IsNext, BeginsJob, Proceeds}
use Rattle.bpf_base.proofs.Lists.{slice_get-set_known, set_twice}

-- the job that was begun is in hand
pub begun_at : (jobs : List Task) (c j : ℕ) (task : Task) (was now : Stage) → IsAt jobs c j task was → IsAt (with_stage jobs j task now) c j
    (record task { stage = now }) now
begun_at jobs c j task was now at = record { listed = slice_get-set_known jobs j (record task { stage = now }) task at.listed; of = at.of; at = refl }

begun_now : (old new : MachineState) (c j : ℕ) (begins : BeginsJob old c j new)
    → IsAt new.jobs c j (record begins.0 { stage = InHand (start c begins.1) begins.0.budget }) (InHand (start c begins.1) begins.0.budget)
begun_now old new c j begins =
    let now : Stage = InHand (start c begins.1) begins.0.budget in
    let P : List Task → Type 0 = λ jobs. IsAt jobs c j (record begins.0 { stage = now }) now in
    subst P (sym begins.4) (begun_at old.jobs c j begins.0 (Waiting begins.1) now begins.2)

pub begun_in_hand : (old new : MachineState) (c j : ℕ) → BeginsJob old c j new → HasInHand new.jobs c j
begun_in_hand old new c j begins =
    (record begins.0 { stage = InHand (start c begins.1) begins.0.budget }, start c begins.1, begins.0.budget, begun_now old new c j begins)

-- a job's stage is overwritten
settles_over : (w : World) (c j : ℕ) (task : Task) (stage : Stage) (new : Cpu) (left : ℕ) (end : Option Outcome) (answer : Turn) (z : World)
    → Settles (record w { jobs = with_stage w.jobs j task stage }) c j (record task { stage = stage }) new left end answer z → Settles w c j
    task new left end answer z
settles_over w c j task stage new left None answer z settles = (
  settles.0,
  settles.1 ∙ ap (λ (ts : List Task). record w { jobs = ts })
      (set_twice w.jobs j (record task { stage = stage }) (record task { stage = InHand new left })),
)
settles_over w c j task stage new left (Some end) answer z settles =
    let P : List Task → Type 0 = λ ts. Lists (record w { store = settles.0; jobs = ts }) c z in
    (settles.0, settles.1, settles.2, subst P (set_twice w.jobs j (record task { stage = stage }) (record task { stage = Ended end })) settles.3)

pub turn_in_hand : (old new : MachineState) (c j : ℕ) (answer : Turn) → HasInHand old.jobs c j → Proceeds old c j answer new
    → (w : World) → Shows old w → (z : World) × TakesTurn w c answer z × Shows new z
turn_in_hand old new c j answer has proceeds w shows =
    let r = proceeds has.0 has.1 has.2 has.3 w shows in
    let P : List Task → Type 0 = λ jobs. IsAt jobs c j has.0 (InHand has.1 has.2) in
    (r.0, inl (j, has.0, has.1, has.2, subst P (sym shows.jobs) has.3, r.1), r.2)

pub turn_begins : (old mid new : MachineState) (c j : ℕ) (answer : Turn) → IsNext old.jobs c j → BeginsJob old c j mid → Proceeds mid c j answer new
    → (w : World) → Shows old w → (z : World) × TakesTurn w c answer z × Shows new z
turn_begins old mid new c j answer next begins proceeds w shows =
    let task = begins.0 in
    let state : Cpu = start c begins.1 in
    let now : Stage = InHand state task.budget in
    let run = begins.5 w.store shows.sound shows.store in
    let begun : World = record w { store = run.0 } in
    let there : World = record begun { jobs = with_stage w.jobs j task now } in
    let shown : Shows mid there = record {
      store = run.3;
      sound = run.2;
      programs = shows.programs ∙ sym begins.3;
      jobs = ap (λ (ts : List Task). with_stage ts j task now) shows.jobs ∙ sym begins.4;
      lists = shows.lists ∙ ap listing_at (sym begins.6);
    } in
    let r = proceeds (record task { stage = now }) state task.budget (begun_now old mid c j begins) there shown in
    let on = r.1 in
    let P : List Task → Type 0 = λ jobs. IsAt jobs c j task (Waiting begins.1) in
    let F : List Task → Type 0 = λ jobs. IsFree jobs c in
    let B : List Task → Type 0 = λ jobs. NoneWaitsBelow jobs c j in
    let goes : GoesOn begun c j task state task.budget answer r.0 =
    (on.0, on.1, on.2, on.3, on.4, on.5, on.6, settles_over (record begun { store = on.2 }) c j task now on.3 on.4 on.1 answer r.0 on.7)
    in (
      r.0,
      inr (inl (
        subst F (sym shows.jobs) next.0,
        (
          j,
          task,
          begins.1,
          run.0,
          subst P (sym shows.jobs) begins.2,
          subst B (sym shows.jobs)
              next.2,
          run.1,
          goes,
        ),
      )),
      r.2,
    )

pub turn_idle : (old : MachineState) (c : ℕ) → IsFree old.jobs c → NoneWaits old.jobs c → (w : World) → Shows old w → (z : World) ×
    TakesTurn w c Idle z × Shows old z
turn_idle old c free none w shows =
    let F : List Task → Type 0 = λ jobs. IsFree jobs c in
    let N : List Task → Type 0 = λ jobs. NoneWaits jobs c in
    (w, inr (inr (subst F (sym shows.jobs) free, subst N (sym shows.jobs) none, refl, refl)), shows)

-- ---- schedules
pub runs_more : (w : World) (cs : List ℕ) (c : ℕ) (m : World) (answer : Turn) (z : World) → RunsSchedule w cs m → TakesTurn m c answer z →
    RunsSchedule w (cs ++ c ∷ []) z
runs_more w [] c m answer z runs progress = (answer, z, subst (λ (x : World). TakesTurn x c answer z) runs progress, refl)
runs_more w (d ∷ ds) c m answer z runs progress = (runs.0, runs.1, runs.2, runs_more runs.1 ds c m answer z runs.3 progress)

-- the run of a schedule as far as a number of its turns, as machines show it
abbrev pub RunsSo : MachineState → List ℕ → ℕ → MachineState → Type 0
RunsSo old schedule n new = (w : World) → Shows old w → (z : World) × RunsSchedule w (take n schedule) z × Shows new z

pub next_turn : (old mid new : MachineState) (schedule : List ℕ) (n : ℕ) (answer : Turn) → n < length schedule → RunsSo old schedule n mid
    → ((w : World) → Shows mid w → (z : World) × TakesTurn w (get_or schedule n 0) answer z × Shows new z) → RunsSo old schedule (n + 1) new
next_turn old mid new schedule n answer inside runs progress w shows =
    let r = runs w shows in
    let t = progress r.0 r.2 in
    let all = runs_more w (take n schedule) (get_or schedule n 0) r.0 answer t.0 r.1 t.1 in
    (t.0, subst (λ (cs : List ℕ). RunsSchedule w cs t.0) (sym (take_more schedule n 0 inside)) all, t.2)

pub all_turns : (old new : MachineState) (schedule : List ℕ) (n : ℕ) → length schedule ≤ n → RunsSo old schedule n new → (w : World) → Shows
    old w → (z : World) × RunsSchedule w schedule z × Shows new z
all_turns old new schedule n past runs w shows =
    let r = runs w shows in (r.0, subst (λ (cs : List ℕ). RunsSchedule w cs r.0) (take_all n schedule past) r.1, r.2)
