-- A CPU's turn and its turns that no store sees are the run of a schedule of that CPU alone.
use Rattle.std.proofs.Common.{◌≡◌, ◌∙◌, ℕ, zero, suc, List, ◌∷◌, replicate, Some, None, inl, inr, refl, sym, ap, subst}
use Rattle.std.specs.Prelude.{slice_get, slice_set}
use Rattle.bpf_base.proofs.Lists.{slice_get-set_known, slice_get-set_other, set_twice}
use Rattle.bpf_shared.proofs.Puts.{equal_or_not}
use Rattle.bpf_loader.specs.Loaded.{Loaded}
use Rattle.bpf_cpu.specs.declared.cpu.Cpu.{Cpu}
use Rattle.bpf_cpu.specs.Task.{Stage, Task, InHand}
use Rattle.bpf_machine.specs.declared.machine.Turn.{Turn}
use Rattle.bpf_machine.specs.declared.machine.Turn.TheVariants as turn
use Rattle.bpf_machine.specs.declared.machine.ahead.Headway.{Headway}
use Rattle.bpf_machine.specs.declared.machine.ahead.Headway.TheVariants.{Idle, Turns}
use Rattle.bpf_machine.specs.Hands.{IsAt, with_stage}
use Rattle.bpf_machine.specs.Schedule.{World, TakesTurn, RunsSchedule}
use Rattle.bpf_machine.specs.Machine.{MachineState, Shows}
use Rattle.bpf_machine.specs.Headways.{TakesQuietTurns, RunsAhead, turns_in, with_jobs}
use Rattle.bpf_machine.proofs.AheadLaws.{equal_lists}
use Rattle.bpf_machine.proofs.LengthLaws.{Runs}

set_same : (jobs : List Task) (j : ℕ) (task : Task) → slice_get jobs j ≡ Some task → slice_set jobs j task ≡ jobs
set_same jobs j task at = equal_lists (slice_set jobs j task) jobs (λ k. elim (equal_or_not k j) [
  | inl e ↦ subst (λ (i : ℕ). slice_get (slice_set jobs j task) i ≡ slice_get jobs i) (sym e) (slice_get-set_known jobs j task task at ∙ sym at)
  | inr apart ↦ slice_get-set_other jobs j k task apart
])

pub quiet_runs : (n : ℕ) (w : World) (c j : ℕ) (task : Task) (state : Cpu) (left : ℕ) (program : Loaded) (later : Cpu) (rest : ℕ) → IsAt
    w.jobs c j task (InHand state left) → slice_get w.programs task.program ≡ Some program
    → TakesQuietTurns program c n state left later rest → RunsSchedule w (replicate n c) (with_jobs w (with_stage w.jobs j task (InHand later rest)))
quiet_runs zero w c j task state left program later rest at loaded made =
    let stage : InHand later rest ≡ task.stage = ap (λ (x : Cpu). InHand x rest) made.0 ∙ (ap (λ (k : ℕ). InHand state k) made.1 ∙ sym at.at) in
    ap (with_jobs w) (ap (λ (s : Stage). with_stage w.jobs j task s) stage ∙ set_same w.jobs j task at.listed)
quiet_runs (suc n) w c j task state left program later rest at loaded (mid, more, steps, made) =
    let now : Stage = InHand mid more in
    let one : Task = record task { stage = now } in
    let v : World = with_jobs w (with_stage w.jobs j task now) in
    let there : IsAt v.jobs c j one now = record { listed = slice_get-set_known w.jobs j one task at.listed; of = at.of; at = refl } in
    let first : TakesTurn w c turn.Ran v = inl (j, task, state, left, at, (program, None, w.store, mid, more, loaded, steps w.store, (refl, refl))) in
    let last = quiet_runs n v c j one mid more program later rest there loaded made in
    let both : with_stage v.jobs j one (InHand later rest) ≡ with_stage w.jobs j task (InHand later rest) = set_twice w.jobs j one
    (record task { stage = InHand later rest }) in
    (turn.Ran, v, first, subst (λ (ts : List Task). RunsSchedule v (replicate n c) (with_jobs w ts)) both last)

ahead_runs : (mid new : MachineState) (c : ℕ) (h : Headway) → RunsAhead mid c h new → Runs mid (replicate (turns_in h) c) new
ahead_runs mid new c Idle ran w shows = (w, refl, subst (λ (x : MachineState). Shows x w) (sym ran.0) shows)
ahead_runs mid new c (Turns n) (inl ran) w shows =
    (w, subst (λ (k : ℕ). RunsSchedule w (replicate k c) w) (sym ran.1) refl, subst (λ (x : MachineState). Shows x w) (sym ran.0) shows)
ahead_runs mid new c (Turns n) (inr (j, goes, one)) w shows =
    let task = goes.0 in
    let now : Stage = InHand goes.4 goes.5 in
    let z : World = with_jobs w (with_stage w.jobs j task now) in
    let at : IsAt w.jobs c j task (InHand goes.1 goes.2) = subst (λ (ts : List Task). IsAt ts c j task (InHand goes.1 goes.2)) (sym shows.jobs) goes.6 in
    let loaded : slice_get w.programs task.program ≡ Some goes.3 = ap (λ (ps : List Loaded). slice_get ps task.program) shows.programs ∙ goes.7 in (
      z,
      quiet_runs n w c j task goes.1 goes.2 goes.3 goes.4 goes.5 at loaded goes.8,
      subst (λ (x : MachineState). Shows x z) (sym goes.9) (record {
        store = shows.store;
        sound = shows.sound;
        programs = shows.programs;
        jobs = ap (λ (ts : List Task). with_stage ts j task now)
            shows.jobs;
        lists = shows.lists;
      }),
    )

pub ran_runs : (old mid new : MachineState) (c : ℕ) (answer : Turn) (h : Headway) →
    ((w : World) → Shows old w → (z : World) × TakesTurn w c answer z × Shows mid z) → RunsAhead mid c h new → Runs old
    (c ∷ replicate (turns_in h) c) new
ran_runs old mid new c answer h turn ahead w shows =
    let t = turn w shows in
    let r = ahead_runs mid new c h ahead t.0 t.2 in
    (r.0, (answer, t.0, t.1, r.1), r.2)
