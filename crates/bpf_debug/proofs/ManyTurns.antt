-- Turns of one CPU, one after the other, and those of a schedule: how far they have come.
use Rattle.std.proofs.Common.{◌≡◌, ℕ, zero, suc, ◌+◌, ◌*◌, ◌≤◌, List, [], ◌∷◌, ◌++◌, refl, sym, ap, subst, ◌∙◌, arith, append_assoc, replicate}
use Rattle.std.proofs.lemmas.List.{append-nil, replicate-append-replicate}
use Rattle.bpf_cpu.specs.declared.outcome.Outcome.{Outcome}
use Rattle.bpf_cpu.specs.Task.{Task}
use Rattle.bpf_machine.specs.declared.machine.Turn.{Turn}
use Rattle.bpf_machine.specs.declared.machine.Turn.TheVariants as turn
use Rattle.bpf_machine.specs.Schedule.{World, TakesTurn, RunsSchedule, unrolled}
use Rattle.bpf_machine.specs.Machine.{MachineState, Shows}
use Rattle.bpf_machine.specs.Questions.{open_jobs, Falls, TurnsFall}
use Rattle.bpf_debug.specs.Answer.{ended_text}
use Rattle.bpf_debug.specs.Turns.{MakesTurns, MakesRuns}
use Rattle.bpf_debug.proofs.GoLaws.{room_left}

-- ---- they are a schedule
pub both_run : (cs ds : List ℕ) (w m z : World) → RunsSchedule w cs m → RunsSchedule m ds z → RunsSchedule w (cs ++ ds) z
both_run [] ds w m z a b = subst (λ (x : World). RunsSchedule x ds z) a b
both_run (c ∷ cs) ds w m z a b = (a.0, a.1, a.2, both_run cs ds a.1 m z a.3 b)

pub made_runs : (w : World) (c n : ℕ) (text : List ℕ) (z : World) → MakesTurns w c n text z → RunsSchedule w (replicate n c) z
made_runs w c zero text z made = made.1
made_runs w c (suc n) text z made =
    let next : n + 1 ≡ suc n = omega arith in
    let more : replicate n c ++ c ∷ [] ≡ replicate (suc n) c = replicate-append-replicate n 1 c ∙ ap (λ (k : ℕ). replicate k c) next in
    subst (λ (cs : List ℕ). RunsSchedule w cs z) more
    (both_run (replicate n c) (c ∷ []) w made.0 z (made_runs w c n made.1 made.0 made.3) (made.2, z, made.4, refl))

-- ---- how far they have come
abbrev pub Made : MachineState → ℕ → List ℕ → MachineState → ℕ → List ℕ → Type 0
Made old c before new n after =
    (w : World) → Shows old w → (z : World) × (text : List ℕ) × MakesTurns w c n text z × Shows new z × (after ≡ before ++ text)

pub none_made : (old : MachineState) (c : ℕ) (before : List ℕ) → Made old c before old 0 before
none_made old c before w shows = (w, [], (refl, refl), shows, sym (append-nil before))

pub one_made : (old new next : MachineState) (c n : ℕ) (before after last : List ℕ) (answer : Turn) → Made old c before new n after
    → ((w : World) → Shows new w → (z : World) × TakesTurn w c answer z × Shows next z) → last ≡ after ++ ended_text c answer
    → Made old c before next (n + 1) last
one_made old new next c n before after last answer made turns put w shows =
    let r = made w shows in
    let t = turns r.0 r.3 in
    let text : List ℕ = r.1 ++ ended_text c answer in
    let step : suc n ≡ n + 1 = omega arith in
    let more : MakesTurns w c (suc n) text t.0 = (r.0, r.1, answer, r.2, t.1, refl) in (
      t.0,
      text,
      subst (λ (k : ℕ). MakesTurns w c k text t.0) step more,
      t.2,
      put ∙ ap (λ (s : List ℕ). s ++ ended_text c answer) r.4 ∙ append_assoc before r.1 (ended_text c answer),
    )

-- what a turn takes of the jobs that haven't ended
pub turn_falls : TurnsFall → (old new next : MachineState) (c n : ℕ) (before after : List ℕ) (answer : Turn) (w : World) → Shows old w
    → Made old c before new n after → ((w : World) → Shows new w → (z : World) × TakesTurn w c answer z × Shows next z)
    → Falls answer new.jobs next.jobs
turn_falls law old new next c n before after answer w shows made turns =
    let r = made w shows in
    let t = turns r.0 r.3 in
    let f = (law r.0 t.0 c answer t.1).0 in
    let P : List Task → Type 0 = λ jobs. Falls answer jobs t.0.jobs in
    let Q : List Task → Type 0 = λ jobs. Falls answer new.jobs jobs in
    subst Q t.2.jobs (subst P r.3.jobs f)

-- the room that is left is enough, whatever the turn was
pub room_kept : (answer : Turn) (old new : List Task) (size more room wide : ℕ) → Falls answer old new
    → size + 128 * open_jobs old + 128 ≤ room → room ≤ wide → more ≤ size + 128
    → (((j : ℕ) (end : Outcome) → answer ≡ turn.Ended j end → ⊥) → more ≡ size)
    → more + 128 * open_jobs new + 128 ≤ wide
room_kept turn.Ran old new size more room wide f fits grows most none = room_left turn.Ran old new size more room wide f (λ e. cc) fits grows most none
room_kept (turn.Ended j end) old new size more room wide f fits grows most none = room_left (turn.Ended j end) old new size more room wide f
    (λ e. cc) fits grows most none
room_kept turn.Idle old new size more room wide f fits grows most none =
    let same : more ≡ size = none (λ j end e. cc) in
    let opens : open_jobs new ≡ open_jobs old = ap (λ (jobs : List Task). open_jobs jobs) f in
    let step : 128 * open_jobs new ≡ 128 * open_jobs old = ap (λ (n : ℕ). 128 * n) opens in
    omega arith

-- ---- a schedule's turns
pub all_runs : (w : World) (runs : List (ℕ × ℕ)) (text : List ℕ) (z : World) → MakesRuns w runs text z → RunsSchedule w (unrolled runs) z
all_runs w [] text z made = made.1
all_runs w (run ∷ runs) text z made =
    both_run (replicate run.1 run.0) (unrolled runs) w made.0 z (made_runs w run.0 run.1 made.1 made.0 made.3) (all_runs made.0 runs made.2 z made.4)

-- some runs have been made, and these are left
abbrev pub RunsFar : MachineState → List (ℕ × ℕ) → List ℕ → MachineState → List (ℕ × ℕ) → List ℕ → Type 0
RunsFar old runs start new rest after =
    (w : World) → Shows old w → (m : World) × (before : List ℕ) × Shows new m × (after ≡ start ++ before)
    × ((more : List ℕ) (z : World) → MakesRuns m rest more z → MakesRuns w runs (before ++ more) z)

pub no_run : (old : MachineState) (runs : List (ℕ × ℕ)) (start : List ℕ) → RunsFar old runs start old runs start
no_run old runs start w shows = (w, [], shows, sym (append-nil start), λ more z made. made)

pub one_run : (old new next : MachineState) (runs rest left : List (ℕ × ℕ)) (run : ℕ × ℕ) (start after last : List ℕ) → RunsFar old runs
    start new rest after → rest ≡ run ∷ left
    → Made new run.0 after next run.1 last → RunsFar old runs start next left last
one_run old new next runs rest left run start after last far is made w shows =
    let f = far w shows in
    let t = made f.0 f.2 in (
      t.0,
      f.1 ++ t.1,
      t.3,
      t.4 ∙ ap (λ (s : List ℕ). s ++ t.1) f.3 ∙ append_assoc start f.1 t.1,
      λ more z runs_on.
          let all : MakesRuns f.0 (run ∷ left) (t.1 ++ more) z = (t.0, t.1, more, t.2, runs_on, refl) in
          let R : List (ℕ × ℕ) → Type 0 = λ rs. MakesRuns f.0 rs (t.1 ++ more) z in
          subst (λ (s : List ℕ). MakesRuns w runs s z) (sym (append_assoc f.1 t.1 more)) (f.4 (t.1 ++ more) z (subst R (sym is) all)),
    )

pub runs_made : (old new : MachineState) (runs rest : List (ℕ × ℕ)) (start after : List ℕ) → RunsFar old runs start new rest after → rest ≡ []
    → (w : World) → Shows old w → (z : World) × (text : List ℕ) × MakesRuns w runs text z × Shows new z × (after ≡ start ++ text)
runs_made old new runs rest start after far none w shows =
    let f = far w shows in
    let R : List (ℕ × ℕ) → Type 0 = λ rs. MakesRuns f.0 rs [] f.0 in
    let end : MakesRuns f.0 [] [] f.0 = (refl, refl) in
    (f.0, f.1, subst (λ (s : List ℕ). MakesRuns w runs s f.0) (append-nil f.1) (f.4 [] f.0 (subst R (sym none) end)), f.2, f.3)
