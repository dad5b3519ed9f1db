-- What rounds that are watched keep true.
use Rattle.std.proofs.Common.{◌≡◌, ◌≢◌, ℕ, zero, suc, ◌+◌, ◌<◌, Bool, true, false, ◌||◌, List, [], ◌∷◌, ◌++◌, length, Option, Some, None}
use Rattle.std.proofs.Common.{inl, inr, refl, sym, ap, subst, ◌∙◌, arith, append_assoc, append-nil}
use Rattle.std.specs.Prelude.{◌⊎◌, slice_get, map, nat_lt, All, option_map, option_and_then}
use Rattle.std.specs.List.{Contains}
use Rattle.std.proofs.lemmas.Bool.{cases_lt, cases_order}
use Rattle.std.proofs.lemmas.List.Elements.{Contains-append_left, Contains-push, All-append, All-cons, All-nil, All-weaker}
use Rattle.std.proofs.lemmas.Option.{slice_get-map}
use Rattle.bpf_base.proofs.Lists.{slice_get-set_known, slice_get-set_other}
use Rattle.bpf_shared.proofs.Puts.{equal_or_not}
use Rattle.bpf_plain.specs.PlainStore.{has_cpu}
use Rattle.bpf_cpu.specs.declared.cpu.Cpu.{Cpu}
use Rattle.bpf_cpu.specs.declared.input.Input.{Input}
use Rattle.bpf_machine.specs.declared.machine.Standing.{Standing}
use Rattle.bpf_machine.specs.declared.machine.Standing.TheVariants as standing
use Rattle.bpf_machine.specs.declared.machine.Turn.{Turn}
use Rattle.bpf_machine.specs.declared.machine.Turn.TheVariants as turn
use Rattle.bpf_cpu.specs.declared.job.Job.{Job}
use Rattle.bpf_cpu.specs.declared.outcome.Fault.{Fault}
use Rattle.bpf_cpu.specs.declared.outcome.Outcome.{Outcome}
use Rattle.bpf_cpu.specs.declared.outcome.Outcome.TheVariants as outcome
use Rattle.bpf_cpu.specs.State.{start}
use Rattle.bpf_machine.specs.Work.{IsNext}
use Rattle.bpf_machine.specs.Questions.{IsStanding, Falls, turns_left}
use Rattle.bpf_cpu.specs.Task.{Stage, Task, Waiting, InHand, Ended, ended, outcome_at, waiting}
use Rattle.bpf_machine.specs.Hands.{IsFree, NoneWaits, with_stage}
use Rattle.bpf_machine.specs.Schedule.{World, Settles, GoesOn, TakesTurn, RunsSchedule}
use Rattle.bpf_machine.proofs.ListLaws.{with_end, lists_jobs}
use Rattle.bpf_machine.specs.Rounds.{below, HaveEnded, RunsRound, RunsRounds, RunsToEnd}
use Rattle.bpf_machine.specs.Machine.{MachineState, Shows}
use Rattle.bpf_machine.proofs.FallLaws.{turns_fall}
use Rattle.bpf_machine.proofs.TurnLaws.{runs_more}
use Rattle.bpf_machine.proofs.RoundLaws.{cpus_shown}
use Rattle.bpf_faults.specs.declared.evidence.Evidence.{Evidence}
use Rattle.bpf_faults.specs.declared.evidence.Seen.{Seen}
use Rattle.bpf_faults.specs.declared.evidence.Sizes.{Sizes}
use Rattle.bpf_faults.specs.Evidence.{AreSizes, HasEvidence, HaveEvidence, IsBefore, IsEvidenceIn, IsEvidenceOf, IsSeen, LeavesNoneOut, sizes_of}
use Rattle.bpf_faults.specs.Private.{AddsEvidence, AreWatched, HasEvidenceOf, HasNoWork, HaveOneInHand, IsToRun, IsEvidenceOfTurn}
use Rattle.bpf_faults.specs.Private.{IsEvidenceOn, SeesNext, Watches, works}

-- ---- how many bytes jobs are given
pub all_sizes : (jobs : List Job) (sizes : List Sizes) → sizes ≡ map (λ (job : Job). sizes_of job.input) jobs → AreSizes (map waiting jobs) sizes
all_sizes jobs sizes e j task input listed waits = at_job (slice_get jobs j) refl
  where
    at_job : (r : Option Job) → slice_get jobs j ≡ r → slice_get sizes j ≡ Some (sizes_of input)
    at_job None none =
        let no : None ≡ Some task = sym (slice_get-map waiting jobs j ∙ ap (option_map waiting) none) ∙ listed in
        cc
    at_job (Some job) some =
        let shown : Some (waiting job) ≡ Some task = sym (slice_get-map waiting jobs j ∙ ap (option_map waiting) some) ∙ listed in
        let same : waiting job ≡ task = cc shown in
        let stage : Waiting job.input ≡ Waiting input = ap (λ (t : Task). t.stage) same ∙ waits in
        let own : job.input ≡ input = cc stage in
        ap (λ (s : List Sizes). slice_get s j) e
        ∙ (slice_get-map (λ (job : Job). sizes_of job.input) jobs j
        ∙ (ap (option_map (λ (job : Job). sizes_of job.input)) some ∙ ap (λ (i : Input). Some (sizes_of i)) own))

-- ---- what a turn does to the jobs
-- a job after the j-th one's stage has changed: it is that one, or another one, as before
staged : (jobs : List Task) (j k : ℕ) (task other : Task) (stage : Stage) → slice_get jobs j ≡ Some task → slice_get
    (with_stage jobs j task stage) k ≡ Some other
    → ((k ≡ j) × (other ≡ record task { stage = stage })) ⊎ ((k ≢ j) × (slice_get jobs k ≡ Some other))
staged jobs j k task other stage listed at = elim (equal_or_not k j) [
  | inl e ↦
      let P : ℕ → Type 0 = λ k. slice_get (with_stage jobs j task stage) k ≡ Some other in
      let both : Some (record task { stage = stage }) ≡ Some other = sym
      (slice_get-set_known jobs j (record task { stage = stage }) task listed) ∙ subst P e at in
      let same : record task { stage = stage } ≡ other = cc in
      inl (e, sym same)
  | inr ne ↦ inr (ne, sym (slice_get-set_other jobs j k (record task { stage = stage }) ne) ∙ at)
]

-- the stage in which a turn leaves its job is determined by its answer
abbrev IsAnswered : ℕ → Stage → Turn → Type 0
IsAnswered j (Waiting input) answer = ⊥
IsAnswered j (InHand state left) answer = answer ≡ turn.Ran
IsAnswered j (Ended end) answer = answer ≡ turn.Ended j end

answered_job : (k j : ℕ) (stage : Stage) (answer : Turn) (end : Outcome) → IsAnswered k stage answer → answer ≡ turn.Ended j end → k ≡ j
answered_job k j (Waiting input) answer end a e = absurd a
answered_job k j (InHand state left) answer end a e = let no : turn.Ran ≡ turn.Ended j end = sym a ∙ e in cc
answered_job k j (Ended other) answer end a e = let both : turn.Ended k other ≡ turn.Ended j end = sym a ∙ e in cc

answered_end : (k : ℕ) (stage : Stage) (answer : Turn) (end : Outcome) → IsAnswered k stage answer → ended stage ≡ Some end → answer ≡ turn.Ended k end
answered_end k (Waiting input) answer end a e = absurd a
answered_end k (InHand state left) answer end a e = cc
answered_end k (Ended other) answer end a e = let same : other ≡ end = cc in a ∙ ap (λ (o : Outcome). turn.Ended k o) same

answered_works : (k : ℕ) (stage : Stage) (answer : Turn) → IsAnswered k stage answer → works answer ≡ true
answered_works k (Waiting input) answer a = absurd a
answered_works k (InHand state left) answer a = ap works a
answered_works k (Ended end) answer a = ap works a

-- the job that was due is in another stage
record Moves (jobs : List Task) (c : ℕ) (answer : Turn) (new : List Task) : Type 0 where
  job : ℕ
  task : Task
  stage : Stage
  listed : slice_get jobs job ≡ Some task
  of : task.cpu ≡ c
  due : IsToRun jobs c job
  answers : IsAnswered job stage answer
  is : new ≡ with_stage jobs job task stage

goes : (w : World) (c j : ℕ) (task : Task) (old : Cpu) (left : ℕ) (answer : Turn) (z : World) → slice_get w.jobs j ≡ Some task → task.cpu ≡
    c → IsToRun w.jobs c j
    → GoesOn w c j task old left answer z → Moves w.jobs c answer z.jobs
goes w c j task old left answer z listed of due g = settle g.1 g.7
  where
    settle : (end : Option Outcome) → Settles (record w { store = g.2 }) c j task g.3 g.4 end answer z → Moves w.jobs c answer z.jobs
    settle None s = record {
      job = j;
      task = task;
      stage = InHand g.3 g.4;
      listed = listed;
      of = of;
      due = due;
      answers = s.0;
      is = ap (λ (x : World). x.jobs) s.1;
    }
    settle (Some end) s = record {
      job = j;
      task = task;
      stage = Ended end;
      listed = listed;
      of = of;
      due = due;
      answers = s.2;
      is = lists_jobs (with_end w j task end s.0) c z s.3;
    }

abbrev Turned : World → ℕ → Turn → World → Type 0
Turned w c answer z = Moves w.jobs c answer z.jobs ⊎ (IsFree w.jobs c × NoneWaits w.jobs c × (answer ≡ turn.Idle) × (z ≡ w))

turned : (w : World) (c : ℕ) (answer : Turn) (z : World) → TakesTurn w c answer z → Turned w c answer z
turned w c answer z (inl (j, task, state, left, at, g)) = inl (goes w c j task state left answer z at.listed at.of (inl (task, state, left, at)) g)
turned w c answer z (inr (inl (free, a))) =
    inl (goes (record w { store = a.3 }) c a.0 a.1 (start c a.2) a.1.budget answer z a.4.listed a.4.of (inr (free, (a.1, a.2, a.4), a.5)) a.7)
turned w c answer z (inr (inr a)) = inr a

-- one job is due
lowest : (jobs : List Task) (c j k : ℕ) → IsNext jobs c j → IsNext jobs c k → j ≡ k
lowest jobs c j k a b = elim (cases_order j k) [
  | inl e ↦ e
  | inr rest ↦ elim rest [
    | inl less ↦ absurd (b.2 j a.1.0 a.1.1 less a.1.2)
    | inr more ↦ absurd (a.2 k b.1.0 b.1.1 more b.1.2)
  ]
]

one_due : (jobs : List Task) (c j k : ℕ) → HaveOneInHand jobs → IsToRun jobs c j → IsToRun jobs c k → j ≡ k
one_due jobs c j k one (inl a) (inl b) = one c j k a.0 b.0 a.1 b.1 a.2 b.2 a.3 b.3
one_due jobs c j k one (inl a) (inr b) = absurd (b.0 j a.0 a.1 a.2 a.3)
one_due jobs c j k one (inr a) (inl b) = absurd (a.0 k b.0 b.1 b.2 b.3)
one_due jobs c j k one (inr a) (inr b) = lowest jobs c j k a b

-- none of a CPU without work
not_due : (jobs : List Task) (c k : ℕ) → IsFree jobs c → NoneWaits jobs c → IsToRun jobs c k → ⊥
not_due jobs c k free none (inl a) = free k a.0 a.1 a.2 a.3
not_due jobs c k free none (inr a) = none k a.1.0 a.1.1 a.1.2

-- so a turn ends the job that was seen before it
seen_job : (w : World) (c : ℕ) (answer : Turn) (z : World) (seen : Seen) (job : Option ℕ) (j : ℕ) (end : Outcome) → HaveOneInHand w.jobs →
    TakesTurn w c answer z → SeesNext w.jobs c seen job
    → answer ≡ turn.Ended j end → job ≡ Some j
seen_job w c answer z seen job j end one takes sees is = at_turn (turned w c answer z takes)
  where
    due_job : (job : Option ℕ) → SeesNext w.jobs c seen job → (k : ℕ) → IsToRun w.jobs c k → job ≡ Some k
    due_job None s k due = absurd (not_due w.jobs c k s.0 s.1 due)
    due_job (Some i) s k due = ap (λ (n : ℕ). Some n) (one_due w.jobs c i k one s.3 due)

    at_turn : Turned w c answer z → job ≡ Some j
    at_turn (inl m) = due_job job sees m.job m.due ∙ ap (λ (n : ℕ). Some n) (answered_job m.job j m.stage answer end m.answers is)
    at_turn (inr a) = let no : turn.Idle ≡ turn.Ended j end = sym a.2 ∙ is in cc

-- ---- what turns leave true of the jobs
-- a job in another stage that isn't waiting: the others wait as before
still : (jobs : List Task) (j : ℕ) (task : Task) (stage : Stage) (sizes : List Sizes) → slice_get jobs j ≡ Some task →
    ((input : Input) → stage ≡ Waiting input → ⊥)
    → AreSizes jobs sizes → AreSizes (with_stage jobs j task stage) sizes
still jobs j task stage sizes listed works are k other input at waits = elim (staged jobs j k task other stage listed at) [
  | inl e ↦ absurd (works input (ap (λ (t : Task). t.stage) (sym e.1) ∙ waits))
  | inr ne ↦ are k other input ne.1 waits
]

one_still : (jobs new : List Task) (c : ℕ) (answer : Turn) → Moves jobs c answer new → HaveOneInHand jobs → HaveOneInHand new
one_still jobs new c answer m one d j k task other state now left rest a b =
    cases (staged jobs m.job j m.task task m.stage m.listed (subst (λ (ts : List Task). slice_get ts j ≡ Some task) m.is a.listed))
    (staged jobs m.job k m.task other m.stage m.listed (subst (λ (ts : List Task). slice_get ts k ≡ Some other) m.is b.listed))
  where
    alone : (own t : Task) (i : ℕ) (at : Cpu) (n : ℕ) → own ≡ record m.task { stage = m.stage } → own.cpu ≡ d → i ≢ m.job → slice_get jobs i
        ≡ Some t → t.cpu ≡ d → t.stage ≡ InHand at n → ⊥
    alone own t i at n e of ne listed too stage =
        let here : d ≡ c = sym of ∙ (ap (λ (t : Task). t.cpu) e ∙ m.of) in
        ne (sym (one_due jobs c m.job i one m.due (inl (t, at, n, record { listed = listed; of = too ∙ here; at = stage }))))

    cases : ((j ≡ m.job) × (task ≡ record m.task { stage = m.stage })) ⊎ ((j ≢ m.job) × (slice_get jobs j ≡ Some task))
        → ((k ≡ m.job) × (other ≡ record m.task { stage = m.stage })) ⊎ ((k ≢ m.job) × (slice_get jobs k ≡ Some other)) → j ≡ k
    cases (inl e) (inl f) = e.0 ∙ sym f.0
    cases (inl e) (inr f) = absurd (alone task other k now rest e.1 a.of f.0 f.1 b.of b.at)
    cases (inr e) (inl f) = absurd (alone other task j state left f.1 b.of e.0 e.1 a.of a.at)
    cases (inr e) (inr f) = one d j k task other state now left rest (record { listed = e.1; of = a.of; at = a.at })
        (record { listed = f.1; of = b.of; at = b.at })

have_still : (jobs new : List Task) (c : ℕ) (answer : Turn) (before evidence : List Evidence) → Moves jobs c answer new
    → ((j : ℕ) (fault : Fault) (pc : ℕ) → HasEvidence before j fault pc → HasEvidence evidence j fault pc) → HasEvidenceOf answer evidence →
    HaveEvidence jobs before → HaveEvidence new evidence
have_still jobs new c answer before evidence m grow has have k fault pc ends = elim (equal_or_not k m.job) [
  | inl e ↦
      let moved : Task = record m.task { stage = m.stage } in
      let P : ℕ → Type 0 = λ i. slice_get (with_stage jobs m.job m.task m.stage) i ≡ Some moved in
      let here : slice_get new k ≡ Some moved = ap (λ (ts : List Task). slice_get ts k) m.is ∙ subst P (sym e)
      (slice_get-set_known jobs m.job moved m.task m.listed) in
      let end : ended m.stage ≡ Some (outcome.Fault fault pc) = sym (ap (λ (r : Option Task). option_and_then (λ task. ended task.stage) r) here) ∙ ends in
      let is = answered_end m.job m.stage answer (outcome.Fault fault pc) m.answers end in
      subst (λ (i : ℕ). HasEvidence evidence i fault pc) (sym e) (has m.job fault pc is)
  | inr ne ↦
      let same : slice_get new k ≡ slice_get jobs k = ap (λ (ts : List Task). slice_get ts k) m.is ∙ slice_get-set_other jobs m.job k
      (record m.task { stage = m.stage }) ne in
      grow k fault pc (have k fault pc (sym (ap (λ (r : Option Task). option_and_then (λ task. ended task.stage) r) same) ∙ ends))
]

pub watched_stay : (w : World) (c : ℕ) (answer : Turn) (z : World) (sizes : List Sizes) (before evidence : List Evidence) → TakesTurn w c answer z
    → ((j : ℕ) (fault : Fault) (pc : ℕ) → HasEvidence before j fault pc → HasEvidence evidence j fault pc) → HasEvidenceOf answer evidence
    → AreWatched w.jobs sizes before → AreWatched z.jobs sizes evidence
watched_stay w c answer z sizes before evidence takes grow has are = at_turn (turned w c answer z takes)
  where
    at_turn : Turned w c answer z → AreWatched z.jobs sizes evidence
    at_turn (inl m) = record {
      known = subst (λ (ts : List Task). AreSizes ts sizes) (sym m.is)
          (still w.jobs m.job m.task m.stage sizes m.listed (λ input e. subst (λ (s : Stage). IsAnswered m.job s answer) e m.answers) are.known);
      one = one_still w.jobs z.jobs c answer m are.one;
      have = have_still w.jobs z.jobs c answer before evidence m grow has are.have;
    }
    at_turn (inr a) =
        subst (λ (x : World). AreWatched x.jobs sizes evidence) (sym a.3)
        (record { known = are.known; one = are.one; have = λ j fault pc e. grow j fault pc (are.have j fault pc e) })

-- a job at first
at_first : (jobs : List Job) (j : ℕ) (task : Task) → slice_get (map waiting jobs) j ≡ Some task → (input : Input) × (task.stage ≡ Waiting input)
at_first jobs j task listed = at_job (slice_get jobs j) refl
  where
    at_job : (r : Option Job) → slice_get jobs j ≡ r → (input : Input) × (task.stage ≡ Waiting input)
    at_job None none = let no : None ≡ Some task = sym (slice_get-map waiting jobs j ∙ ap (option_map waiting) none) ∙ listed in cc
    at_job (Some job) some =
        let shown : Some (waiting job) ≡ Some task = sym (slice_get-map waiting jobs j ∙ ap (option_map waiting) some) ∙ listed in
        let same : waiting job ≡ task = cc in
        (job.input, ap (λ (t : Task). t.stage) (sym same))

pub watched_first : (jobs : List Job) (sizes : List Sizes) → AreSizes (map waiting jobs) sizes → AreWatched (map waiting jobs) sizes []
watched_first jobs sizes are = record {
  known = are;
  one = λ c j k task other state now left rest a b.
      let first = at_first jobs j task a.listed in
      let no : InHand state left ≡ Waiting first.0 = sym a.at ∙ first.1 in
      cc;
  have = λ j fault pc e. absurd (at_task j (outcome.Fault fault pc) (slice_get (map waiting jobs) j) refl e);
}
  where
    at_task : (j : ℕ) (end : Outcome) (r : Option Task) → slice_get (map waiting jobs) j ≡ r → outcome_at (map waiting jobs) j ≡ Some end → ⊥
    at_task j end None none e = let no : None ≡ Some end = sym (ap (λ (r : Option Task). option_and_then (λ task. ended task.stage) r) none) ∙ e in cc
    at_task j end (Some task) some e =
        let first = at_first jobs j task some in
        let here : ended task.stage ≡ Some end = sym (ap (λ (r : Option Task). option_and_then (λ task. ended task.stage) r) some) ∙ e in
        let no : None ≡ Some end = sym (ap ended first.1) ∙ here in
        cc

-- ---- turns with work, and without
less : (answer : Turn) (old new : List Task) → works answer ≡ true → Falls answer old new → turns_left new < turns_left old
less turn.Idle old new e falls = cc
less turn.Ran old new e falls = falls.0
less (turn.Ended j end) old new e falls = falls.0

no_work : (w : World) (c : ℕ) (answer : Turn) (z : World) → TakesTurn w c answer z → works answer ≡ false → IsFree w.jobs c × NoneWaits w.jobs c
no_work w c answer z takes idle = at_turn (turned w c answer z takes)
  where
    at_turn : Turned w c answer z → IsFree w.jobs c × NoneWaits w.jobs c
    at_turn (inl m) = let no : true ≡ false = sym (answered_works m.job m.stage answer m.answers) ∙ idle in cc
    at_turn (inr a) = (a.0, a.1)

-- without work nothing changes
idle_turn : (w : World) (c : ℕ) (answer : Turn) (z : World) → IsFree w.jobs c → NoneWaits w.jobs c → TakesTurn w c answer z → z ≡ w
idle_turn w c answer z free none takes = at_turn (turned w c answer z takes)
  where
    at_turn : Turned w c answer z → z ≡ w
    at_turn (inl m) = absurd (not_due w.jobs c m.job free none m.due)
    at_turn (inr a) = a.3

abbrev AreIdle : World → List ℕ → Type 0
AreIdle w [] = Unit {0}
AreIdle w (c ∷ cs) = (IsFree w.jobs c × NoneWaits w.jobs c) × AreIdle w cs

idle_push : (w : World) (cs : List ℕ) (c : ℕ) → AreIdle w cs → IsFree w.jobs c × NoneWaits w.jobs c → AreIdle w (cs ++ c ∷ [])
idle_push w [] c idle more = (more, tt)
idle_push w (d ∷ ds) c idle more = (idle.0, idle_push w ds c idle.1 more)

idle_below : (w : World) (n : ℕ) → ((c : ℕ) → c < n → IsFree w.jobs c × NoneWaits w.jobs c) → AreIdle w (below n)
idle_below w zero idle = tt
idle_below w (suc n) idle = idle_push w (below n) n (idle_below w n (λ c less. idle c (omega arith))) (idle n (omega arith))

idle_schedule : (cs : List ℕ) (w z : World) → AreIdle w cs → RunsSchedule w cs z → z ≡ w
idle_schedule [] w z idle runs = runs
idle_schedule (c ∷ cs) w z idle runs =
    let same : runs.1 ≡ w = idle_turn w c runs.0 runs.1 idle.0.0 idle.0.1 runs.2 in
    idle_schedule cs w z idle.1 (subst (λ (x : World). RunsSchedule x cs z) same runs.3)

idle_rounds : (n : ℕ) (w z : World) → HasNoWork w → RunsRounds n w z → z ≡ w
idle_rounds zero w z idle runs = runs
idle_rounds (suc n) w z idle runs =
    let same : runs.0 ≡ w = idle_rounds n w runs.0 idle runs.1 in
    idle_schedule (below w.store.shape.cpus) w z (idle_below w w.store.shape.cpus idle) (subst (λ (x : World). RunsRound x z) same runs.2)

-- ---- evidence that follow others
pub adds_none : (P : Evidence → Type 0) (old : List Evidence) → AddsEvidence P old old
adds_none P old = ([], sym (append-nil old), All-nil P)

pub adds_more : (P Q : Evidence → Type 0) (old mid new : List Evidence) → ((s : Evidence) → Q s → P s) → AddsEvidence P old mid →
    AddsEvidence Q mid new → AddsEvidence P old new
adds_more P Q old mid new fits a b = (
  a.0 ++ b.0,
  b.1 ∙ (ap (λ (l : List Evidence). l ++ b.0) a.1 ∙ append_assoc old a.0 b.0),
  All-append P a.0 b.0 a.2 (All-weaker Q P fits b.0 b.2),
)

pub adds_one : (P : Evidence → Type 0) (old new : List Evidence) (evidence : Evidence) → new ≡ old ++ evidence ∷ [] → P evidence → AddsEvidence P old new
adds_one P old new evidence e p = (evidence ∷ [], e, All-cons P evidence [] p (All-nil P))

pub has_one : (old new : List Evidence) (one : Evidence) (j : ℕ) (fault : Fault) (pc : ℕ) → new ≡ old ++ one ∷ [] → one.job ≡ j → one.fault
    ≡ fault → one.pc ≡ pc → HasEvidence new j fault pc
has_one old new one j fault pc e job is at = (one, subst (λ (l : List Evidence). Contains l one) (sym e) (Contains-push old one), job, is, at)

pub grows : (P : Evidence → Type 0) (old new : List Evidence) → AddsEvidence P old new → (j : ℕ) (fault : Fault) (pc : ℕ) → HasEvidence old
    j fault pc → HasEvidence new j fault pc
grows P old new adds j fault pc has =
    (has.0, subst (λ (l : List Evidence). Contains l has.0) (sym adds.1) (Contains-append_left old adds.0 has.0 has.1), has.2, has.3, has.4)

-- ---- a turn
-- the state before the step of a job that waits
pub sees_start : (jobs : List Task) (sizes : List Sizes) (cpu j : ℕ) (n : Sizes) (seen : Seen) (r : Standing) → AreSizes jobs sizes →
    IsStanding jobs cpu r → r ≡ standing.Waiting j
    → slice_get sizes j ≡ Some n → ((input : Input) → sizes_of input ≡ n → IsSeen (start cpu input) seen) → SeesNext jobs cpu seen (Some j)
sees_start jobs sizes cpu j n seen r are stands is known sees =
    let next : IsNext jobs cpu j = subst (IsStanding jobs cpu) is stands in
    let task = next.1.0 in
    let input = next.1.1 in
    let at = next.1.2 in
    let both : Some (sizes_of input) ≡ Some n = sym (are j task input at.listed at.at) ∙ known in
    let same : sizes_of input ≡ n = cc both in
    (start cpu input, inr (task, input, at, refl), sees input same, inr next)

-- how many bytes it is given is known
pub size_known : (jobs : List Task) (sizes : List Sizes) (cpu j : ℕ) (r : Standing) → AreSizes jobs sizes → IsStanding jobs cpu r → r ≡
    standing.Waiting j → slice_get sizes j ≡ None → ⊥
size_known jobs sizes cpu j r are stands is none =
    let next : IsNext jobs cpu j = subst (IsStanding jobs cpu) is stands in
    let no : Some (sizes_of next.1.1) ≡ None = sym (are j next.1.0 next.1.1 next.1.2.listed next.1.2.at) ∙ none in
    cc

seen_before : (jobs : List Task) (cpu : ℕ) (seen : Seen) (job : Option ℕ) (evidence : Evidence) → SeesNext jobs cpu seen job → job ≡ Some
    evidence.job → evidence.cpu ≡ cpu
    → ((state : Cpu) → IsSeen state seen → IsSeen state evidence.seen) → (state : Cpu) × IsBefore jobs evidence.cpu evidence.job state ×
    IsSeen state evidence.seen
seen_before jobs cpu seen job evidence sees is of keeps =
    let s : SeesNext jobs cpu seen (Some evidence.job) = subst (SeesNext jobs cpu seen) is sees in
    (s.0, subst (λ (c : ℕ). IsBefore jobs c evidence.job s.0) (sym of) s.1, keeps s.0 s.2)

pub watches : (old new : MachineState) (cpu : ℕ) (seen : Seen) (job : Option ℕ) (answer : Turn) (before evidence : List Evidence) →
    HaveOneInHand old.jobs → SeesNext old.jobs cpu seen job
    → ((w : World) → Shows old w → (z : World) × TakesTurn w cpu answer z × Shows new z) → (answer ≡ turn.Idle → new ≡ old)
    → AddsEvidence (IsEvidenceOfTurn cpu job answer seen) before evidence
    → ((j : ℕ) (fault : Fault) (pc : ℕ) → job ≡ Some j → answer ≡ turn.Ended j (outcome.Fault fault pc) → HasEvidence evidence j fault pc)
    → Watches old cpu before (works answer) new evidence
watches old new cpu seen job answer before evidence one sees turns idle adds has = (λ e. idle (is_idle answer e), at_world)
  where
    is_idle : (answer : Turn) → works answer ≡ false → answer ≡ turn.Idle
    is_idle turn.Idle e = refl
    is_idle turn.Ran e = cc
    is_idle (turn.Ended j end) e = cc

    at_world : (w : World) → Shows old w
        → ((told : Turn) × (z : World) × TakesTurn w cpu told z × Shows new z × (works answer ≡ works told) × HasEvidenceOf told evidence) ×
        AddsEvidence (IsEvidenceOn w cpu) before evidence
    at_world w shows =
        let t = turns w shows in
        let own : HaveOneInHand w.jobs = subst HaveOneInHand (sym shows.jobs) one in
        let sight : SeesNext w.jobs cpu seen job = subst (λ (jobs : List Task). SeesNext jobs cpu seen job) (sym shows.jobs) sees in
        let here : (s : Evidence) → IsEvidenceOfTurn cpu job answer seen s → IsEvidenceOn w cpu s = λ s of.
        let b = seen_before w.jobs cpu seen job s sight of.0 of.1 of.3 in
        let takes = subst (λ (c : ℕ). TakesTurn w c (turn.Ended s.job (outcome.Fault s.fault s.pc)) t.0) (sym of.1)
        (subst (λ (a : Turn). TakesTurn w cpu a t.0) of.2 t.1) in
        (of.1, ((t.0, takes), b.0, b.1, b.2))
        in
        let ends : HasEvidenceOf answer evidence = λ j fault pc is. has j fault pc
        (seen_job w cpu answer t.0 seen job j (outcome.Fault fault pc) own t.1 sight is) is in
        ((answer, t.0, t.1, t.2, refl, ends), (adds.0, adds.1, All-weaker (IsEvidenceOfTurn cpu job answer seen) (IsEvidenceOn w cpu) here adds.0 adds.2))

-- ---- a round, as far as the CPUs below a number
pub record IsFar (old : MachineState) (sizes : List Sizes) (before : List Evidence) (c : ℕ) (worked : Bool) (new : MachineState)
    (evidence : List Evidence) : Type 0 where
  pub runs : (w : World) → Shows old w → (z : World) × RunsSchedule w (below c) z × Shows new z × AddsEvidence (IsEvidenceIn w) before evidence
  pub watched : AreWatched new.jobs sizes evidence
  pub falls : worked ≡ true → turns_left new.jobs < turns_left old.jobs
  pub idle : worked ≡ false → (new ≡ old) × ((d : ℕ) → d < c → IsFree old.jobs d × NoneWaits old.jobs d)

pub no_turn : (old : MachineState) (sizes : List Sizes) (before : List Evidence) → AreWatched old.jobs sizes before → IsFar old sizes before 0 false old before
no_turn old sizes before are = record {
  runs = λ w shows. (w, refl, shows, adds_none (IsEvidenceIn w) before);
  watched = are;
  falls = λ e. cc;
  idle = λ e. (refl, λ d less. absurd (omega arith));
}

pub next_turn : (old mid new : MachineState) (sizes : List Sizes) (before some more : List Evidence) (c : ℕ) (worked busy : Bool) → ((w : World) × Shows old w)
    → IsFar old sizes before c worked mid some → Watches mid c some busy new more → IsFar old sizes before (c + 1) (worked || busy) new more
next_turn old mid new sizes before some more c worked busy start far watches = record
    { runs = runs; watched = watched; falls = falls worked busy refl refl; idle = idle worked busy refl refl }
  where
    watched : AreWatched new.jobs sizes more
    watched =
        let r = far.runs start.0 start.1 in
        let t = watches.1 r.0 r.2 in
        subst (λ (ts : List Task). AreWatched ts sizes more) t.0.3.jobs
        (watched_stay r.0 c t.0.0 t.0.1 sizes some more t.0.2 (grows (IsEvidenceOn r.0 c) some more t.1) t.0.5
        (subst (λ (ts : List Task). AreWatched ts sizes some) (sym r.2.jobs) far.watched))

    lower : busy ≡ true → turns_left new.jobs < turns_left mid.jobs
    lower e =
        let r = far.runs start.0 start.1 in
        let t = watches.1 r.0 r.2 in
        let fell = less t.0.0 r.0.jobs t.0.1.jobs (sym t.0.4 ∙ e) (turns_fall r.0 t.0.1 c t.0.0 t.0.2).0 in
        subst (λ (ts : List Task). turns_left ts < turns_left mid.jobs) t.0.3.jobs
        (subst (λ (ts : List Task). turns_left t.0.1.jobs < turns_left ts) r.2.jobs fell)

    falls : (a b : Bool) → worked ≡ a → busy ≡ b → (a || b) ≡ true → turns_left new.jobs < turns_left old.jobs
    falls true true was is e = let last = lower is in let first = far.falls was in omega arith
    falls true false was is e = subst (λ (m : MachineState). turns_left m.jobs < turns_left old.jobs) (sym (watches.0 is)) (far.falls was)
    falls false true was is e = subst (λ (m : MachineState). turns_left new.jobs < turns_left m.jobs) (far.idle was).0 (lower is)
    falls false false was is e = cc

    here : (d : ℕ) → d ≡ c → busy ≡ false → IsFree mid.jobs d × NoneWaits mid.jobs d
    here d e is =
        let r = far.runs start.0 start.1 in
        let t = watches.1 r.0 r.2 in
        let none = no_work r.0 c t.0.0 t.0.1 t.0.2 (sym t.0.4 ∙ is) in
        subst (λ (k : ℕ). IsFree mid.jobs k × NoneWaits mid.jobs k) (sym e) (subst (λ (ts : List Task). IsFree ts c × NoneWaits ts c) r.2.jobs none)

    idle : (a b : Bool) → worked ≡ a → busy ≡ b → (a || b) ≡ false → (new ≡ old) × ((d : ℕ) → d < c + 1 → IsFree old.jobs d × NoneWaits old.jobs d)
    idle true b was is e = cc
    idle false true was is e = cc
    idle false false was is e = (
      watches.0 is ∙ (far.idle was).0,
      λ d inside. elim (cases_lt d c) [
        | inl below ↦ (far.idle was).1 d below
        | inr past ↦ subst (λ (m : MachineState). IsFree m.jobs d × NoneWaits m.jobs d) (far.idle was).0 (here d (omega arith) is)
      ],
    )

    runs : (w : World) → Shows old w → (z : World) × RunsSchedule w (below (c + 1)) z × Shows new z × AddsEvidence (IsEvidenceIn w) before more
    runs w shows =
        let r = far.runs w shows in
        let t = watches.1 r.0 r.2 in
        let next : suc c ≡ c + 1 = omega arith in
        let here : (s : Evidence) → IsEvidenceOn r.0 c s → IsEvidenceIn w s = λ s on.
        (r.0, subst (λ (k : ℕ). RunsSchedule w (below k) r.0) (sym on.0) r.1, on.1) in (
          t.0.1,
          subst (λ (n : ℕ). RunsSchedule w (below n) t.0.1) next (runs_more w (below c) c r.0 t.0.0 t.0.1 r.1 t.0.2),
          t.0.3,
          adds_more (IsEvidenceIn w) (IsEvidenceOn r.0 c) before some more here r.3 t.1,
        )

pub whole : (old new : MachineState) (sizes : List Sizes) (before evidence : List Evidence) (n : ℕ) (worked : Bool) →
    ((c : ℕ) → has_cpu old.store c ≡ nat_lt c n)
    → IsFar old sizes before n worked new evidence → (w : World) → Shows old w → (z : World) × RunsRound w z × Shows new z × AddsEvidence
    (IsEvidenceIn w) before evidence
whole old new sizes before evidence n worked same far w shows =
    let r = far.runs w shows in
    (r.0, subst (λ (k : ℕ). RunsSchedule w (below k) r.0) (sym (cpus_shown old w n same shows)) r.1, r.2, r.3)

-- nobody has work after a round in which nobody had
pub whole_idle : (old new : MachineState) (sizes : List Sizes) (before evidence : List Evidence) (n : ℕ) (worked : Bool) →
    ((c : ℕ) → has_cpu old.store c ≡ nat_lt c n)
    → IsFar old sizes before n worked new evidence → worked ≡ false → (w : World) → Shows new w → HasNoWork w
whole_idle old new sizes before evidence n worked same far e w shows c inside =
    let idle = far.idle e in
    let shown : Shows old w = subst (λ (m : MachineState). Shows m w) idle.0 shows in
    let less : c < n = subst (λ (k : ℕ). c < k) (cpus_shown old w n same shown) inside in
    subst (λ (ts : List Task). IsFree ts c × NoneWaits ts c) (sym shown.jobs) (idle.1 c less)

-- ---- rounds
pub record IsWatched (old : MachineState) (sizes : List Sizes) (new : MachineState) (evidence : List Evidence) : Type 0 where
  pub runs : (w : World) → Shows old w → (z : World) × ((n : ℕ) × RunsRounds n w z) × Shows new z × All (IsEvidenceOf w) evidence
  pub watched : AreWatched new.jobs sizes evidence

pub no_round : (old : MachineState) (sizes : List Sizes) → AreWatched old.jobs sizes [] → IsWatched old sizes old []
no_round old sizes are = record { runs = λ w shows. (w, (0, refl), shows, All-nil (IsEvidenceOf w)); watched = are }

pub shown_still : (old new : MachineState) (sizes : List Sizes) (evidence : List Evidence) → ((w : World) × Shows old w) → IsWatched old
    sizes new evidence → (w : World) × Shows new w
shown_still old new sizes evidence start watched = let r = watched.runs start.0 start.1 in (r.0, r.2)

pub next_round : (old mid new : MachineState) (sizes : List Sizes) (some more : List Evidence) → IsWatched old sizes mid some
    → ((w : World) → Shows mid w → (z : World) × RunsRound w z × Shows new z × AddsEvidence (IsEvidenceIn w) some more) → AreWatched
    new.jobs sizes more → IsWatched old sizes new more
next_round old mid new sizes some more watched round are = record { runs = runs; watched = are }
  where
    runs : (w : World) → Shows old w → (z : World) × ((n : ℕ) × RunsRounds n w z) × Shows new z × All (IsEvidenceOf w) more
    runs w shows =
        let r = watched.runs w shows in
        let t = round r.0 r.2 in
        let here : (s : Evidence) → IsEvidenceIn r.0 s → IsEvidenceOf w s = λ s in_it. (r.1.0, r.0, r.1.1, in_it) in
        let all : All (IsEvidenceOf w) (some ++ t.3.0) = All-append (IsEvidenceOf w) some t.3.0 r.3
        (All-weaker (IsEvidenceIn r.0) (IsEvidenceOf w) here t.3.0 t.3.2) in
        (t.0, (suc r.1.0, (r.0, r.1.1, t.1)), t.2, subst (All (IsEvidenceOf w)) (sym t.3.1) all)

-- rounds that find no work leave what is
pub to_end : (old mid new : MachineState) (sizes : List Sizes) (evidence : List Evidence) → IsWatched old sizes mid evidence →
    ((w : World) → Shows mid w → HasNoWork w)
    → ((w : World) → Shows mid w → (z : World) × RunsToEnd w z × Shows new z) → (w : World) → Shows old w → LeavesNoneOut w new evidence
to_end old mid new sizes evidence watched idle ends w shows =
    let r = watched.runs w shows in
    let end = ends r.0 r.2 in
    let same : end.0 ≡ r.0 = idle_rounds end.1.0 r.0 end.0 (idle r.0 r.2) end.1.1 in
    let have : HaveEvidence r.0.jobs evidence = subst (λ (ts : List Task). HaveEvidence ts evidence) (sym r.2.jobs) watched.watched.have in
    (r.0, (r.1.0, r.1.1, subst (λ (x : World). HaveEnded x.jobs) same end.1.2), subst (λ (x : World). Shows new x) same end.2, have)
