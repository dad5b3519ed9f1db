-- Worlds that lag after one that a schedule leads to: in each a CPU is about to make the step of one of the
-- stores that wait in its buffer. Other CPUs' turns that miss what it is about to do are made there too.
use Rattle.std.proofs.Common.{◌≡◌, ◌≢◌, ℕ, zero, suc, Bool, true, false, List, [], ◌∷◌, ◌++◌, Option, Some, inl, inr, refl, sym, ap, subst, ◌∙◌}
use Rattle.std.specs.Prelude.{map, slice_get, slice_set}
use Rattle.std.proofs.lemmas.Bool.{or_cases}
use Rattle.bpf_base.proofs.Lists.{slice_get-set_other}
use Rattle.bpf_shared.specs.declared.events.Event.{Event}
use Rattle.bpf_shared.specs.Store.{Plain}
use Rattle.bpf_shared.specs.History.{PlainlyLegal, entry}
use Rattle.bpf_shared.specs.Sound.{IsSoundStore}
use Rattle.bpf_shared.specs.Shape.{Shape}
use Rattle.bpf_loader.specs.Loaded.{Loaded}
use Rattle.bpf_cpu.specs.declared.cpu.Cpu.{Cpu}
use Rattle.bpf_cpu.specs.declared.outcome.Outcome.{Outcome}
use Rattle.bpf_cpu.specs.declared.outcome.Progress.{Progress}
use Rattle.bpf_cpu.specs.Step.{Step}
use Rattle.bpf_cpu.specs.Task.{Stage, Task, Waiting, InHand}
use Rattle.bpf_machine.specs.Hands.{IsAt, IsFree, NoneWaitsBelow, NoneWaits, with_stage}
use Rattle.bpf_machine.specs.Listings.{Listing}
use Rattle.bpf_machine.specs.Schedule.{World, Advances, RunsSchedule}
use Rattle.bpf_machine.proofs.HeadwayLaws.{SameJobs, set_others}
use Rattle.bpf_x86.proofs.Overlay.{hits, changes, any_at, hits_any, changes_any, any_left, any_right, any_cases, all_changes_hit}
use Rattle.bpf_x86.proofs.Behind.{IsBehind, AllMiss, behind_events}
use Rattle.bpf_x86.proofs.StepShapes.{AreNot, is_call}

-- a CPU with a job in hand is about to make a step of these loads and stores, which the second world has made,
-- and later ones
pub record IsLagging (d : ℕ) (made later : List Event) (l w : World) : Type 0 where
  pub programs : l.programs ≡ w.programs
  pub lists : l.lists ≡ w.lists
  pub job : ℕ
  pub task : Task
  pub state : Cpu
  pub left : ℕ
  pub now : Cpu
  pub rest : ℕ
  pub at : IsAt l.jobs d job task (InHand state (suc left))
  pub jobs : w.jobs ≡ with_stage l.jobs job task (InHand now rest)
  pub program : Loaded
  pub loaded : slice_get l.programs task.program ≡ Some program
  pub answer : Progress
  pub after : Cpu
  pub step : Step l.store.shape program state made answer after
  pub quiet : AreNot is_call made
  pub store : Plain
  pub legal : PlainlyLegal l.store (map (entry d) made) store
  pub behind : IsBehind d (made ++ later) l.store w.store

-- a schedule leads to it, and the step makes this store
pub record HasLag (first : World) (d : ℕ) (waiting : Event) (later : List Event) (w : World) : Type 0 where
  pub world : World
  pub schedule : List ℕ
  pub runs : RunsSchedule first schedule world
  pub made : List Event
  pub has : (x : ℕ) → hits waiting x ≡ true → changes_any made x ≡ true
  pub lags : IsLagging d made later world w

-- so for each store that waits, with those after it
abbrev pub HasLags : World → ℕ → List Event → World → Type 0
HasLags first d [] w = Unit {0}
HasLags first d (e ∷ es) w = HasLag first d e es w × HasLags first d es w

-- what all these steps make: of a step that is flushed in part too
abbrev pub all_made : (first : World) (d : ℕ) (es : List Event) (w : World) → HasLags first d es w → List Event
all_made first d [] w lags = []
all_made first d (e ∷ es) w lags = lags.0.made ++ all_made first d es w lags.1

-- what waits is among it
pub waits_made : (first : World) (d : ℕ) (es : List Event) (w : World) (lags : HasLags first d es w) (x : ℕ) → hits_any es x ≡ true →
    changes_any (all_made first d es w lags) x ≡ true
waits_made first d [] w lags x h = h
waits_made first d (e ∷ es) w lags x h = elim (or_cases (hits e x) (hits_any es x) h) [
  | inl here ↦ any_left changes lags.0.made (all_made first d es w lags.1) x (lags.0.has x here)
  | inr there ↦ any_right changes lags.0.made (all_made first d es w lags.1) x (waits_made first d es w lags.1 x there)
]

-- events that miss all of it miss what the first of these worlds lacks, and what the others do
pub made_here : (test : Event → ℕ → Bool) → ((x : ℕ) (fs : List Event) → any_at test fs x ≡ true → hits_any fs x ≡ true) →
    ((x : ℕ) (fs : List Event) → changes_any fs x ≡ true → any_at test fs x ≡ true)
    → (first : World) (d : ℕ) (e : Event) (es : List Event) (w : World) (lags : HasLags first d (e ∷ es) w) (x : ℕ) → any_at test
    (lags.0.made ++ es) x ≡ true → any_at test (all_made first d (e ∷ es) w lags) x ≡ true
made_here test to from first d e es w lags x h = elim (any_cases test lags.0.made es x h) [
  | inl here ↦ any_left test lags.0.made (all_made first d es w lags.1) x here
  | inr there ↦ any_right test lags.0.made (all_made first d es w lags.1) x
      (from x (all_made first d es w lags.1) (waits_made first d es w lags.1 x (to x es there)))
]

pub miss_fewer : (lacking fewer es : List Event) → ((y : ℕ) → changes_any fewer y ≡ true → changes_any lacking y ≡ true) →
    ((y : ℕ) → hits_any fewer y ≡ true → hits_any lacking y ≡ true) → AllMiss lacking es → AllMiss fewer es
miss_fewer lacking fewer [] less few miss = tt
miss_fewer lacking fewer (e ∷ es) less few miss = (
  (λ x h k. miss.0.0 x h (less x k), λ x h k. miss.0.1 x h (few x k)),
  miss_fewer lacking
      fewer es less few miss.1,
)

pub miss_here : (first : World) (d : ℕ) (e : Event) (es : List Event) (w : World) (lags : HasLags first d (e ∷ es) w) (fs : List Event) →
    AllMiss (all_made first d (e ∷ es) w lags) fs → AllMiss (lags.0.made ++ es) fs
miss_here first d e es w lags fs miss = miss_fewer (all_made first d (e ∷ es) w lags) (lags.0.made ++ es) fs
    (made_here changes (λ x gs h. all_changes_hit gs x h) (λ x gs h. h) first d e es w lags)
    (made_here hits (λ x gs h. h) (λ x gs h. all_changes_hit gs x h) first d e es w lags) miss

pub miss_later : (first : World) (d : ℕ) (e : Event) (es : List Event) (w : World) (lags : HasLags first d (e ∷ es) w) (fs : List Event) →
    AllMiss (all_made first d (e ∷ es) w lags) fs → AllMiss (all_made first d es w lags.1) fs
miss_later first d e es w lags fs miss = miss_fewer (all_made first d (e ∷ es) w lags) (all_made first d es w lags.1) fs
    (λ y h. any_right changes lags.0.made (all_made first d es w lags.1) y h) (λ y h. any_right hits lags.0.made (all_made first d es w lags.1) y h) miss

-- the world for one of the events that pass a test
pub record LagAt (test : Event → ℕ → Bool) (first : World) (d : ℕ) (lacking : List Event) (w : World) (x : ℕ) : Type 0 where
  pub world : World
  pub schedule : List ℕ
  pub runs : RunsSchedule first schedule world
  pub made : List Event
  pub later : List Event
  pub lags : IsLagging d made later world w
  pub passes : any_at test made x ≡ true
  pub fewer : (fs : List Event) → AllMiss lacking fs → AllMiss (made ++ later) fs

pub lag_at : (test : Event → ℕ → Bool) (first : World) (d : ℕ) (es : List Event) (w : World) (x : ℕ) (lags : HasLags first d es w) → any_at
    test (all_made first d es w lags) x ≡ true → LagAt test first d (all_made first d es w lags) w x
lag_at test first d [] w x lags h = absurd (let no : false ≡ true = h in cc)
lag_at test first d (e ∷ es) w x lags h = elim (any_cases test lags.0.made (all_made first d es w lags.1) x h) [
  | inl here ↦ record {
    world = lags.0.world;
    schedule = lags.0.schedule;
    runs = lags.0.runs;
    made = lags.0.made;
    later = es;
    lags = lags.0.lags;
    passes = here;
    fewer = miss_here first d e es w lags;
  }
  | inr there ↦ (let r = lag_at test first d es w x lags.1 there in record {
    world = r.world;
    schedule = r.schedule;
    runs = r.runs;
    made = r.made;
    later = r.later;
    lags = r.lags;
    passes = r.passes;
    fewer = λ fs miss. r.fewer fs (miss_later first d e es w lags fs miss);
  })
]

-- ---- lists
pub set_apart : {A : Type 0} (xs : List A) (i j : ℕ) (a b : A) → i ≢ j → slice_set (slice_set xs i a) j b ≡ slice_set (slice_set xs j b) i a
set_apart [] i j a b ne = refl
set_apart (x ∷ xs) zero zero a b ne = absurd (ne refl)
set_apart (x ∷ xs) zero (suc j) a b ne = refl
set_apart (x ∷ xs) (suc i) zero a b ne = refl
set_apart {A} (x ∷ xs) (suc i) (suc j) a b ne = ap (λ (ys : List A). x ∷ ys) (set_apart xs i j a b (λ e. ne (ap suc e)))

-- ---- another CPU's turn
-- none of a step's events touches these bytes
abbrev pub AdvanceMisses : (lacking : List Event) (program : Loaded) (c : ℕ) (s : Plain) (old : Cpu) (left : ℕ) (end : Option Outcome)
    (t : Plain) (new : Cpu) (rest : ℕ) → Advances program c s old left end t new rest → Type 0
AdvanceMisses lacking program c s old zero end t new rest a = Unit {0}
AdvanceMisses lacking program c s old (suc n) end t new rest a = AllMiss lacking a.0

-- the world with another store, another stage of a job, and other lists
abbrev pub new_world : World → Plain → ℕ → Task → Stage → (ℕ → Listing) → World
new_world x s k t stage lists = record { store = s; programs = x.programs; jobs = with_stage x.jobs k t stage; lists = lists }

module _ (d : ℕ) (made later : List Event) (c : ℕ) (ne : c ≢ d) where
  pub lag_advances : (program : Loaded) (l s : Plain) (old : Cpu) (left : ℕ) (end : Option Outcome) (t : Plain) (new : Cpu) (rest : ℕ) →
      IsSoundStore l → IsSoundStore s → IsBehind d (made ++ later) l s
      → (a : Advances program c s old left end t new rest) → AdvanceMisses (made ++ later) program c s old left end t new rest a
      → (next : Plain) × (b : Advances program c l old left end next new rest) × IsBehind d (made ++ later) next t × AdvanceMisses
      (made ++ later) program c l old left end next new rest b
  lag_advances program l s old zero end t new rest so_l so_s behind a miss =
      (l, (a.0, refl, a.2, a.3), subst (IsBehind d (made ++ later) l) (sym a.1) behind, tt)
  lag_advances program l s old (suc n) end t new rest so_l so_s behind a miss =
      let r = behind_events d c ne (made ++ later) a.0 l s t so_l so_s behind miss a.3 in
      let shape : s.shape ≡ l.shape = sym (ap (λ (z : Plain). z.shape) behind.like.same) in
      (r.0, (a.0, a.1, subst (λ (h : Shape). Step h program old a.0 a.1 new) shape a.2, r.1, a.4, a.5), r.2, miss)

  -- the job of the CPU that lags stays as it is, and the other CPU's are the same in both
  module _ (l w : World) (lag : IsLagging d made later l w) where
    same_jobs : SameJobs l.jobs w.jobs c
    same_jobs = subst (λ (ts : List Task). SameJobs l.jobs ts c) (sym lag.jobs)
        (set_others l.jobs d lag.job lag.task (InHand lag.now lag.rest) lag.at.listed lag.at.of c ne)

    pub at_l : (k : ℕ) (t : Task) (stage : Stage) → IsAt w.jobs c k t stage → IsAt l.jobs c k t stage
    at_l k t stage at = (same_jobs k t stage).0 at

    pub at_w : (k : ℕ) (t : Task) (stage : Stage) → IsAt l.jobs c k t stage → IsAt w.jobs c k t stage
    at_w k t stage at = (same_jobs k t stage).1 at

    pub free_l : IsFree w.jobs c → IsFree l.jobs c
    free_l free k t state left at = free k t state left (at_w k t (InHand state left) at)

    pub none_l : NoneWaits w.jobs c → NoneWaits l.jobs c
    none_l none k t input at = none k t input (at_w k t (Waiting input) at)

    pub below_l : (j : ℕ) → NoneWaitsBelow w.jobs c j → NoneWaitsBelow l.jobs c j
    below_l j none k t input less at = none k t input less (at_w k t (Waiting input) at)

    -- a job of the other CPU is another
    other_job : (k : ℕ) (t : Task) (stage : Stage) → IsAt l.jobs c k t stage → k ≢ lag.job
    other_job k t stage at same =
        let there : slice_get l.jobs lag.job ≡ Some t = subst (λ (n : ℕ). slice_get l.jobs n ≡ Some t) same at.listed in
        let both : Some lag.task ≡ Some t = sym lag.at.listed ∙ there in
        let one : lag.task ≡ t = cc in
        ne (sym at.of ∙ ap (λ (x : Task). x.cpu) (sym one) ∙ lag.at.of)

    jobs_set : (k : ℕ) (t : Task) (stage : Stage) → k ≢ lag.job → with_stage w.jobs k t stage ≡ with_stage (with_stage l.jobs k t stage)
        lag.job lag.task (InHand lag.now lag.rest)
    jobs_set k t stage far =
        ap (λ (ts : List Task). with_stage ts k t stage) lag.jobs
        ∙ set_apart l.jobs lag.job k (record lag.task { stage = InHand lag.now lag.rest }) (record t { stage = stage }) (λ e. far (sym e))

    pub lags_on : (k : ℕ) (t : Task) (was stage : Stage) (p s : Plain) (lists more : ℕ → Listing) → IsAt l.jobs c k t was → lists ≡ more →
        IsBehind d (made ++ later) p s
        → p.shape ≡ l.store.shape → (q : Plain) → PlainlyLegal p (map (entry d) made) q → IsLagging d made later
        (new_world l p k t stage lists) (new_world w s k t stage more)
    lags_on k t was stage p s lists more at same behind shape q legal =
        let far = other_job k t was at in
        record {
          programs = lag.programs;
          lists = same;
          job = lag.job;
          task = lag.task;
          state = lag.state;
          left = lag.left;
          now = lag.now;
          rest = lag.rest;
          at = record {
            listed = slice_get-set_other l.jobs k lag.job (record t { stage = stage }) (λ e. far (sym e)) ∙ lag.at.listed;
            of = lag.at.of;
            at = lag.at.at;
          };
          jobs = jobs_set k t stage far;
          program = lag.program;
          loaded = lag.loaded;
          answer = lag.answer;
          after = lag.after;
          step = subst (λ (h : Shape). Step h lag.program lag.state made lag.answer lag.after) (sym shape) lag.step;
          quiet = lag.quiet;
          store = q;
          legal = legal;
          behind = behind;
        }
