-- A history, and a machine that takes turns beside it: how far each CPU is in both.
use Rattle.std.proofs.Common.{◌≡◌, ◌≢◌, ℕ, suc, ◌+◌, ◌<◌, ◌≤◌, Bool, true, false, if◌then◌else◌, List, [], ◌∷◌, ◌++◌, length, Some, ◌⊎◌}
use Rattle.std.proofs.Common.{inl, inr, sym, ap, subst, ◌∙◌, arith, eq-eqb, ne_eqb}
use Rattle.std.specs.Prelude.{slice_get}
use Rattle.bpf_shared.specs.declared.events.Event.{Event}
use Rattle.bpf_shared.specs.declared.events.Event.TheVariants.{Begin, End}
use Rattle.bpf_shared.specs.declared.events.Entry.{Entry}
use Rattle.bpf_shared.specs.Shape.{Shape}
use Rattle.bpf_shared.specs.Store.{Plain, never}
use Rattle.bpf_shared.specs.History.{events_of}
use Rattle.bpf_loader.specs.Loaded.{Loaded}
use Rattle.bpf_cpu.specs.declared.input.Input.{Input}
use Rattle.bpf_cpu.specs.declared.cpu.Cpu.{Cpu}
use Rattle.bpf_cpu.specs.declared.outcome.Outcome.{Outcome}
use Rattle.bpf_cpu.specs.State.{start}
use Rattle.bpf_cpu.specs.Step.{MakesSteps}
use Rattle.bpf_cpu.specs.Task.{Task, Waiting, InHand, Ended}
use Rattle.bpf_machine.specs.Schedule.{World, RunsSchedule}
use Rattle.bpf_agreement.proofs.Alike.{IsLike}

-- the store's shape, the programs, the jobs, each of which waits at first, and how each ends
pub record Given : Type 0 where
  pub shape : Shape
  pub programs : List Loaded
  pub tasks : List Task
  pub ends : List Outcome

-- ---- what is left of a CPU's events

-- a run of this job, from its begin to its end, and then the rest
pub record HasRun (g : Given) (task : Task) (end : Outcome) (events rest : List Event) : Type 0 where
  pub input : Input
  pub waits : task.stage ≡ Waiting input
  pub program : Loaded
  pub loaded : slice_get g.programs task.program ≡ Some program
  pub steps : List Event
  pub last : Cpu
  pub makes : MakesSteps g.shape program task.budget (start task.cpu input) steps end last
  pub is : events ≡ Begin ∷ (steps ++ End ∷ rest)

-- those of these jobs that are the CPU's, one after the other
abbrev pub HasRuns : Given → ℕ → List Task → List Outcome → List Event → Type 0
HasRuns g c [] ends events = events ≡ []
HasRuns g c (task ∷ tasks) [] events = ⊥
HasRuns g c (task ∷ tasks) (end ∷ ends) events =
    ((task.cpu ≡ c) × ((rest : List Event) × HasRun g task end events rest × HasRuns g c tasks ends rest))
    ⊎ ((task.cpu ≢ c) × HasRuns g c tasks ends events)

-- those of the jobs from the j-th on
pub record HasRunsFrom (g : Given) (c j : ℕ) (events : List Event) : Type 0 where
  pub tasks : List Task
  pub ends : List Outcome
  pub jobs : (i : ℕ) → slice_get tasks i ≡ slice_get g.tasks (j + i)
  pub outcomes : (i : ℕ) → slice_get ends i ≡ slice_get g.ends (j + i)
  pub runs : HasRuns g c tasks ends events

-- the rest of the run of the j-th job, from this state and with this many steps left, and what follows
pub record IsInRun (g : Given) (Good : Loaded → Cpu → Type 0) (c j : ℕ) (task : Task) (state : Cpu) (left : ℕ) (events : List Event) : Type 0 where
  pub listed : slice_get g.tasks j ≡ Some task
  pub of : task.cpu ≡ c
  pub end : Outcome
  pub ends : slice_get g.ends j ≡ Some end
  pub program : Loaded
  pub loaded : slice_get g.programs task.program ≡ Some program
  pub good : Good program state
  pub steps : List Event
  pub last : Cpu
  pub makes : MakesSteps g.shape program left state steps end last
  pub rest : List Event
  pub is : events ≡ steps ++ End ∷ rest
  pub more : HasRunsFrom g c (suc j) rest

-- ---- the machine's jobs

-- each of the CPU's jobs below the j-th has ended as it should
abbrev pub HaveEndedBelow : Given → World → ℕ → ℕ → Type 0
HaveEndedBelow g z c j =
    (k : ℕ) (task : Task) → k < j → slice_get g.tasks k ≡ Some task → task.cpu ≡ c
    → (end : Outcome) × (slice_get g.ends k ≡ Some end) × (slice_get z.jobs k ≡ Some (record task { stage = Ended end }))

-- from the j-th on they wait
abbrev pub WaitFrom : Given → World → ℕ → ℕ → Type 0
WaitFrom g z c j = (k : ℕ) (task : Task) → j ≤ k → slice_get g.tasks k ≡ Some task → task.cpu ≡ c → slice_get z.jobs k ≡ Some task

-- none is in hand
pub record IsIdle (g : Given) (z : World) (c j : ℕ) : Type 0 where
  pub runs : z.store.running c ≡ false
  pub ended : HaveEndedBelow g z c j
  pub waits : WaitFrom g z c j

-- ---- a CPU in both

-- it is in no run in either
pub record IsBetween (g : Given) (c : ℕ) (s : Plain) (z : World) (events : List Event) : Type 0 where
  pub job : ℕ
  pub runs : s.running c ≡ false
  pub idle : IsIdle g z c job
  pub more : HasRunsFrom g c job events

-- its run has begun in the history alone
pub record HasBegun (g : Given) (Good : Loaded → Cpu → Type 0) (c : ℕ) (s : Plain) (z : World) (events : List Event) : Type 0 where
  pub job : ℕ
  pub task : Task
  pub input : Input
  pub waits : task.stage ≡ Waiting input
  pub runs : s.running c ≡ true
  pub holds : s.held c ≡ never
  pub idle : IsIdle g z c job
  pub run : IsInRun g Good c job task (start c input) task.budget events

-- it has a job in hand, and is in a run in both
pub record IsGoing (g : Given) (Good : Loaded → Cpu → Type 0) (c : ℕ) (s : Plain) (z : World) (events : List Event) : Type 0 where
  pub job : ℕ
  pub task : Task
  pub state : Cpu
  pub left : ℕ
  pub runs : s.running c ≡ true
  pub runs_too : z.store.running c ≡ true
  pub holds : z.store.held c ≡ s.held c
  pub ended : HaveEndedBelow g z c job
  pub at : slice_get z.jobs job ≡ Some (record task { stage = InHand state left })
  pub waits : WaitFrom g z c (suc job)
  pub run : IsInRun g Good c job task state left events

-- its job has ended, and its run has in the machine alone
pub record IsOver (g : Given) (c : ℕ) (s : Plain) (z : World) (events : List Event) : Type 0 where
  pub job : ℕ
  pub rest : List Event
  pub runs : s.running c ≡ true
  pub idle : IsIdle g z c job
  pub is : events ≡ End ∷ rest
  pub more : HasRunsFrom g c job rest

pub data Standing (g : Given) (Good : Loaded → Cpu → Type 0) (c : ℕ) (s : Plain) (z : World) (events : List Event) : Type 0 where
  Between : IsBetween g c s z events → Standing g Good c s z events
  Begun : HasBegun g Good c s z events → Standing g Good c s z events
  Going : IsGoing g Good c s z events → Standing g Good c s z events
  Over : IsOver g c s z events → Standing g Good c s z events

-- ---- CPUs that do nothing
-- neither store, nor the machine's jobs, changed for the CPU
pub record IsUntouched (g : Given) (d : ℕ) (s m : Plain) (z y : World) : Type 0 where
  pub ran : m.running d ≡ s.running d
  pub held : m.held d ≡ s.held d
  pub runs : y.store.running d ≡ z.store.running d
  pub holds : y.store.held d ≡ z.store.held d
  pub jobs : (k : ℕ) (task : Task) → slice_get g.tasks k ≡ Some task → task.cpu ≡ d → slice_get y.jobs k ≡ slice_get z.jobs k

module _ (g : Given) (Good : Loaded → Cpu → Type 0) (d : ℕ) (s m : Plain) (z y : World) (u : IsUntouched g d s m z y) where
  ended_still : (j : ℕ) → HaveEndedBelow g z d j → HaveEndedBelow g y d j
  ended_still j h k task less listed of = let e = h k task less listed of in (e.0, e.1, u.jobs k task listed of ∙ e.2)

  wait_still : (j : ℕ) → WaitFrom g z d j → WaitFrom g y d j
  wait_still j h k task from listed of = u.jobs k task listed of ∙ h k task from listed of

  idle_still : (j : ℕ) → IsIdle g z d j → IsIdle g y d j
  idle_still j h = record { runs = u.runs ∙ h.runs; ended = ended_still j h.ended; waits = wait_still j h.waits }

  pub stands_still : (events : List Event) → Standing g Good d s z events → Standing g Good d m y events
  stands_still events (Between b) = Between (record { job = b.job; runs = u.ran ∙ b.runs; idle = idle_still b.job b.idle; more = b.more })
  stands_still events (Begun b) = Begun (record {
    job = b.job;
    task = b.task;
    input = b.input;
    waits = b.waits;
    runs = u.ran ∙ b.runs;
    holds = u.held ∙ b.holds;
    idle = idle_still b.job b.idle;
    run = b.run;
  })
  stands_still events (Going b) = Going (record {
    job = b.job;
    task = b.task;
    state = b.state;
    left = b.left;
    runs = u.ran ∙ b.runs;
    runs_too = u.runs ∙ b.runs_too;
    holds = u.holds ∙ b.holds ∙ sym u.held;
    ended = ended_still b.job b.ended;
    at = u.jobs b.job b.task b.run.listed b.run.of ∙ b.at;
    waits = wait_still (suc b.job) b.waits;
    run = b.run;
  })
  stands_still events (Over b) = Over (record { job = b.job; rest = b.rest; runs = u.ran ∙ b.runs; idle = idle_still b.job b.idle; is = b.is; more = b.more })

-- ---- a CPU's own events
pub own_event : (c : ℕ) (x : Entry) (xs : List Entry) → x.cpu ≡ c → events_of c (x ∷ xs) ≡ x.event ∷ events_of c xs
own_event c x xs e = ap (λ (b : Bool). if b then x.event ∷ events_of c xs else events_of c xs) (eq-eqb x.cpu c e)

pub other_event : (c : ℕ) (x : Entry) (xs : List Entry) → x.cpu ≢ c → events_of c (x ∷ xs) ≡ events_of c xs
other_event c x xs ne = ap (λ (b : Bool). if b then x.event ∷ events_of c xs else events_of c xs) (ne_eqb x.cpu c ne)

-- ---- both
-- each job of the machine is one of the jobs of before, on the same CPU
abbrev pub HaveCpus : Given → World → Type 0
HaveCpus g z = (k : ℕ) (task : Task) → slice_get z.jobs k ≡ Some task → (first : Task) × (slice_get g.tasks k ≡ Some first) × (task.cpu ≡ first.cpu)

-- the rest of a history, from this store on, and beside it a machine that a schedule leads to
pub record Beside (g : Given) (Good : Loaded → Cpu → Type 0) (w : World) (log : List Entry) (s : Plain) (z : World) : Type 0 where
  pub schedule : List ℕ
  pub runs : RunsSchedule w schedule z
  pub programs : z.programs ≡ g.programs
  pub shape : s.shape ≡ g.shape
  pub like : IsLike s z.store
  pub size : length z.jobs ≡ length g.tasks
  pub cpus : HaveCpus g z
  pub each : (c : ℕ) → c < g.shape.cpus → Standing g Good c s z (events_of c log)
  pub beyond : (c : ℕ) → g.shape.cpus ≤ c → (s.running c ≡ false) × (z.store.running c ≡ false)

-- one CPU went on, in the history, in the machine, or in both
pub goes_beside : (g : Given) (Good : Loaded → Cpu → Type 0) (w : World) (log next : List Entry) (s m : Plain) (z y : World) (c : ℕ) →
    Beside g Good w log s z → c < g.shape.cpus
    → (schedule : List ℕ) → RunsSchedule w schedule y → y.programs ≡ z.programs → m.shape ≡ s.shape → IsLike m y.store → length y.jobs ≡
    length z.jobs → HaveCpus g y
    → ((d : ℕ) → d ≢ c → events_of d next ≡ events_of d log) → ((d : ℕ) → d ≢ c → IsUntouched g d s m z y) → Standing g Good c m y (events_of c next)
    → ((d : ℕ) → (d ≡ c) ⊎ (d ≢ c)) → Beside g Good w next m y
goes_beside g Good w log next s m z y c b inside schedule runs programs shape like size cpus events others own which = record {
  schedule = schedule;
  runs = runs;
  programs = programs ∙ b.programs;
  shape = shape ∙ b.shape;
  like = like;
  size = size ∙ b.size;
  cpus = cpus;
  each = λ d below. elim (which d) [
    | inl e ↦ subst (λ (k : ℕ). Standing g Good k m y (events_of k next)) (sym e) own
    | inr ne ↦ subst (Standing g Good d m y) (sym (events d ne)) (stands_still g Good d s m z y (others d ne) (events_of d log) (b.each d below))
  ];
  beyond = λ d from.
      let u = others d (beyond_not c d g.shape.cpus inside from) in
      (u.ran ∙ (b.beyond d from).0, u.runs ∙ (b.beyond d from).1);
}
  where
    beyond_not : (c d n : ℕ) → c < n → n ≤ d → d ≢ c
    beyond_not c d n below from e = omega arith
