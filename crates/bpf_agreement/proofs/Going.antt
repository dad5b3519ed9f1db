-- The turns that a machine takes beside one event of a history.
use Rattle.std.proofs.Common.{◌≡◌, ◌≢◌, ℕ, zero, suc, ◌<◌, ◌≤◌, true, false, List, [], ◌∷◌, ◌++◌, length, Some, ◌⊎◌, inl, inr, refl, sym, ap, subst, ◌∙◌, arith}
use Rattle.std.specs.Prelude.{slice_get, slice_set}
use Rattle.bpf_base.proofs.Lists.{slice_get-set_known, slice_get-set_other}
use Rattle.bpf_shared.specs.declared.events.Event.{Event}
use Rattle.bpf_shared.specs.declared.events.Entry.{Entry}
use Rattle.bpf_shared.specs.Shape.{Shape}
use Rattle.bpf_shared.specs.Store.{Plain, never}
use Rattle.bpf_shared.specs.Events.{after_begin}
use Rattle.bpf_shared.specs.History.{events_of}
use Rattle.bpf_shared.proofs.Puts.{equal_or_not, put-same, put-other}
use Rattle.bpf_loader.specs.Loaded.{Loaded}
use Rattle.bpf_cpu.specs.declared.cpu.Cpu.{Cpu}
use Rattle.bpf_cpu.specs.declared.input.Input.{Input}
use Rattle.bpf_cpu.specs.declared.outcome.Outcome.{Outcome}
use Rattle.bpf_cpu.specs.State.{start}
use Rattle.bpf_cpu.specs.Task.{Stage, Task, Waiting, InHand, Ended}
use Rattle.bpf_machine.specs.Hands.{IsFree, NoneWaitsBelow}
use Rattle.bpf_machine.specs.Schedule.{World}
use Rattle.bpf_machine.proofs.TurnLaws.{runs_more}
use Rattle.bpf_agreement.specs.Steps.{IsNextStep}
use Rattle.bpf_agreement.proofs.Alike.{IsLike, like_begun}
use Rattle.bpf_agreement.proofs.Turns.{Turns}
use Rattle.bpf_agreement.proofs.Standing.{Given, HaveEndedBelow, WaitFrom, IsIdle, HasBegun, IsGoing, Standing, IsUntouched, HaveCpus, Beside, goes_beside}

length_set : {A : Type 0} (xs : List A) (i : ℕ) (a : A) → length (slice_set xs i a) ≡ length xs
length_set [] i a = refl
length_set (x ∷ xs) zero a = refl
length_set (x ∷ xs) (suc i) a = ap suc (length_set xs i a)

-- ---- numbers and stages
pub equal_or_less : (k j : ℕ) → (k < j) ⊎ (j ≤ k)
equal_or_less zero zero = inr (omega arith)
equal_or_less zero (suc j) = inl (omega arith)
equal_or_less (suc k) zero = inr (omega arith)
equal_or_less (suc k) (suc j) = elim (equal_or_less k j) [ inl h ↦ inl (omega arith) | inr h ↦ inr (omega arith) ]

pub self_from : (k : ℕ) → k ≤ k
self_from k = omega arith

pub later_from : (j k : ℕ) → suc j ≤ k → j ≤ k
later_from j k h = omega arith

not_self : (j : ℕ) → j < j → ⊥
not_self j h = omega arith

not_later : (j : ℕ) → suc j ≤ j → ⊥
not_later j h = omega arith

pub below_last : (k j : ℕ) → k < suc j → k ≢ j → k < j
below_last k j h ne = omega arith

in_hand_not_ended : (state : Cpu) (left : ℕ) (end : Outcome) → InHand state left ≡ Ended end → ⊥
in_hand_not_ended state left end e = cc

in_hand_not_waiting : (state : Cpu) (left : ℕ) (input : Input) → InHand state left ≡ Waiting input → ⊥
in_hand_not_waiting state left input e = cc

waiting_not_ended : (input : Input) (end : Outcome) → Waiting input ≡ Ended end → ⊥
waiting_not_ended input end e = cc

some_same : {A : Type 0} (x y : A) → Some x ≡ Some y → x ≡ y
some_same x y e = cc

apart : (tasks : List Task) (k j : ℕ) (one other : Task) (c : ℕ) → slice_get tasks k ≡ Some one → slice_get tasks j ≡ Some other → other.cpu
    ≡ c → one.cpu ≢ c → k ≢ j
apart tasks k j one other c here there of ne same =
    let both : Some one ≡ Some other = sym here ∙ ap (slice_get tasks) same ∙ there in
    ne (ap (λ (t : Task). t.cpu) (some_same one other both) ∙ of)

-- the CPU's next turn is a step of this run, over a store that is like that of the history
pub record IsReady (g : Given) (c j : ℕ) (task : Task) (state : Cpu) (left : ℕ) (s : Plain) (z : World) : Type 0 where
  -- the job as the machine has it
  pub now : Task
  pub listed : slice_get z.jobs j ≡ Some now
  pub same : now ≡ record task { stage = now.stage }
  pub store : Plain
  pub next : IsNextStep z c j now state left store
  pub like : IsLike s store
  pub runs : s.running c ≡ true
  pub runs_too : store.running c ≡ true
  pub holds : store.held c ≡ s.held c
  pub others_run : (d : ℕ) → d ≢ c → store.running d ≡ z.store.running d
  pub others_hold : (d : ℕ) → d ≢ c → store.held d ≡ z.store.held d
  pub ended : HaveEndedBelow g z c j
  pub waits : WaitFrom g z c (suc j)

-- ---- what a CPU has that is to go on
-- each job waits at first
abbrev pub AllWait : Given → Type 0
AllWait g = (k : ℕ) (task : Task) → slice_get g.tasks k ≡ Some task → (input : Input) × (task.stage ≡ Waiting input)

stage_of : (z : World) (k : ℕ) (one other : Task) (was now : Stage) → slice_get z.jobs k ≡ Some one → slice_get z.jobs k ≡ Some other →
    one.stage ≡ was → other.stage ≡ now → was ≡ now
stage_of z k one other was now a b p q = sym p ∙ ap (λ (t : Task). t.stage) (some_same one other (sym a ∙ b)) ∙ q

pub idle_free : (g : Given) (z : World) (c j : ℕ) → AllWait g → HaveCpus g z → IsIdle g z c j → IsFree z.jobs c
idle_free g z c j wait cpus idle k task state left at =
    let first = cpus k task at.listed in
    let of : first.0.cpu ≡ c = sym first.2 ∙ at.of in
    elim (equal_or_less k j) [
      | inl less ↦
          let e = idle.ended k first.0 less first.1 of in
          in_hand_not_ended state left e.0 (stage_of z k task (record first.0 { stage = Ended e.0 }) (InHand state left) (Ended e.0) at.listed e.2 at.at refl)
      | inr from ↦
          let there = idle.waits k first.0 from first.1 of in
          let waits = wait k first.0 first.1 in
          in_hand_not_waiting state left waits.0 (stage_of z k task first.0 (InHand state left) (Waiting waits.0) at.listed there at.at waits.1)
    ]

pub idle_lowest : (g : Given) (z : World) (c j : ℕ) → HaveCpus g z → IsIdle g z c j → NoneWaitsBelow z.jobs c j
idle_lowest g z c j cpus idle k task input less at =
    let first = cpus k task at.listed in
    let e = idle.ended k first.0 less first.1 (sym first.2 ∙ at.of) in
    waiting_not_ended input e.0 (stage_of z k task (record first.0 { stage = Ended e.0 }) (Waiting input) (Ended e.0) at.listed e.2 at.at refl)

pub begun_ready : (g : Given) (Good : Loaded → Cpu → Type 0) (w : World) (c : ℕ) (log : List Entry) (s : Plain) (z : World)
    (events : List Event) → AllWait g → c < g.shape.cpus → Beside g Good w log s z
    → (b : HasBegun g Good c s z events) → IsReady g c b.job b.task (start c b.input) b.task.budget s z
begun_ready g Good w c log s z events wait inside both b =
    let there = b.idle.waits b.job b.task (self_from b.job) b.run.listed b.run.of in
    let cpus : c < z.store.shape.cpus = subst (λ (h : Shape). c < h.cpus) (sym (ap (λ (x : Plain). x.shape) both.like ∙ both.shape)) inside in
    record {
      now = b.task;
      listed = there;
      same = refl;
      store = after_begin z.store c;
      next = inr (record {
        free = idle_free g z c b.job wait both.cpus b.idle;
        input = b.input;
        at = record { listed = there; of = b.run.of; at = b.waits };
        lowest = idle_lowest g z c b.job both.cpus b.idle;
        begun = ((cpus, b.idle.runs, refl), tt);
        fresh = refl;
        budget = refl;
      });
      like = like_begun s z.store c both.like;
      runs = b.runs;
      runs_too = put-same z.store.running c c true refl;
      holds = put-same z.store.held c c never refl ∙ sym b.holds;
      others_run = λ d ne. put-other z.store.running c d true ne;
      others_hold = λ d ne. put-other z.store.held c d never ne;
      ended = b.idle.ended;
      waits = λ k task from listed of. b.idle.waits k task (later_from b.job k from) listed of;
    }

pub going_ready : (g : Given) (Good : Loaded → Cpu → Type 0) (w : World) (c : ℕ) (log : List Entry) (s : Plain) (z : World)
    (events : List Event) → Beside g Good w log s z
    → (b : IsGoing g Good c s z events) → IsReady g c b.job b.task b.state b.left s z
going_ready g Good w c log s z events both b = record {
  now = record b.task { stage = InHand b.state b.left };
  listed = b.at;
  same = refl;
  store = z.store;
  next = inl (record { listed = b.at; of = b.run.of; at = refl }, refl);
  like = both.like;
  runs = b.runs;
  runs_too = b.runs_too;
  holds = b.holds;
  others_run = λ d ne. refl;
  others_hold = λ d ne. refl;
  ended = b.ended;
  waits = b.waits;
}

-- ---- after a turn
module _ (g : Given) (c j : ℕ) (task : Task) (state : Cpu) (left : ℕ) (s : Plain) (z : World) (r : IsReady g c j task state left s z)
    (listed : slice_get g.tasks j ≡ Some task) (of : task.cpu ≡ c)
    (stage : Stage) (u : Plain) (t : Turns z c j r.now stage u) where
  pub there : slice_get t.next.jobs j ≡ Some (record task { stage = stage })
  there = ap (λ (ts : List Task). slice_get ts j) t.jobs ∙ slice_get-set_known z.jobs j (record r.now { stage = stage }) r.now r.listed ∙ ap
      (λ (x : Task). Some (record x { stage = stage })) r.same

  pub elsewhere : (k : ℕ) → k ≢ j → slice_get t.next.jobs k ≡ slice_get z.jobs k
  elsewhere k ne = ap (λ (ts : List Task). slice_get ts k) t.jobs ∙ slice_get-set_other z.jobs j k (record r.now { stage = stage }) ne

  pub size : length t.next.jobs ≡ length z.jobs
  size = ap (λ (ts : List Task). length ts) t.jobs ∙ length_set z.jobs j (record r.now { stage = stage })

  pub cpus : HaveCpus g z → HaveCpus g t.next
  cpus before k one at = elim (equal_or_not k j) [
    | inl e ↦
        let is : one ≡ record task { stage = stage } = some_same one (record task { stage = stage })
        (sym at ∙ ap (λ (i : ℕ). slice_get t.next.jobs i) e ∙ there) in
        (task, ap (λ (i : ℕ). slice_get g.tasks i) e ∙ listed, ap (λ (x : Task). x.cpu) is)
    | inr ne ↦ before k one (sym (elsewhere k ne) ∙ at)
  ]

  pub waits_after : WaitFrom g t.next c (suc j)
  waits_after k one from at its = elsewhere k (λ e. not_later j (subst (λ (i : ℕ). suc j ≤ i) e from)) ∙ r.waits k one from at its

  pub ended_before : HaveEndedBelow g t.next c j
  ended_before k one less at its =
      let e = r.ended k one less at its in
      (e.0, e.1, elsewhere k (λ same. not_self j (subst (λ (i : ℕ). i < j) same less)) ∙ e.2)

  untouched : (m : Plain) (d : ℕ) → d ≢ c → m.running d ≡ s.running d → m.held d ≡ s.held d → u.running d ≡ r.store.running d → u.held d ≡
      r.store.held d → IsUntouched g d s m z t.next
  untouched m d ne ran held runs holds = record {
    ran = ran;
    held = held;
    runs = ap (λ (x : Plain). x.running d) t.store ∙ runs ∙ r.others_run d ne;
    holds = ap (λ (x : Plain). x.held d) t.store ∙ holds ∙ r.others_hold d ne;
    jobs = λ k one at its. elsewhere k (apart g.tasks k j one task c at listed of (λ e. ne (sym its ∙ e)));
  }

  -- the rest of the history from the store m on, and the machine after the turn
  pub after : (Good : Loaded → Cpu → Type 0) (w : World) (log next : List Entry) (m : Plain) → Beside g Good w log s z → c < g.shape.cpus →
      m.shape ≡ s.shape → IsLike m u
      → ((d : ℕ) → d ≢ c → m.running d ≡ s.running d) → ((d : ℕ) → d ≢ c → m.held d ≡ s.held d) →
      ((d : ℕ) → d ≢ c → u.running d ≡ r.store.running d) → ((d : ℕ) → d ≢ c → u.held d ≡ r.store.held d)
      → ((d : ℕ) → d ≢ c → events_of d next ≡ events_of d log) → Standing g Good c m t.next (events_of c next) → Beside g Good w next m t.next
  after Good w log next m b inside shape like ran held runs holds events own =
      goes_beside g Good w log next s m z t.next c b inside (b.schedule ++ c ∷ []) (runs_more w b.schedule c z t.answer t.next b.runs t.takes) t.programs shape
      (subst (IsLike m) (sym t.store) like) size (cpus b.cpus) events
      (λ d ne. untouched m d ne (ran d ne) (held d ne) (runs d ne) (holds d ne)) own (λ d. equal_or_not d c)

-- the job has ended as it should
pub idle_after : (g : Given) (c j : ℕ) (task : Task) (state : Cpu) (left : ℕ) (s : Plain) (z : World)
    (r : IsReady g c j task state left s z) (listed : slice_get g.tasks j ≡ Some task) (of : task.cpu ≡ c)
    (end : Outcome) (u : Plain) (t : Turns z c j r.now (Ended end) u) → slice_get g.ends j ≡ Some end → u.running c ≡ false → IsIdle g t.next c (suc j)
idle_after g c j task state left s z r listed of end u t ends none = record {
  runs = ap (λ (x : Plain). x.running c) t.store ∙ none;
  ended = λ k one less at its. elim (equal_or_not k j) [
    | inl e ↦
        let same : one ≡ task = some_same one task (sym at ∙ ap (λ (i : ℕ). slice_get g.tasks i) e ∙ listed) in (
          end,
          ap (λ (i : ℕ). slice_get g.ends i) e ∙ ends,
          ap (λ (i : ℕ). slice_get t.next.jobs i) e ∙ there g c j task state left s z r listed
              of (Ended end) u t ∙ ap (λ (x : Task). Some (record x { stage = Ended end })) (sym same),
        )
    | inr ne ↦ ended_before g c j task state left s z r listed of (Ended end) u t k one (below_last k j less ne) at its
  ];
  waits = waits_after g c j task state left s z r listed of (Ended end) u t;
}
