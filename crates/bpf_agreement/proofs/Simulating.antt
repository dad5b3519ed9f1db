-- Where each step has one event at most, and none changes a hash map, turns lead to what a history leads to.
use Rattle.std.proofs.Common.{◌≡◌, ◌≢◌, ℕ, zero, suc, ◌+◌, ◌<◌, ◌≤◌, Bool, true, false, List, [], ◌∷◌, ◌++◌, Some, inl, inr, refl, sym, ap, subst, ◌∙◌, arith}
use Rattle.std.specs.Prelude.{slice_get}
use Rattle.bpf_shared.specs.declared.events.Event.{Event}
use Rattle.bpf_shared.specs.declared.events.Event.TheVariants.{Begin, End}
use Rattle.bpf_shared.specs.declared.events.Entry.{Entry}
use Rattle.bpf_shared.specs.Shape.{Shape}
use Rattle.bpf_shared.specs.Store.{Plain, never}
use Rattle.bpf_shared.specs.Events.{Allowed, after_begin, after_end}
use Rattle.bpf_shared.specs.History.{Legal, events_of}
use Rattle.bpf_shared.proofs.Puts.{equal_or_not, put-same, put-other}
use Rattle.bpf_loader.specs.Loaded.{Loaded}
use Rattle.bpf_cpu.specs.declared.cpu.Cpu.{Cpu}
use Rattle.bpf_cpu.specs.declared.input.Input.{Input}
use Rattle.bpf_cpu.specs.declared.outcome.Outcome.{Outcome}
use Rattle.bpf_cpu.specs.State.{start}
use Rattle.bpf_cpu.specs.Step.{MakesSteps}
use Rattle.bpf_cpu.specs.Task.{Task, Waiting, Ended}
use Rattle.bpf_machine.specs.Schedule.{World}
use Rattle.bpf_agreement.proofs.Alike.{like_begin, like_end, allowed_here}
use Rattle.bpf_agreement.proofs.Standing.{Given, HasRun, HasRuns, IsInRun, IsIdle, IsOver, Standing, Between, Begun, Going, Over, Beside}
use Rattle.bpf_agreement.proofs.Standing.{goes_beside, own_event, other_event}
use Rattle.bpf_agreement.proofs.Going.{AllWait, begun_ready, going_ready, below_last, later_from, equal_or_less}
use Rattle.bpf_agreement.proofs.Acting.{AreCalm, IsKeptUp, goes, heads, tails}

pub not_empty : (e : Event) (es : List Event) → e ∷ es ≡ [] → ⊥
not_empty e es is = cc

not_over : (steps rest : List Event) → [] ≡ steps ++ End ∷ rest → ⊥
not_over [] rest is = cc
not_over (e ∷ es) rest is = cc

pub next_place : (j i : ℕ) → j + suc i ≡ suc j + i
next_place j i = omega arith

pub first_place : (j : ℕ) → j + 0 ≡ j
first_place j = omega arith

same_task : (one other : Task) → Some one ≡ Some other → one ≡ other
same_task one other e = cc

-- what a job's first state is known to be
abbrev pub AreGoodFirst : Given → (Loaded → Cpu → Type 0) → Type 0
AreGoodFirst g Good = (k : ℕ) (task : Task) (input : Input) (program : Loaded) → slice_get g.tasks k ≡ Some task → task.stage ≡ Waiting
    input → slice_get g.programs task.program ≡ Some program
    → Good program (start task.cpu input)

module _ (g : Given) (Good : Loaded → Cpu → Type 0) (w : World) (wait : AllWait g) (first : AreGoodFirst g Good)
    (up : IsKeptUp g.shape Good) (calm : AreCalm g.shape Good w) where
  module _ (c : ℕ) (s m : Plain) (z : World) (x : Entry) (xs : List Entry) (here : x.cpu ≡ c) (inside : c < g.shape.cpus)
      (b : Beside g Good w (x ∷ xs) s z) (allowed : Allowed s c x.event m) where
    others : (d : ℕ) → d ≢ c → events_of d xs ≡ events_of d (x ∷ xs)
    others d ne = sym (other_event d x xs (λ e. ne (sym e ∙ here)))

    -- ---- a run begins
    begins_here : (task : Task) (tasks : List Task) (end : Outcome) (ends : List Outcome) (j : ℕ) →
        ((i : ℕ) → slice_get (task ∷ tasks) i ≡ slice_get g.tasks (j + i)) → ((i : ℕ) → slice_get (end ∷ ends) i ≡ slice_get g.ends (j + i))
        → IsIdle g z c j → task.cpu ≡ c → (rest : List Event) → HasRun g task end (x.event ∷ events_of c xs) rest → HasRuns g c tasks ends
        rest → (y : World) × Beside g Good w xs m y
    begins_here task tasks end ends j jobs outcomes idle of rest run more =
        let is_begin : x.event ≡ Begin = heads x.event Begin (events_of c xs) (run.steps ++ End ∷ rest) run.is in
        let began : Allowed s c Begin m = subst (λ (e : Event). Allowed s c e m) is_begin allowed in
        let listed : slice_get g.tasks j ≡ Some task = ap (λ (i : ℕ). slice_get g.tasks i) (sym (first_place j)) ∙ sym (jobs 0) in
        let run' : IsInRun g Good c j task (start c run.input) task.budget (events_of c xs) = record {
          listed = listed;
          of = of;
          end = end;
          ends = ap (λ (i : ℕ). slice_get g.ends i) (sym (first_place j)) ∙ sym (outcomes 0);
          program = run.program;
          loaded = run.loaded;
          good = subst (λ (k : ℕ). Good run.program (start k run.input)) of (first j task run.input run.program listed run.waits run.loaded);
          steps = run.steps;
          last = run.last;
          makes = subst (λ (k : ℕ). MakesSteps g.shape run.program task.budget (start k run.input) run.steps end run.last) of run.makes;
          rest = rest;
          is = tails x.event Begin (events_of c xs) (run.steps ++ End ∷ rest) run.is;
          more = record {
            tasks = tasks;
            ends = ends;
            jobs = λ i. jobs (suc i) ∙ ap (λ (k : ℕ). slice_get g.tasks k) (next_place j i);
            outcomes = λ i. outcomes (suc i) ∙ ap (λ (k : ℕ). slice_get g.ends k) (next_place j i);
            runs = more;
          };
        } in
        let own : Standing g Good c (after_begin s c) z (events_of c xs) = Begun (record {
          job = j;
          task = task;
          input = run.input;
          waits = run.waits;
          runs = put-same s.running c c true refl;
          holds = put-same s.held c c never refl;
          idle = idle;
          run = run';
        }) in
        let both : Beside g Good w xs (after_begin s c) z =
        goes_beside g Good w (x ∷ xs) xs s (after_begin s c) z z c b inside b.schedule b.runs refl refl (like_begin s z.store c b.like) refl b.cpus others
        (λ d ne. record {
          ran = put-other s.running c d true ne;
          held = put-other s.held c d never ne;
          runs = refl;
          holds = refl;
          jobs = λ k
              one at its. refl;
        }) own (λ d. equal_or_not d c) in
        (z, subst (λ (y : Plain). Beside g Good w xs y z) (sym began.2) both)

    -- a job of another CPU is passed over
    idle_past : (task : Task) (j : ℕ) → slice_get g.tasks j ≡ Some task → task.cpu ≢ c → IsIdle g z c j → IsIdle g z c (suc j)
    idle_past task j listed ne idle = record {
      runs = idle.runs;
      ended = λ k one less at its. elim (equal_or_not k j) [
        | inl e ↦ absurd (ne (ap (λ (t : Task). t.cpu) (same_task task one (sym listed ∙ ap (λ (i : ℕ). slice_get g.tasks i) (sym e) ∙ at)) ∙ its))
        | inr other ↦ idle.ended k one (below_last k j less other) at its
      ];
      waits = λ k one from at its. idle.waits k one (later_from j k from) at its;
    }

    begins : (tasks : List Task) (ends : List Outcome) (j : ℕ) → ((i : ℕ) → slice_get tasks i ≡ slice_get g.tasks (j + i)) →
        ((i : ℕ) → slice_get ends i ≡ slice_get g.ends (j + i))
        → IsIdle g z c j → HasRuns g c tasks ends (x.event ∷ events_of c xs) → (y : World) × Beside g Good w xs m y
    begins [] ends j jobs outcomes idle none = absurd (not_empty x.event (events_of c xs) none)
    begins (task ∷ tasks) [] j jobs outcomes idle none = absurd none
    begins (task ∷ tasks) (end ∷ ends) j jobs outcomes idle (inl (of, (rest, run, more))) = begins_here task tasks end ends j jobs outcomes
        idle of rest run more
    begins (task ∷ tasks) (end ∷ ends) j jobs outcomes idle (inr (ne, more)) =
        begins tasks ends (suc j) (λ i. jobs (suc i) ∙ ap (λ (k : ℕ). slice_get g.tasks k) (next_place j i))
        (λ i. outcomes (suc i) ∙ ap (λ (k : ℕ). slice_get g.ends k) (next_place j i))
        (idle_past task j (ap (λ (i : ℕ). slice_get g.tasks i) (sym (first_place j)) ∙ sym (jobs 0)) ne idle) more

    -- ---- a run ends, whose job has ended before
    ends_later : IsOver g c s z (x.event ∷ events_of c xs) → (y : World) × Beside g Good w xs m y
    ends_later o =
        let ends : Allowed s c End m = subst (λ (e : Event). Allowed s c e m) (heads x.event End (events_of c xs) o.rest o.is) allowed in
        let own : Standing g Good c (after_end s c) z o.rest = Between
        (record { job = o.job; runs = put-same s.running c c false refl; idle = o.idle; more = o.more }) in
        let both : Beside g Good w xs (after_end s c) z =
        goes_beside g Good w (x ∷ xs) xs s (after_end s c) z z c b inside b.schedule b.runs refl refl (like_end s z.store c b.like) refl b.cpus others
        (λ d ne. record {
          ran = put-other s.running c d false ne;
          held = put-other s.held c d never ne;
          runs = refl;
          holds = refl;
          jobs =
              λ k one at its. refl;
        })
        (subst (Standing g Good c (after_end s c) z) (sym (tails x.event End (events_of c xs) o.rest o.is)) own) (λ d. equal_or_not d c) in
        (z, subst (λ (y : Plain). Beside g Good w xs y z) (sym ends.1) both)

    -- ---- one event of the history
    one_event : Standing g Good c s z (x.event ∷ events_of c xs) → (y : World) × Beside g Good w xs m y
    one_event (Between i) = begins i.more.tasks i.more.ends i.job i.more.jobs i.more.outcomes i.idle i.more.runs
    one_event (Begun i) =
        goes g Good w up calm i.task.budget c i.job i.task (start c i.input) s m z x xs here inside b
        (begun_ready g Good w c (x ∷ xs) s z (x.event ∷ events_of c xs) wait inside b i) i.run allowed
    one_event (Going i) =
        goes g Good w up calm i.left c i.job i.task i.state s m z x xs here inside b
        (going_ready g Good w c (x ∷ xs) s z (x.event ∷ events_of c xs) b i) i.run allowed
    one_event (Over i) = ends_later i

  -- ---- all of them
  -- the event is one of a CPU of the store
  has_cpu : (s m : Plain) (c : ℕ) (e : Event) → s.shape ≡ g.shape → ((d : ℕ) → g.shape.cpus ≤ d → s.running d ≡ false) → Allowed s c e m → c < g.shape.cpus
  has_cpu s m c e shape beyond allowed = elim (equal_or_less c g.shape.cpus) [
    | inl less ↦ less
    | inr from ↦ elim (allowed_here s m c e allowed) [
      | inl inside ↦ subst (λ (h : Shape). c < h.cpus) shape inside
      | inr runs ↦ absurd (runs_not (s.running c) (beyond c from) runs)
    ]
  ]
    where
      runs_not : (r : Bool) → r ≡ false → r ≡ true → ⊥
      runs_not r p q = cc

  pub simulates : (log : List Entry) (s last : Plain) (z : World) → Beside g Good w log s z → Legal s log last → (y : World) × Beside g Good w [] last y
  simulates [] s last z b legal = (z, subst (λ (x : Plain). Beside g Good w [] x z) legal b)
  simulates (x ∷ xs) s last z b (m, allowed, legal) =
      let inside = has_cpu s m x.cpu x.event b.shape (λ d from. (b.beyond d from).0) allowed in
      let r = one_event x.cpu s m z x xs refl inside b allowed (subst (Standing g Good x.cpu s z) (own_event x.cpu x xs refl) (b.each x.cpu inside)) in
      simulates xs m last r.0 r.1 legal

  -- ---- where the history ends, each job has
  none_left : (c : ℕ) (tasks : List Task) (ends : List Outcome) (i : ℕ) (task : Task) → HasRuns g c tasks ends [] → slice_get tasks i ≡ Some
      task → task.cpu ≡ c → ⊥
  none_left c [] ends i task runs at of = cc
  none_left c (t ∷ ts) [] i task runs at of = runs
  none_left c (t ∷ ts) (e ∷ es) i task (inl (its, (rest, run, more))) at of = no_run run.steps rest run.is
    where
      no_run : (steps rest : List Event) → [] ≡ Begin ∷ (steps ++ End ∷ rest) → ⊥
      no_run steps rest is = cc
  none_left c (t ∷ ts) (e ∷ es) zero task (inr (ne, more)) at of = ne (ap (λ (y : Task). y.cpu) (same_task t task at) ∙ of)
  none_left c (t ∷ ts) (e ∷ es) (suc i) task (inr (ne, more)) at of = none_left c ts es i task more at of

  ended_there : (c : ℕ) (last : Plain) (z : World) → Standing g Good c last z [] → (k : ℕ) (task : Task) → slice_get g.tasks k ≡ Some task → task.cpu ≡ c
      → (end : Outcome) × (slice_get g.ends k ≡ Some end) × (slice_get z.jobs k ≡ Some (record task { stage = Ended end }))
  ended_there c last z (Between i) k task at of = elim (equal_or_less k i.job) [
    | inl less ↦ i.idle.ended k task less at of
    | inr from ↦ let p = place i.job k from in absurd (none_left c i.more.tasks i.more.ends p.0 task i.more.runs
        (i.more.jobs p.0 ∙ ap (λ (n : ℕ). slice_get g.tasks n) p.1 ∙ at) of)
  ]
    where
      place : (j k : ℕ) → j ≤ k → (i : ℕ) × (j + i ≡ k)
      place zero k from = (k, omega arith)
      place (suc j) zero from = absurd (omega arith)
      place (suc j) (suc k) from = let p = place j k (omega arith) in (p.0, (let e : j + p.0 ≡ k = p.1 in omega arith))
  ended_there c last z (Begun i) k task at of = absurd (not_over i.run.steps i.run.rest i.run.is)
  ended_there c last z (Going i) k task at of = absurd (not_over i.run.steps i.run.rest i.run.is)
  ended_there c last z (Over i) k task at of = absurd (not_over [] i.rest i.is)

  pub all_ended : ((k : ℕ) (task : Task) → slice_get g.tasks k ≡ Some task → task.cpu < g.shape.cpus) → (last : Plain) (z : World) → Beside
      g Good w [] last z → (k : ℕ) (task : Task) → slice_get g.tasks k ≡ Some task
      → (end : Outcome) × (slice_get g.ends k ≡ Some end) × (slice_get z.jobs k ≡ Some (record task { stage = Ended end }))
  all_ended on last z b k task at = ended_there task.cpu last z (b.each task.cpu (on k task at)) k task at refl

  -- and no CPU is in a run, in the history or in the machine
  idle_there : (c : ℕ) (last : Plain) (z : World) → Standing g Good c last z [] → (last.running c ≡ false) × (z.store.running c ≡ false)
  idle_there c last z (Between i) = (i.runs, i.idle.runs)
  idle_there c last z (Begun i) = absurd (not_over i.run.steps i.run.rest i.run.is)
  idle_there c last z (Going i) = absurd (not_over i.run.steps i.run.rest i.run.is)
  idle_there c last z (Over i) = absurd (not_over [] i.rest i.is)

  pub all_idle : (last : Plain) (z : World) → Beside g Good w [] last z → (c : ℕ) → (last.running c ≡ false) × (z.store.running c ≡ false)
  all_idle last z b c = elim (equal_or_less c g.shape.cpus) [ inl inside ↦ idle_there c last z (b.each c inside) | inr from ↦ b.beyond c from ]
