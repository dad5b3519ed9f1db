-- The turns that a machine takes for one event of a history, of a CPU whose run is under way.
use Rattle.std.proofs.Common.{◌≡◌, ◌≢◌, ℕ, zero, suc, ◌<◌, Bool, true, false, List, [], ◌∷◌, ◌++◌, Some, None, inl, inr, refl, sym, ap, subst, ◌∙◌, arith}
use Rattle.std.specs.Prelude.{slice_get}
use Rattle.bpf_shared.specs.declared.events.Event.{Event}
use Rattle.bpf_shared.specs.declared.events.Event.TheVariants.{End}
use Rattle.bpf_shared.specs.declared.events.Entry.{Entry}
use Rattle.bpf_shared.specs.Shape.{Shape}
use Rattle.bpf_shared.specs.Store.{Plain, never}
use Rattle.bpf_shared.specs.Events.{Allowed, after_end}
use Rattle.bpf_shared.specs.History.{events_of}
use Rattle.bpf_shared.proofs.Puts.{put-same, put-other}
use Rattle.bpf_loader.specs.Loaded.{Loaded}
use Rattle.bpf_cpu.specs.declared.cpu.Cpu.{Cpu}
use Rattle.bpf_cpu.specs.declared.outcome.Progress.{Progress}
use Rattle.bpf_cpu.specs.declared.outcome.Progress.TheVariants.{On, Done}
use Rattle.bpf_cpu.specs.Step.{Step, MakesSteps}
use Rattle.bpf_cpu.specs.Task.{Task, InHand, Ended}
use Rattle.bpf_machine.specs.Schedule.{World, Advances, RunsSchedule}
use Rattle.bpf_agreement.specs.Steps.{IsNextStep}
use Rattle.bpf_agreement.proofs.Alike.{IsLike, LeavesMaps, IsMadeToo, made_too, like_ended, like_end}
use Rattle.bpf_agreement.proofs.Turns.{Turns, goes_on, goes_out}
use Rattle.bpf_agreement.proofs.Standing.{Given, IsInRun, IsGoing, Standing, Between, Going, Over, Beside, own_event, other_event}
use Rattle.bpf_agreement.proofs.Going.{IsReady, after, there, waits_after, ended_before, idle_after, going_ready}

-- ---- lists of events
pub heads : (x y : Event) (xs ys : List Event) → x ∷ xs ≡ y ∷ ys → x ≡ y
heads x y xs ys e = cc

pub tails : (x y : Event) (xs ys : List Event) → x ∷ xs ≡ y ∷ ys → xs ≡ ys
tails x y xs ys e = cc

-- a step that the machine is about to make, and that the history makes: its first event is allowed there
pub record IsTaken (h : Shape) (Good : Loaded → Cpu → Type 0) (w : World) (s m : Plain) (c : ℕ) (e : Event) (more : List Event) : Type 0 where
  pub schedule : List ℕ
  pub world : World
  pub runs : RunsSchedule w schedule world
  pub job : ℕ
  pub task : Task
  pub state : Cpu
  pub left : ℕ
  pub store : Plain
  pub shape : store.shape ≡ h
  pub next : IsNextStep world c job task state (suc left) store
  pub program : Loaded
  pub loaded : slice_get world.programs task.program ≡ Some program
  pub good : Good program state
  pub answer : Progress
  pub new : Cpu
  pub step : Step store.shape program state (e ∷ more) answer new
  pub like : IsLike s store
  pub runs_too : store.running c ≡ true
  pub holds : store.held c ≡ s.held c
  pub allowed : Allowed s c e m

-- each such step has this event alone, and leaves the hash maps as they are; and what is so of the
-- state before it is so of the one after it
abbrev pub AreCalm : Shape → (Loaded → Cpu → Type 0) → World → Type 0
AreCalm h Good w = (s m : Plain) (c : ℕ) (e : Event) (more : List Event) (t : IsTaken h Good w s m c e more)
    → (more ≡ []) × LeavesMaps e × (t.answer ≡ On → Good t.program t.new)

-- that stays so after a step without an event
abbrev pub IsKeptUp : Shape → (Loaded → Cpu → Type 0) → Type 0
IsKeptUp shape Good = (program : Loaded) (state mid : Cpu) → Good program state → Step shape program state [] On mid → Good program mid

module _ (g : Given) (Good : Loaded → Cpu → Type 0) (w : World) (c j : ℕ) (task : Task) (state : Cpu) (left : ℕ) (s m : Plain) (z : World)
    (x : Entry) (xs : List Entry) (here : x.cpu ≡ c) (inside : c < g.shape.cpus)
    (b : Beside g Good w (x ∷ xs) s z) (r : IsReady g c j task state left s z)
    (run : IsInRun g Good c j task state left (x.event ∷ events_of c xs)) (allowed : Allowed s c x.event m) where
  abbrev Reaches : Type 0
  Reaches = (y : World) × Beside g Good w xs m y

  loaded : slice_get z.programs r.now.program ≡ Some run.program
  loaded = ap (λ (ps : List Loaded). slice_get ps r.now.program) b.programs ∙ ap (λ (t : Task). slice_get g.programs t.program) r.same ∙ run.loaded

  shape : g.shape ≡ r.store.shape
  shape = sym (ap (λ (y : Plain). y.shape) r.like ∙ b.shape)

  others : (d : ℕ) → d ≢ c → events_of d xs ≡ events_of d (x ∷ xs)
  others d ne = sym (other_event d x xs (λ e. ne (sym e ∙ here)))

  -- the run ends in both, by a turn without an event
  finishes : (new : Cpu) (rest : ℕ) → Advances run.program c r.store state left (Some run.end) r.store new rest → run.steps ≡ [] → Reaches
  finishes new rest advances none =
      let is : x.event ∷ events_of c xs ≡ End ∷ run.rest = run.is ∙ ap (λ (es : List Event). es ++ End ∷ run.rest) none in
      let ends : Allowed s c End m = subst (λ (e : Event). Allowed s c e m) (heads x.event End (events_of c xs) run.rest is) allowed in
      let u : Plain = after_end r.store c in
      let t = goes_out z c j r.now state new left rest run.program run.end r.store r.store u r.next loaded advances ((r.runs_too, refl), tt) in
      let own : Standing g Good c (after_end s c) t.next run.rest = Between (record {
        job = suc j;
        runs = put-same s.running c c false refl;
        idle = idle_after g c j task state left s z r run.listed run.of run.end u t run.ends (put-same r.store.running c c false refl);
        more = run.more;
      }) in
      let both : Beside g Good w xs (after_end s c) t.next =
      after g c j task state left s z r run.listed run.of (Ended run.end) u t Good w (x ∷ xs) xs (after_end s c) b inside refl
      (like_ended (after_end s c) r.store c (like_end s r.store c r.like))
      (λ d ne. put-other s.running c d false ne) (λ d ne. put-other s.held c d never ne) (λ d ne. put-other r.store.running c d false ne)
      (λ d ne. put-other r.store.held c d never ne) others
      (subst (Standing g Good c (after_end s c) t.next) (sym (tails x.event End (events_of c xs) run.rest is)) own) in
      (t.next, subst (λ (y : Plain). Beside g Good w xs y t.next) (sym ends.1) both)

  -- the turn makes the event, and the job ends
  ends_by : (made : IsMadeToo s m r.store c x.event) (new : Cpu) (rest : ℕ) → Advances run.program c r.store state left (Some run.end)
      made.next new rest → events_of c xs ≡ End ∷ run.rest → Reaches
  ends_by made new rest advances is =
      let u : Plain = after_end made.next c in
      let t = goes_out z c j r.now state new left rest run.program run.end r.store made.next u r.next loaded advances
      ((ap (λ (f : ℕ → Bool). f c) made.runs ∙ r.runs_too, refl), tt) in
      let own : Standing g Good c m t.next (events_of c xs) = Over (record {
        job = suc j;
        rest = run.rest;
        runs = ap (λ (f : ℕ → Bool). f c) made.ran ∙ r.runs;
        idle = idle_after g c j task state left s z r run.listed run.of run.end u t run.ends (put-same made.next.running c c false refl);
        is = is;
        more = run.more;
      }) in (
        t.next,
        after g c j task state left s z r run.listed run.of (Ended run.end) u t Good w (x ∷ xs) xs m b inside made.shape (like_ended m made.next c made.like)
            (λ d ne. ap (λ (f : ℕ → Bool). f d) made.ran) made.other
            (λ d ne. put-other made.next.running c d false ne ∙ ap (λ (f : ℕ → Bool). f d) made.runs)
            (λ d ne. put-other made.next.held c d never ne ∙ made.others d ne)
            others own,
      )

  -- the job is in hand after a turn
  in_hand : (later : Plain) (events : List Event) (new : Cpu) (n : ℕ) (u : Plain) (t : Turns z c j r.now (InHand new n) u) → later.running c
      ≡ true → u.running c ≡ true → u.held c ≡ later.held c → IsInRun g Good c j task new n events
      → IsGoing g Good c later t.next events
  in_hand later events new n u t runs runs_too holds run' = record {
    job = j;
    task = task;
    state = new;
    left = n;
    runs = runs;
    runs_too = ap (λ (y : Plain). y.running c) t.store ∙ runs_too;
    holds = ap (λ (y : Plain). y.held c) t.store ∙ holds;
    ended = ended_before g c j task state left s z r run.listed run.of (InHand new n) u t;
    at = there g c j task state left s z r run.listed run.of (InHand new n) u t;
    waits = waits_after g c j task state left s z r run.listed run.of (InHand new n) u t;
    run = run';
  }

  -- the turn makes the event, and the job goes on
  acts : (made : IsMadeToo s m r.store c x.event) (new : Cpu) (n : ℕ) → Advances run.program c r.store state left None made.next new n →
      IsInRun g Good c j task new n (events_of c xs) → Reaches
  acts made new n advances run' =
      let t = goes_on z c j r.now state new left n run.program r.store made.next r.next loaded advances in
      let own : Standing g Good c m t.next (events_of c xs) =
      Going (in_hand m (events_of c xs) new n made.next t (ap (λ (f : ℕ → Bool). f c) made.ran ∙ r.runs)
      (ap (λ (f : ℕ → Bool). f c) made.runs ∙ r.runs_too) made.own run') in (
        t.next,
        after g c j task state left s z r run.listed run.of (InHand new n) made.next t Good w (x ∷ xs) xs m b inside made.shape made.like
            (λ d ne. ap (λ (f : ℕ → Bool). f d) made.ran) made.other (λ d ne. ap (λ (f : ℕ → Bool). f d) made.runs) made.others others own,
      )

  -- a turn without an event, after which the job goes on
  quiet : (new : Cpu) (n : ℕ) → Advances run.program c r.store state left None r.store new n → IsInRun g Good c j task new n
      (x.event ∷ events_of c xs) → (y : World) × Beside g Good w (x ∷ xs) s y × IsReady g c j task new n s y
  unfolding in_hand
  quiet new n advances run' =
      let t = goes_on z c j r.now state new left n run.program r.store r.store r.next loaded advances in
      let going : IsGoing g Good c s t.next (x.event ∷ events_of c xs) = in_hand s (x.event ∷ events_of c xs) new n r.store t r.runs r.runs_too r.holds run' in
      let own : Standing g Good c s t.next (events_of c (x ∷ xs)) = subst (Standing g Good c s t.next) (sym (own_event c x xs here)) (Going going) in
      let both : Beside g Good w (x ∷ xs) s t.next =
      after g c j task state left s z r run.listed run.of (InHand new n) r.store t Good w (x ∷ xs) (x ∷ xs) s b inside refl r.like
      (λ d ne. refl) (λ d ne. refl) (λ d ne. refl) (λ d ne. refl) (λ d ne. refl) own in
      (t.next, both, going_ready g Good w c (x ∷ xs) s t.next (x.event ∷ events_of c xs) both going)

  -- ---- one turn
  module _ (up : IsKeptUp g.shape Good) (calm : AreCalm g.shape Good w) where
    -- the rest of the run after a step that goes on
    left_over : (rest events : List Event) (mid : Cpu) (n : ℕ) → Good run.program mid → MakesSteps g.shape run.program n mid rest run.end
        run.last → events ≡ rest ++ End ∷ run.rest
        → IsInRun g Good c j task mid n events
    left_over rest events mid n good makes is = record {
      listed = run.listed;
      of = run.of;
      end = run.end;
      ends = run.ends;
      program = run.program;
      loaded = run.loaded;
      good = good;
      steps = rest;
      last = run.last;
      makes = makes;
      rest = run.rest;
      is = is;
      more = run.more;
    }

    -- a step whose first event is this one has no other
    alone : (n : ℕ) → left ≡ suc n → (e : Event) (more : List Event) (answer : Progress) (new : Cpu) → Step g.shape run.program state
        (e ∷ more) answer new → x.event ≡ e → (more ≡ []) × LeavesMaps x.event × (answer ≡ On → Good run.program new)
    alone n lefts e more answer new step same = calm s m c x.event more (record {
      schedule = b.schedule;
      world = z;
      runs = b.runs;
      job = j;
      task = r.now;
      state = state;
      left = n;
      store = r.store;
      shape = sym shape;
      next = subst (λ (k : ℕ). IsNextStep z c j r.now state k r.store) lefts r.next;
      program = run.program;
      loaded = loaded;
      good = run.good;
      answer = answer;
      new = new;
      step = subst (λ (h : Shape). Step h run.program state (x.event ∷ more) answer new) shape
          (subst (λ (f : Event). Step g.shape run.program state (f ∷ more) answer new) (sym same) step);
      like = r.like;
      runs_too = r.runs_too;
      holds = r.holds;
      allowed = allowed;
    })

    made : LeavesMaps x.event → IsMadeToo s m r.store c x.event
    made leaves = made_too s m r.store c x.event r.like r.runs_too r.holds leaves allowed

    -- that step, over the machine's store
    makes_it : (e : Event) (more : List Event) (answer : Progress) (new : Cpu) → x.event ≡ e → more ≡ [] → Step g.shape run.program state
        (e ∷ more) answer new → Step r.store.shape run.program state (x.event ∷ []) answer new
    makes_it e more answer new same none step =
        subst (λ (h : Shape). Step h run.program state (x.event ∷ []) answer new) shape
        (subst (λ (f : Event). Step g.shape run.program state (f ∷ []) answer new) (sym same)
        (subst (λ (es : List Event). Step g.shape run.program state (e ∷ es) answer new) none step))

    quietly : (answer : Progress) (new : Cpu) → Step g.shape run.program state [] answer new → Step r.store.shape run.program state [] answer new
    quietly answer new step = subst (λ (h : Shape). Step h run.program state [] answer new) shape step

    -- the last step
    last_step : (n : ℕ) → left ≡ suc n → (steps : List Event) → run.steps ≡ steps → Step g.shape run.program state steps (Done run.end) run.last → Reaches
    last_step n lefts [] none step =
        let a : Advances run.program c r.store state (suc n) (Some run.end) r.store run.last n =
        ([], Done run.end, quietly (Done run.end) run.last step, refl, refl, refl) in
        finishes run.last n (subst (λ (k : ℕ). Advances run.program c r.store state k (Some run.end) r.store run.last n) (sym lefts) a) none
    last_step n lefts (e ∷ more) is step =
        let all : x.event ∷ events_of c xs ≡ e ∷ (more ++ End ∷ run.rest) = run.is ∙ ap (λ (es : List Event). es ++ End ∷ run.rest) is in
        let same : x.event ≡ e = heads x.event e (events_of c xs) (more ++ End ∷ run.rest) all in
        let one = alone n lefts e more (Done run.end) run.last step same in
        let made_here : IsMadeToo s m r.store c x.event = made one.1 in
        let a : Advances run.program c r.store state (suc n) (Some run.end) made_here.next run.last n =
        (x.event ∷ [], Done run.end, makes_it e more (Done run.end) run.last same one.0 step, (made_here.next, made_here.allowed, refl), refl, refl) in
        ends_by made_here run.last n (subst (λ (k : ℕ). Advances run.program c r.store state k (Some run.end) made_here.next run.last n) (sym lefts) a)
        (tails x.event e (events_of c xs) (more ++ End ∷ run.rest) all ∙ ap (λ (es : List Event). es ++ End ∷ run.rest) one.0)

    -- a step that goes on, where the budget has none left after it, or some
    module _ (again : (n : ℕ) (y : World) (new : Cpu) → left ≡ suc n → Beside g Good w (x ∷ xs) s y → IsReady g c j task new n s y → IsInRun
        g Good c j task new n (x.event ∷ events_of c xs) → Reaches) where
      step_on : (n : ℕ) → left ≡ suc n → (first rest : List Event) (mid : Cpu) → run.steps ≡ first ++ rest → Step g.shape run.program state
          first On mid → MakesSteps g.shape run.program n mid rest run.end run.last → Reaches
      step_on zero lefts [] rest mid is step makes =
          let a : Advances run.program c r.store state 1 (Some run.end) r.store mid 0 = ([], On, quietly On mid step, refl, ap Some makes.1, refl) in
          finishes mid 0 (subst (λ (k : ℕ). Advances run.program c r.store state k (Some run.end) r.store mid 0) (sym lefts) a) (is ∙ makes.0)
      step_on (suc n) lefts [] rest mid is step makes =
          let a : Advances run.program c r.store state (suc (suc n)) None r.store mid (suc n) = ([], On, quietly On mid step, refl, refl, refl) in
          let run' : IsInRun g Good c j task mid (suc n) (x.event ∷ events_of c xs) = left_over rest (x.event ∷ events_of c xs) mid (suc n)
          (up run.program state mid run.good step) makes (run.is ∙ ap (λ (es : List Event). es ++ End ∷ run.rest) is) in
          let q = quiet mid (suc n) (subst (λ (k : ℕ). Advances run.program c r.store state k None r.store mid (suc n)) (sym lefts) a) run' in
          again (suc n) q.0 mid lefts q.1 q.2 run'
      step_on n lefts (e ∷ more) rest mid is step makes =
          let all : x.event ∷ events_of c xs ≡ e ∷ ((more ++ rest) ++ End ∷ run.rest) = run.is ∙ ap (λ (es : List Event). es ++ End ∷ run.rest) is in
          let same : x.event ≡ e = heads x.event e (events_of c xs) ((more ++ rest) ++ End ∷ run.rest) all in
          let one = alone n lefts e more On mid step same in
          let made_here : IsMadeToo s m r.store c x.event = made one.1 in
          let later : events_of c xs ≡ rest ++ End ∷ run.rest =
          tails x.event e (events_of c xs) ((more ++ rest) ++ End ∷ run.rest) all ∙ ap (λ (es : List Event). (es ++ rest) ++ End ∷ run.rest) one.0 in
          act n lefts rest mid (one.2 refl) makes made_here (makes_it e more On mid same one.0 step) later
        where
          act : (n : ℕ) → left ≡ suc n → (rest : List Event) (mid : Cpu) → Good run.program mid → MakesSteps g.shape run.program n mid rest
              run.end run.last → (made_here : IsMadeToo s m r.store c x.event)
              → Step r.store.shape run.program state (x.event ∷ []) On mid → events_of c xs ≡ rest ++ End ∷ run.rest → Reaches
          act zero lefts rest mid good makes made_here it later =
              let a : Advances run.program c r.store state 1 (Some run.end) made_here.next mid 0 =
              (x.event ∷ [], On, it, (made_here.next, made_here.allowed, refl), ap Some makes.1, refl) in
              ends_by made_here mid 0 (subst (λ (k : ℕ). Advances run.program c r.store state k (Some run.end) made_here.next mid 0)
              (sym lefts) a) (later ∙ ap (λ (es : List Event). es ++ End ∷ run.rest) makes.0)
          act (suc n) lefts rest mid good makes made_here it later =
              let a : Advances run.program c r.store state (suc (suc n)) None made_here.next mid (suc n) =
              (x.event ∷ [], On, it, (made_here.next, made_here.allowed, refl), refl, refl) in
              acts made_here mid (suc n) (subst (λ (k : ℕ). Advances run.program c r.store state k None made_here.next mid (suc n))
              (sym lefts) a) (left_over rest (events_of c xs) mid (suc n) good makes later)

      -- the turn of a job that has a step left
      pub one_turn : (n : ℕ) → left ≡ suc n → MakesSteps g.shape run.program (suc n) state run.steps run.end run.last → Reaches
      one_turn n lefts (inl step) = last_step n lefts run.steps refl step
      one_turn n lefts (inr (first, rest, mid, is, step, makes)) = step_on n lefts first rest mid is step makes

  -- the turn of a job that has none
  pub no_turn : left ≡ 0 → MakesSteps g.shape run.program 0 state run.steps run.end run.last → Reaches
  no_turn lefts makes =
      let a : Advances run.program c r.store state 0 (Some run.end) r.store state 0 = (ap Some makes.1, refl, refl, refl) in
      finishes state 0 (subst (λ (k : ℕ). Advances run.program c r.store state k (Some run.end) r.store state 0) (sym lefts) a) makes.0

-- turns of the CPU, until the event is made
pub goes : (g : Given) (Good : Loaded → Cpu → Type 0) (w : World) → IsKeptUp g.shape Good → AreCalm g.shape Good w → (left : ℕ) (c j : ℕ)
    (task : Task) (state : Cpu) (s m : Plain) (z : World) (x : Entry) (xs : List Entry)
    → x.cpu ≡ c → c < g.shape.cpus → Beside g Good w (x ∷ xs) s z → IsReady g c j task state left s z → IsInRun g Good c j task state left
    (x.event ∷ events_of c xs) → Allowed s c x.event m
    → (y : World) × Beside g Good w xs m y
goes g Good w up calm zero c j task state s m z x xs here inside b r run allowed = no_turn g Good w c j task state 0 s m z x xs here inside
    b r run allowed refl run.makes
goes g Good w up calm (suc n) c j task state s m z x xs here inside b r run allowed =
    one_turn g Good w c j task state (suc n) s m z x xs here inside b r run allowed up calm
    (λ k y new lefts both ready run'.
    let same : k ≡ n = one_less k n lefts in
    goes g Good w up calm n c j task new s m y x xs here inside both (subst (λ (i : ℕ). IsReady g c j task new i s y) same ready)
    (subst (λ (i : ℕ). IsInRun g Good c j task new i (x.event ∷ events_of c xs)) same run') allowed)
    n refl run.makes
  where
    one_less : (k n : ℕ) → suc n ≡ suc k → k ≡ n
    one_less k n e = omega arith
