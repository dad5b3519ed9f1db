-- Where one CPU has all jobs, and there are no hash maps, its turns lead to what a history leads to: the
-- events of a step come one after the other.
use Rattle.std.proofs.Common.{◌≡◌, ◌≢◌, ℕ, zero, suc, ◌+◌, ◌^◌, ◌<◌, ◌≤◌, Bool, true, false, List, [], ◌∷◌, ◌++◌, length, Some, None, ◌⊎◌}
use Rattle.std.proofs.Common.{inl, inr, refl, sym, ap, subst, ◌∙◌, append_assoc, arith}
use Rattle.std.specs.Prelude.{map, slice_get}
use Rattle.bpf_shared.specs.declared.events.Event.{Event}
use Rattle.bpf_shared.specs.declared.events.Event.TheVariants.{Begin, End, Lookup, Update, Delete, Keys, Load, Store, Atomic}
use Rattle.bpf_shared.specs.declared.events.Entry.{Entry}
use Rattle.bpf_shared.specs.declared.shapes.MapShape.{MapShape}
use Rattle.bpf_shared.specs.Shape.{Shape, IsMap, IsShape}
use Rattle.bpf_shared.specs.Own.{turns_of}
use Rattle.bpf_shared.specs.Laws.{LegalIsSound, CallsHaveOneReply}
use Rattle.bpf_shared.specs.Store.{Plain, as_made, never}
use Rattle.bpf_shared.specs.Events.{Allowed, after_begin}
use Rattle.bpf_shared.specs.Choice.{PlainlyAllowed}
use Rattle.bpf_shared.specs.History.{Legal, PlainlyLegal, entry, events_of}
use Rattle.bpf_shared.proofs.Chains.{turns_of-append}
use Rattle.bpf_shared.proofs.Leaving.{event_shape}
use Rattle.bpf_shared.proofs.Puts.{equal_or_not, put-same, put-other}
use Rattle.bpf_loader.specs.Loaded.{Loaded}
use Rattle.bpf_loader.specs.Laws.{OneInstructionBegins}
use Rattle.bpf_mem.specs.Laws.{WritesAreDetermined}
use Rattle.bpf_cpu.specs.declared.cpu.Cpu.{Cpu}
use Rattle.bpf_cpu.specs.declared.outcome.Outcome.{Outcome}
use Rattle.bpf_cpu.specs.declared.outcome.Progress.TheVariants.{On, Done}
use Rattle.bpf_cpu.specs.State.{start}
use Rattle.bpf_cpu.specs.Step.{Step, MakesSteps}
use Rattle.bpf_cpu.specs.Task.{Stage, Task, InHand, Ended}
use Rattle.bpf_machine.specs.Laws.{IsFresh}
use Rattle.bpf_machine.specs.Schedule.{World, Advances, RunsSchedule}
use Rattle.bpf_machine.proofs.TurnLaws.{runs_more}
use Rattle.bpf_sched.specs.Explained.{IsExplained}
use Rattle.bpf_agreement.specs.Ends.{LeadsToo}
use Rattle.bpf_agreement.proofs.Agreeing.{waiting, runs_of}
use Rattle.bpf_agreement.proofs.Alike.{allowed_here}
use Rattle.bpf_agreement.proofs.Turns.{goes_on, goes_out}
use Rattle.bpf_agreement.proofs.Standing.{Given, HasRun, HasRuns, HasRunsFrom, HaveCpus, IsIdle, own_event, other_event}
use Rattle.bpf_agreement.proofs.Going.{AllWait, IsReady, idle_free, idle_lowest, idle_after, there, waits_after, ended_before, size, cpus}
use Rattle.bpf_agreement.proofs.Going.{self_from, later_from, equal_or_less}
use Rattle.bpf_agreement.proofs.Simulating.{next_place, first_place, not_empty}
use Rattle.bpf_agreement.proofs.StepEvents.{step_inside}
use Rattle.bpf_agreement.proofs.OneEvent.{inside_list}

-- ---- stores without hash maps
module _ (s t : Plain) (d : ℕ) (bare : s.shape.maps ≡ []) where
  no_map : (m : ℕ) (h : MapShape) → IsMap s.shape.maps m h → ⊥
  no_map m h at = nothing (ap (λ (maps : List MapShape). slice_get maps m) (sym bare) ∙ at)
    where
      nothing : None ≡ Some h → ⊥
      nothing e = cc

  -- nothing is left to be chosen
  chosen : (e : Event) → Allowed s d e t → PlainlyAllowed s d e t
  chosen Begin a = (a, tt)
  chosen End a = (a, tt)
  chosen (Lookup m key found) a = (a, tt)
  chosen (Update m key bytes flags answer) a = absurd (no_map m a.1.0 a.1.1)
  chosen (Delete m key answer) a = absurd (no_map m a.1.0.0 a.1.0.1)
  chosen (Keys m ks) a = (a, tt)
  chosen (Load at z found) a = (a, tt)
  chosen (Store at z x) a = (a, tt)
  chosen (Atomic at z op operand expected found) a = (a, tt)

  -- what is no begin and no end of a run leaves who runs
  still_running : (e : Event) → turns_of (e ∷ []) ≡ 0 → Allowed s d e t → t.running ≡ s.running
  still_running Begin h a = absurd (let no : 1 ≡ 0 = h in omega arith)
  still_running End h a = absurd (let no : 1 ≡ 0 = h in omega arith)
  still_running (Lookup m key found) h a = absurd (no_map m a.1.0.0 a.1.0.1)
  still_running (Update m key bytes flags answer) h a = absurd (no_map m a.1.0 a.1.1)
  still_running (Delete m key answer) h a = absurd (no_map m a.1.0.0 a.1.0.1)
  still_running (Keys m ks) h a = ap (λ (x : Plain). x.running) a.3
  still_running (Load at z found) h a = ap (λ (x : Plain). x.running) a.1.3
  still_running (Store at z x) h a = ap (λ (y : Plain). y.running) a.1.2
  still_running (Atomic at z op operand expected found) h a = ap (λ (x : Plain). x.running) a.1.3

  -- an event leaves whether another CPU runs
  others_run : (c : ℕ) → c ≢ d → (e : Event) → Allowed s d e t → t.running c ≡ s.running c
  others_run c ne Begin a = ap (λ (x : Plain). x.running c) a.2 ∙ put-other s.running d c true ne
  others_run c ne End a = ap (λ (x : Plain). x.running c) a.1 ∙ put-other s.running d c false ne
  others_run c ne (Lookup m key found) a = ap (λ (f : ℕ → Bool). f c) (still_running (Lookup m key found) refl a)
  others_run c ne (Update m key bytes flags answer) a = ap (λ (f : ℕ → Bool). f c) (still_running (Update m key bytes flags answer) refl a)
  others_run c ne (Delete m key answer) a = ap (λ (f : ℕ → Bool). f c) (still_running (Delete m key answer) refl a)
  others_run c ne (Keys m ks) a = ap (λ (f : ℕ → Bool). f c) (still_running (Keys m ks) refl a)
  others_run c ne (Load at z found) a = ap (λ (f : ℕ → Bool). f c) (still_running (Load at z found) refl a)
  others_run c ne (Store at z x) a = ap (λ (f : ℕ → Bool). f c) (still_running (Store at z x) refl a)
  others_run c ne (Atomic at z op operand expected found) a = ap (λ (f : ℕ → Bool). f c) (still_running (Atomic at z op operand expected found) refl a)

-- ---- the events of one CPU, one after the other
abbrev Own : ℕ → Plain → List Event → Plain → Type 0
Own c s events t = Legal s (map (entry c) events) t

own_cut : (c : ℕ) (s t : Plain) (xs ys : List Event) → Own c s (xs ++ ys) t → (m : Plain) × Own c s xs m × Own c m ys t
own_cut c s t [] ys p = (s, refl, p)
own_cut c s t (x ∷ xs) ys (m, a, p) = let r = own_cut c m t xs ys p in (r.0, (m, a, r.1), r.2)

own_shape : (c : ℕ) (s t : Plain) (es : List Event) → Own c s es t → t.shape ≡ s.shape
own_shape c s t [] p = ap (λ (x : Plain). x.shape) (sym p)
own_shape c s t (e ∷ es) (m, a, p) = own_shape c m t es p ∙ event_shape s m c e a

bare_later : (s m : Plain) → m.shape ≡ s.shape → s.shape.maps ≡ [] → m.shape.maps ≡ []
bare_later s m same bare = ap (λ (h : Shape). h.maps) same ∙ bare

own_plain : (c : ℕ) (s t : Plain) (es : List Event) → s.shape.maps ≡ [] → Own c s es t → PlainlyLegal s (map (entry c) es) t
own_plain c s t [] bare p = p
own_plain c s t (e ∷ es) bare (m, a, p) = (m, chosen s m c bare e a, own_plain c m t es (bare_later s m (event_shape s m c e a) bare) p)

first_none : (x y z : ℕ) → z ≡ x + y → z ≡ 0 → x ≡ 0
first_none x y z sum none = omega arith

rest_none : (x y z : ℕ) → z ≡ x + y → z ≡ 0 → y ≡ 0
rest_none x y z sum none = omega arith

own_running : (c : ℕ) (s t : Plain) (es : List Event) → s.shape.maps ≡ [] → turns_of es ≡ 0 → Own c s es t → t.running ≡ s.running
own_running c s t [] bare none p = ap (λ (x : Plain). x.running) (sym p)
own_running c s t (e ∷ es) bare none (m, a, p) =
    let sum : turns_of (e ∷ es) ≡ turns_of (e ∷ []) + turns_of es = turns_of-append (e ∷ []) es in
    own_running c m t es (bare_later s m (event_shape s m c e a) bare) (rest_none (turns_of (e ∷ [])) (turns_of es) (turns_of (e ∷ es)) sum none) p
    ∙ still_running s m c bare e (first_none (turns_of (e ∷ [])) (turns_of es) (turns_of (e ∷ es)) sum none) a

-- where other CPUs of the store have no events, each is the CPU's
own_only : (c n : ℕ) → c < n → (log : List Entry) (s t : Plain) → s.shape.maps ≡ [] → s.shape.cpus ≡ n →
    ((d : ℕ) → n ≤ d → s.running d ≡ false) → Legal s log t → ((d : ℕ) → d ≢ c → d < n → events_of d log ≡ []) → log ≡ map (entry c) (events_of c log)
own_only c n inside [] s t bare many idle legal none = refl
own_only c n inside (x ∷ xs) s t bare many idle (m, a, p) none = elim (equal_or_not x.cpu c) [
  | inl e ↦
      let later : xs ≡ map (entry c) (events_of c xs) =
      own_only c n inside xs m t (bare_later s m (event_shape s m x.cpu x.event a) bare) (ap (λ (h : Shape). h.cpus) (event_shape s m x.cpu x.event a) ∙ many)
      (λ d from. others_run s m x.cpu bare d (λ same. apart (subst (λ (k : ℕ). k < n) (sym e) inside) from same) x.event a ∙ idle d from) p
      (λ d ne below. sym (other_event d x xs (λ same. ne (sym same ∙ e))) ∙ none d ne below) in
      ap (λ (k : ℕ). entry k x.event ∷ xs) e ∙ ap (λ (es : List Entry). entry c x.event ∷ es) later ∙ ap
      (λ (es : List Event). map (entry c) es) (sym (own_event c x xs e))
  | inr ne ↦ absurd (not_empty x.event (events_of x.cpu xs) (sym (own_event x.cpu x xs refl) ∙ none x.cpu ne
      (here (equal_or_less x.cpu n) (allowed_here s m x.cpu x.event a))))
]
  where
    apart : {d : ℕ} → x.cpu < n → n ≤ d → d ≡ x.cpu → ⊥
    apart less from same = omega arith

    runs_not : (r : Bool) → r ≡ false → r ≡ true → ⊥
    runs_not r p q = cc

    here : (x.cpu < n) ⊎ (n ≤ x.cpu) → (x.cpu < s.shape.cpus) ⊎ (s.running x.cpu ≡ true) → x.cpu < n
    here (inl less) h = less
    here (inr from) (inl less) = subst (λ (k : ℕ). x.cpu < k) many less
    here (inr from) (inr runs) = absurd (runs_not (s.running x.cpu) (idle x.cpu from) runs)

-- ---- a machine that a schedule leads to
pub record Sits (g : Given) (w z : World) : Type 0 where
  pub schedule : List ℕ
  pub runs : RunsSchedule w schedule z
  pub programs : z.programs ≡ g.programs
  pub size : length z.jobs ≡ length g.tasks
  pub cpus : HaveCpus g z

-- the job has ended, and the rest of the history begins with the machine's store
pub record IsDone (g : Given) (w : World) (c j : ℕ) (rest : List Event) (last : Plain) : Type 0 where
  pub world : World
  pub sits : Sits g w world
  pub idle : IsIdle g world c j
  pub shape : world.store.shape ≡ g.shape
  pub legal : Own c world.store rest last

-- ---- one job
module _ (g : Given) (bare : g.shape.maps ≡ []) (w : World) (c j : ℕ) (task : Task) (listed : slice_get g.tasks j ≡ Some task)
    (of : task.cpu ≡ c) (end : Outcome) (ends : slice_get g.ends j ≡ Some end)
    (program : Loaded) (loaded : slice_get g.programs task.program ≡ Some program) (rest : List Event) (last : Plain) where
  -- the job's last turn, and the end of its run
  ends_now : (state new : Cpu) (left budget : ℕ) (s t m : Plain) (z : World) → Sits g w z → (r : IsReady g c j task state left s z) →
      Advances program c r.store state left (Some end) t new budget → t.shape ≡ g.shape → Allowed t c End m → Own c m rest last
      → IsDone g w c (suc j) rest last
  ends_now state new left budget s t m z sits r advances shape allowed legal =
      let has : slice_get z.programs r.now.program ≡ Some program = ap (λ (ps : List Loaded). slice_get ps r.now.program) sits.programs ∙ ap
      (λ (x : Task). slice_get g.programs x.program) r.same ∙ loaded in
      let turn = goes_out z c j r.now state new left budget program end r.store t m r.next has advances (allowed, tt) in
      record {
        world = turn.next;
        sits = record {
          schedule = sits.schedule ++ c ∷ [];
          runs = runs_more w sits.schedule c z turn.answer turn.next sits.runs turn.takes;
          programs = turn.programs ∙ sits.programs;
          size = size g c j task state left s z r listed of (Ended end) m turn ∙ sits.size;
          cpus = cpus g c j task state left s z r listed of (Ended end) m turn sits.cpus;
        };
        idle = idle_after g c j task state left s z r listed of end m turn ends (ap (λ (x : Plain). x.running c) allowed.1 ∙ put-same t.running c c false refl);
        shape = ap (λ (x : Plain). x.shape) turn.store ∙ event_shape t m c End allowed ∙ shape;
        legal = subst (λ (x : Plain). Own c x rest last) (sym turn.store) legal;
      }

  its_program : (z : World) → Sits g w z → (now : Task) → now ≡ record task { stage = now.stage } → slice_get z.programs now.program ≡ Some program
  its_program z sits now same = ap (λ (ps : List Loaded). slice_get ps now.program) sits.programs ∙ ap
      (λ (x : Task). slice_get g.programs x.program) same ∙ loaded

  -- after a step that goes on, its events have been made
  goes : (n : ℕ) (state mid final : Cpu) (first more : List Event) (s t : Plain) (z : World) → Sits g w z →
      (r : IsReady g c j task state (suc n) s z) → t.shape ≡ g.shape → t.running c ≡ true
      → Step r.store.shape program state first On mid → PlainlyLegal r.store (map (entry c) first) t → MakesSteps g.shape program n mid more
      end final → Own c t (more ++ End ∷ rest) last
      → ((x : Plain) (y : World) → Sits g w y → (r' : IsReady g c j task mid n x y) → r'.store ≡ x → x.shape ≡ g.shape → Own c x
      (more ++ End ∷ rest) last → IsDone g w c (suc j) rest last)
      → IsDone g w c (suc j) rest last
  goes zero state mid final first more s t z sits r shape runs step plain makes legal again =
      let l = subst (λ (es : List Event). Own c t (es ++ End ∷ rest) last) makes.0 legal in
      ends_now state mid 1 0 s t l.0 z sits r (first, On, step, plain, ap Some makes.1, refl) shape l.1 l.2
  goes (suc k) state mid final first more s t z sits r shape runs step plain makes legal again =
      let turn = goes_on z c j r.now state mid (suc (suc k)) (suc k) program r.store t r.next (its_program z sits r.now r.same)
      (first, On, step, plain, refl, refl) in
      let y : World = turn.next in
      let stage : Stage = InHand mid (suc k) in
      let at : slice_get y.jobs j ≡ Some (record task { stage = stage }) = there g c j task state (suc (suc k)) s z r listed of stage t turn in
      let sits' : Sits g w y = record {
        schedule = sits.schedule ++ c ∷ [];
        runs = runs_more w sits.schedule c z turn.answer y sits.runs turn.takes;
        programs = turn.programs ∙ sits.programs;
        size = size g c j task state (suc (suc k)) s z r listed of stage t turn ∙ sits.size;
        cpus = cpus g c j task state (suc (suc k)) s z r listed of stage t turn sits.cpus;
      } in
      let in_run : y.store.running c ≡ true = ap (λ (x : Plain). x.running c) turn.store ∙ runs in
      let ready : IsReady g c j task mid (suc k) y.store y = record {
        now = record task { stage = stage };
        listed = at;
        same = refl;
        store = y.store;
        next = inl (record { listed = at; of = of; at = refl }, refl);
        like = refl;
        runs = in_run;
        runs_too = in_run;
        holds = refl;
        others_run = λ d ne. refl;
        others_hold = λ d ne. refl;
        ended = ended_before g c j task state (suc (suc k)) s z r listed of stage t turn;
        waits = waits_after g c j task state (suc (suc k)) s z r listed of stage t turn;
      } in
      again y.store y sits' ready refl (ap (λ (x : Plain). x.shape) turn.store ∙ shape)
      (subst (λ (x : Plain). Own c x (more ++ End ∷ rest) last) (sym turn.store) legal)

  -- the turns of the steps that are left
  steps_lead : (n : ℕ) (state : Cpu) (steps : List Event) (s : Plain) (z : World) → Sits g w z → (r : IsReady g c j task state n s z) →
      r.store ≡ s → s.shape ≡ g.shape → (final : Cpu) → MakesSteps g.shape program n state steps end final
      → Own c s (steps ++ End ∷ rest) last → IsDone g w c (suc j) rest last
  steps_lead zero state steps s z sits r same shape final makes legal =
      let l = subst (λ (es : List Event). Own c s (es ++ End ∷ rest) last) makes.0 legal in
      ends_now state state 0 0 s s l.0 z sits r (ap Some makes.1, sym same, refl, refl) shape l.1 l.2
  steps_lead (suc n) state steps s z sits r same shape final (inl step) legal =
      let cut = own_cut c s last steps (End ∷ rest) legal in
      let a : Advances program c r.store state (suc n) (Some end) cut.0 final n = (
        steps,
        Done end,
        subst (λ (h : Shape). Step h program state steps (Done end) final) (sym (ap (λ (x : Plain). x.shape) same ∙ shape)) step,
        subst (λ (x : Plain). PlainlyLegal x (map (entry c) steps) cut.0) (sym same)
            (own_plain c s cut.0 steps (ap (λ (h : Shape). h.maps) shape ∙ bare) cut.1),
        refl,
        refl,
      ) in
      ends_now state final (suc n) n s cut.0 cut.2.0 z sits r a (own_shape c s cut.0 steps cut.1 ∙ shape) cut.2.1 cut.2.2
  steps_lead (suc n) state steps s z sits r same shape final (inr (first, more, mid, is, step, makes)) legal =
      let whole : Own c s (first ++ (more ++ End ∷ rest)) last = subst (λ (es : List Event). Own c s es last)
      (ap (λ (es : List Event). es ++ End ∷ rest) is ∙ append_assoc first more (End ∷ rest)) legal in
      let cut = own_cut c s last first (more ++ End ∷ rest) whole in
      goes n state mid final first more s cut.0 z sits r (own_shape c s cut.0 first cut.1 ∙ shape)
      (ap (λ (f : ℕ → Bool). f c) (own_running c s cut.0 first (ap (λ (h : Shape). h.maps) shape ∙ bare)
      (step_inside g.shape program state mid first On step) cut.1) ∙ r.runs)
      (subst (λ (h : Shape). Step h program state first On mid) (sym (ap (λ (x : Plain). x.shape) same ∙ shape)) step)
      (subst (λ (x : Plain). PlainlyLegal x (map (entry c) first) cut.0) (sym same) (own_plain c s cut.0 first (ap (λ (h : Shape). h.maps) shape ∙ bare) cut.1))
      makes cut.2 (λ x y sits' r' same' shape' legal'. steps_lead n mid more x y sits' r' same' shape' final makes legal')

-- ---- all of them
module _ (g : Given) (bare : g.shape.maps ≡ []) (w : World) (c : ℕ) (inside : c < g.shape.cpus) (wait : AllWait g)
    (mine : (k : ℕ) (task : Task) → slice_get g.tasks k ≡ Some task → task.cpu ≡ c) (last : Plain) where
  -- a job's run, from its begin on
  job_leads : (j : ℕ) (task : Task) (end : Outcome) (events rest : List Event) (z : World) → slice_get g.tasks j ≡ Some task → slice_get
      g.ends j ≡ Some end → Sits g w z → IsIdle g z c j → z.store.shape ≡ g.shape → HasRun g task end events rest → Own c z.store events last
      → IsDone g w c (suc j) rest last
  job_leads j task end events rest z listed ends sits idle shape run legal =
      let of = mine j task listed in
      let l = subst (λ (es : List Event). Own c z.store es last) run.is legal in
      let s : Plain = after_begin z.store c in
      let at : slice_get z.jobs j ≡ Some task = idle.waits j task (self_from j) listed of in
      let in_run : s.running c ≡ true = put-same z.store.running c c true refl in
      let ready : IsReady g c j task (start c run.input) task.budget s z = record {
        now = task;
        listed = at;
        same = refl;
        store = s;
        next = inr (record {
          free = idle_free g z c j wait sits.cpus idle;
          input = run.input;
          at = record { listed = at; of = of; at = run.waits };
          lowest = idle_lowest g z c j sits.cpus idle;
          begun = ((subst (λ (h : Shape). c < h.cpus) (sym shape) inside, idle.runs, refl), tt);
          fresh = refl;
          budget = refl;
        });
        like = refl;
        runs = in_run;
        runs_too = in_run;
        holds = refl;
        others_run = λ d ne. put-other z.store.running c d true ne;
        others_hold = λ d ne. put-other z.store.held c d never ne;
        ended = idle.ended;
        waits = λ k one from there its. idle.waits k one (later_from j k from) there its;
      } in
      let makes = subst (λ (k : ℕ). MakesSteps g.shape run.program task.budget (start k run.input) run.steps end run.last) of run.makes in
      steps_lead g bare w c j task listed
      of end ends run.program run.loaded rest last task.budget (start c run.input) run.steps s z sits ready refl shape run.last makes
      (subst (λ (x : Plain). Own c x (run.steps ++ End ∷ rest) last) l.1.2 l.2)

  jobs_lead : (tasks : List Task) (ends : List Outcome) (j : ℕ) (events : List Event) (z : World) →
      ((i : ℕ) → slice_get tasks i ≡ slice_get g.tasks (j + i)) → ((i : ℕ) → slice_get ends i ≡ slice_get g.ends (j + i))
      → Sits g w z → IsIdle g z c j → z.store.shape ≡ g.shape → HasRuns g c tasks ends events → Own c z.store events last → IsDone g w c
      (length tasks + j) [] last
  jobs_lead [] ends j events z jobs outcomes sits idle shape none legal = record {
    world = z;
    sits = sits;
    idle = subst (λ (k : ℕ). IsIdle g z c k) (none_more j) idle;
    shape = shape;
    legal = subst (λ (es : List Event). Own c z.store es last) none legal;
  }
    where
      none_more : (j : ℕ) → j ≡ 0 + j
      none_more j = omega arith
  jobs_lead (task ∷ tasks) [] j events z jobs outcomes sits idle shape none legal = absurd none
  jobs_lead (task ∷ tasks) (end ∷ ends) j events z jobs outcomes sits idle shape (inl (of, (rest, run, more))) legal =
      let done = job_leads j task end events rest z (listed_first j task tasks jobs)
      (ap (λ (i : ℕ). slice_get g.ends i) (sym (first_place j)) ∙ sym (outcomes 0)) sits idle shape run legal in
      let all = jobs_lead tasks ends (suc j) rest done.world (λ i. jobs (suc i) ∙ ap (λ (k : ℕ). slice_get g.tasks k) (next_place j i))
      (λ i. outcomes (suc i) ∙ ap (λ (k : ℕ). slice_get g.ends k) (next_place j i))
      done.sits done.idle done.shape more done.legal in
      subst (λ (k : ℕ). IsDone g w c k [] last) (one_more (length tasks) j) all
    where
      one_more : (n j : ℕ) → n + suc j ≡ suc n + j
      one_more n j = omega arith

      listed_first : (j : ℕ) (task : Task) (tasks : List Task) → ((i : ℕ) → slice_get (task ∷ tasks) i ≡ slice_get g.tasks (j + i)) →
          slice_get g.tasks j ≡ Some task
      listed_first j task tasks jobs = ap (λ (i : ℕ). slice_get g.tasks i) (sym (first_place j)) ∙ sym (jobs 0)
  jobs_lead (task ∷ tasks) (end ∷ ends) j events z jobs outcomes sits idle shape (inr (ne, more)) legal =
      absurd (ne (mine j task (ap (λ (i : ℕ). slice_get g.tasks i) (sym (first_place j)) ∙ sym (jobs 0))))

-- ---- a history
-- of a CPU without jobs there are no events
no_runs : (g : Given) (d : ℕ) (tasks : List Task) (ends : List Outcome) (events : List Event) → HasRuns g d tasks ends events →
    ((i : ℕ) (task : Task) → slice_get tasks i ≡ Some task → task.cpu ≢ d) → events ≡ []
no_runs g d [] ends events runs other = runs
no_runs g d (task ∷ tasks) [] events runs other = absurd runs
no_runs g d (task ∷ tasks) (end ∷ ends) events (inl (of, more)) other = absurd (other 0 task refl of)
no_runs g d (task ∷ tasks) (end ∷ ends) events (inr (ne, more)) other = no_runs g d tasks ends events more (λ i t at. other (suc i) t at)

module _ (law : WritesAreDetermined) (one_begins : OneInstructionBegins) (replies : CallsHaveOneReply) (legal_sound : LegalIsSound)
    (h : Shape) (programs : List Loaded) (tasks : List Task) (ends : List Outcome) (lists : ℕ → List (List (List ℕ))) (history : List Entry) (last : Plain)
    (w : World) (first : w.store ≡ as_made h) (has : w.programs ≡ programs) (jobs : w.jobs ≡ tasks) (is_shape : IsShape h)
    (fresh : IsFresh w) (few : length tasks < 2 ^ 62)
    (explained : IsExplained h 0 [] programs tasks false ends lists history) (legal : Legal (as_made h) history last)
    (bare : h.maps ≡ []) (c : ℕ) (inside : c < h.cpus) (mine : (k : ℕ) (task : Task) → slice_get tasks k ≡ Some task → task.cpu ≡ c) where
  abbrev all : Given
  all = record { shape = h; programs = programs; tasks = tasks; ends = ends }

  from : (d : ℕ) → d < h.cpus → HasRunsFrom all d 0 (events_of d history)
  from = runs_of law one_begins replies legal_sound h programs tasks ends lists history last w first has jobs is_shape fresh few explained legal

  none_else : (d : ℕ) → d ≢ c → d < h.cpus → events_of d history ≡ []
  none_else d ne below =
      let f = from d below in
      no_runs all d f.tasks f.ends (events_of d history) f.runs (λ i task at its. ne (sym its ∙ mine (0 + i) task (sym (f.jobs i) ∙ at)))

  own_history : Own c w.store (events_of c history) last
  own_history =
      let only : history ≡ map (entry c) (events_of c history) = own_only c h.cpus inside history (as_made h) last bare refl (λ d far. refl) legal none_else in
      subst (λ (s : Plain). Own c s (events_of c history) last) (sym first) (subst (λ (log : List Entry). Legal (as_made h) log last) only legal)

  pub one_cpu_leads : LeadsToo w tasks ends last
  one_cpu_leads =
      let f = from c inside in
      let sits : Sits all w w = record {
        schedule = [];
        runs = refl;
        programs = has;
        size = ap (λ (ts : List Task). length ts) jobs;
        cpus = λ k task at. (task, ap (λ (ts : List Task). slice_get ts k) (sym jobs) ∙ at, refl);
      } in
      let idle : IsIdle all w c 0 = record {
        runs = ap (λ (s : Plain). s.running c) first;
        ended = λ k task less at its. absurd (none_below k less);
        waits = λ k task since at its. ap (λ (ts : List Task). slice_get ts k) jobs ∙ at;
      } in
      let done = jobs_lead all bare w c inside (waiting law one_begins replies legal_sound h programs tasks ends lists history last w first
      has jobs is_shape fresh few explained legal) mine last
      f.tasks f.ends 0 (events_of c history) w f.jobs f.outcomes sits idle (ap (λ (s : Plain). s.shape) first) f.runs own_history in
      record {
        schedule = done.sits.schedule;
        world = done.world;
        runs = done.sits.runs;
        store = done.legal;
        size = done.sits.size;
        each = λ k task at. done.idle.ended k task (below k (length f.tasks)
            (inside_list f.tasks k task (f.jobs k ∙ ap (λ (i : ℕ). slice_get tasks i) (no_more k) ∙ at))) at (mine k task at);
      }
    where
      none_below : (k : ℕ) → k < 0 → ⊥
      none_below k less = omega arith

      no_more : (k : ℕ) → 0 + k ≡ k
      no_more k = omega arith

      below : (k n : ℕ) → k < n → k < n + 0
      below k n less = omega arith
