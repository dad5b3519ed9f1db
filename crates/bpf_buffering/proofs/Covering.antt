-- A turn that is unseen comes before all moves up to it, so a list that moves and such turns after them
-- don't lead out of but for dead registers covers what schedules of moves leave without work.
use Rattle.std.proofs.Common.{◌≡◌, ◌≢◌, ℕ, zero, suc, ◌<◌, ◌≤◌, List, [], ◌∷◌, ◌++◌, length, Option, Some, None, ◌⊎◌, inl, inr, refl, sym}
use Rattle.std.proofs.Common.{ap, subst, ◌∙◌, arith}
use Rattle.std.specs.Prelude.{slice_get}
use Rattle.bpf_shared.proofs.Puts.{equal_or_not}
use Rattle.bpf_shared.specs.Laws.{asked, CallsHaveOneReply}
use Rattle.bpf_shared.specs.Shape.{Shape}
use Rattle.bpf_shared.specs.Store.{put}
use Rattle.bpf_shared.specs.declared.events.Event.{Event}
use Rattle.bpf_shared.specs.declared.events.Event.TheVariants.{Begin, End, Lookup, Update, Delete, Keys, Load, Store, Atomic}
use Rattle.bpf_shared.specs.declared.events.Size.{Size}
use Rattle.bpf_shared.proofs.Leaving.{event_shape}
use Rattle.bpf_loader.specs.Loaded.{Loaded}
use Rattle.bpf_loader.specs.Laws.{OneInstructionBegins}
use Rattle.bpf_mem.specs.Laws.{WritesAreDetermined}
use Rattle.bpf_helpers.specs.Laws.{AreAskedAlike}
use Rattle.bpf_cpu.specs.declared.cpu.Cpu.{Cpu}
use Rattle.bpf_cpu.specs.declared.outcome.Outcome.{Outcome}
use Rattle.bpf_cpu.specs.declared.outcome.Progress.{Progress}
use Rattle.bpf_cpu.specs.declared.outcome.Progress.TheVariants.{On}
use Rattle.bpf_cpu.specs.State.{start}
use Rattle.bpf_cpu.specs.Step.{Step}
use Rattle.bpf_cpu.specs.Task.{Stage, Task, Waiting, InHand, Ended}
use Rattle.bpf_cpu.proofs.Asking.{asks-first, asks-behind, asks-end, asks-end'}
use Rattle.bpf_cpu.proofs.DeterminedRuns.{step_agrees}
use Rattle.bpf_live.specs.Laws.{AlikeIsAnEquivalence, StepsAreAlike}
use Rattle.bpf_machine.specs.declared.machine.Turn.{Turn}
use Rattle.bpf_machine.specs.declared.machine.Turn.TheVariants.{Ran}
use Rattle.bpf_machine.specs.Hands.{IsAt, IsFree, NoneWaits, SomeWaits, with_stage}
use Rattle.bpf_machine.specs.Headways.{with_jobs}
use Rattle.bpf_machine.specs.Rounds.{HaveEnded}
use Rattle.bpf_machine.specs.Schedule.{World, outcome_after, Lists, Settles}
use Rattle.bpf_machine.proofs.DeterminedTurns.{IsWorld, same_stage, fresh_world}
use Rattle.bpf_machine.proofs.HeadwayLaws.{SameJobs, set_others}
use Rattle.bpf_machine.proofs.ListLaws.{lists_jobs, lists_store, lists_programs, lists_along}
use Rattle.bpf_x86.specs.Buffers.{Buffered, Flushes, CallsAll}
use Rattle.bpf_x86.specs.Forwarding.{AreStores}
use Rattle.bpf_x86.specs.Machine.{X86, Move, TurnOf, FlushOf, Moves, RunsMoves, buffered, with_buffered, drained, Advances, Settled, GoesOn, TakesTurn}
use Rattle.bpf_x86.proofs.Lagging.{set_apart}
use Rattle.bpf_buffering.specs.Search.{BufferedState, IsShownX86}
use Rattle.bpf_buffering.specs.Ahead.{gone_on, IsUnseen, TakesUnseen, IsClosedX86, AheadSetsCoverX86}
use Rattle.bpf_buffering.specs.Alike.{with_x86_jobs}
use Rattle.bpf_buffering.proofs.AlikeMoves.{alike_world, end_alike}
use Rattle.bpf_buffering.proofs.Determined.{one_move}
use Rattle.bpf_buffering.proofs.Fronting.{longer, stores_wait, calls_along, call_along, drains_along, flush_along, flush_own}
use Rattle.bpf_buffering.proofs.Fronting.{drain_shape, flush_shape, call_shape, calls_shape}

-- ---- what a turn leaves
-- the job that goes on is in another stage, and all else that a machine is made of stays
record Left (x z : X86) (k : ℕ) (task : Task) : Type 0 where
  stage : Stage
  jobs : z.world.jobs ≡ with_stage x.world.jobs k task stage
  programs : z.world.programs ≡ x.world.programs
  shape : z.world.store.shape ≡ x.world.store.shape

settled_leaves : (x z : X86) (d k : ℕ) (task : Task) (new : Cpu) (left : ℕ) (end : Option Outcome) (answer : Turn) → Settled x d k task new left end
    answer z → Left x z k task
settled_leaves x z d k task new left None answer s = record {
  stage = InHand new left;
  jobs = ap (λ (w : World). w.jobs) s.0.1;
  programs = ap (λ (w : World). w.programs) s.0.1;
  shape = ap (λ (w : World). w.store.shape) s.0.1;
}
settled_leaves x z d k task new left (Some end) answer s =
    let w : World = (with_buffered x s.0).world in
    let m : World = record w { store = s.2.0; jobs = with_stage w.jobs k task (Ended end) } in
    record {
      stage = Ended end;
      jobs = lists_jobs m d z.world s.2.3;
      programs = lists_programs m d z.world s.2.3;
      shape
          = ap (λ (p : _). p.shape) (lists_store m d z.world s.2.3) ∙ event_shape s.0.memory s.2.0 d End s.2.1.0 ∙ drain_shape (buffered x) s.0 d s.1;
    }

advances_shape : (program : Loaded) (d : ℕ) (b t : Buffered) (old new : Cpu) (left rest : ℕ) (end : Option Outcome) → Advances program d b old
    left end t new rest → t.memory.shape ≡ b.memory.shape
advances_shape program d b t old new zero rest end a = ap (λ (z : Buffered). z.memory.shape) a.1
advances_shape program d b t old new (suc n) rest end a = calls_shape d a.0 b t a.3

goes_leaves : (x z : X86) (d k : ℕ) (task : Task) (old : Cpu) (left : ℕ) (answer : Turn) → GoesOn x d k task old left answer z → Left x z k task
goes_leaves x z d k task old left answer g =
    let s = settled_leaves (with_buffered x g.2) z d k task g.3 g.4 g.1 answer g.7 in
    record {
      stage = s.stage;
      jobs = s.jobs;
      programs = s.programs;
      shape = s.shape ∙ advances_shape g.0 d (buffered x) g.2 old g.3 left g.4 g.1 g.6;
    }

-- jobs of others, programs and the shape
record LeavesJobs (x z : X86) (c : ℕ) : Type 0 where
  jobs : SameJobs x.world.jobs z.world.jobs c
  programs : z.world.programs ≡ x.world.programs
  shape : z.world.store.shape ≡ x.world.store.shape

leaves_jobs : (x z : X86) (c d k : ℕ) (task : Task) → slice_get x.world.jobs k ≡ Some task → task.cpu ≡ d → c ≢ d → Left x z k task → LeavesJobs x z c
leaves_jobs x z c d k task listed of ne l = record {
  jobs = subst (λ (ts : List Task). SameJobs x.world.jobs ts c) (sym l.jobs) (set_others x.world.jobs d k task l.stage listed of c ne);
  programs = l.programs;
  shape = l.shape;
}

turn_leaves : (x z : X86) (c d : ℕ) (answer : Turn) → c ≢ d → TakesTurn x d answer z → LeavesJobs x z c
turn_leaves x z c d answer ne (inl (k, task, state, left, at, goes)) = leaves_jobs x z c d k task at.listed at.of ne
    (goes_leaves x z d k task state left answer goes)
turn_leaves x z c d answer ne (inr (inl (free, (k, task, input, b, at, below, begun, goes)))) =
    let l = leaves_jobs (with_buffered x b) z c d k task at.listed at.of ne
    (goes_leaves (with_buffered x b) z d k task (start d input) task.budget answer goes) in
    record { jobs = l.jobs; programs = l.programs; shape = l.shape ∙ call_shape (buffered x) b d Begin begun }
turn_leaves x z c d answer ne (inr (inr a)) = record {
  jobs = subst (λ (y : X86). SameJobs x.world.jobs y.world.jobs c) (sym a.3) (λ k other now. (λ at. at, λ at. at));
  programs = ap (λ (y : X86). y.world.programs) a.3;
  shape = ap (λ (y : X86). y.world.store.shape) a.3;
}

-- ---- a store is asked as it is
asked_store : (a : ℕ) (size : Size) (x : ℕ) (f : Event) → Store a size x ≡ asked f → Store a size x ≡ f
asked_store a size x Begin e = let no : Store a size x ≡ Begin = e in cc
asked_store a size x End e = let no : Store a size x ≡ End = e in cc
asked_store a size x (Lookup m key answer) e = let no : Store a size x ≡ asked (Lookup m key answer) = e in cc
asked_store a size x (Update m key bytes flags answer) e = let no : Store a size x ≡ asked (Update m key bytes flags answer) = e in cc
asked_store a size x (Delete m key answer) e = let no : Store a size x ≡ asked (Delete m key answer) = e in cc
asked_store a size x (Keys m ks) e = let no : Store a size x ≡ asked (Keys m ks) = e in cc
asked_store a size x (Load a' size' y) e = let no : Store a size x ≡ asked (Load a' size' y) = e in cc
asked_store a size x (Store a' size' y) e = e
asked_store a size x (Atomic a' size' op operand expected y) e = let no : Store a size x ≡ asked (Atomic a' size' op operand expected y) = e in cc

same_stores : (es fs : List Event) → AreStores es → AreAskedAlike es fs → es ≡ fs
same_stores [] [] so alike = refl
same_stores [] (f ∷ fs) so alike = absurd (asks-end f fs alike)
same_stores (e ∷ es) [] so alike = absurd (asks-end' e es alike)
same_stores (Store a size x ∷ es) (f ∷ fs) so alike =
    let e : Event = Store a size x in
    let one : e ≡ f = asked_store a size x f (asks-first e f es fs alike) in
    let rest : es ≡ fs = same_stores es fs so (asks-behind e f es fs one alike) in
    ap (λ (g : Event). g ∷ es) one ∙ ap (λ (gs : List Event). f ∷ gs) rest
same_stores (e ∷ es) (f ∷ fs) so alike = absurd so

-- ---- the job of a CPU is ahead
module _ (c j : ℕ) (task : Task) (was now : Stage) (ws : List Event) where
  abbrev pub ahead : X86 → X86
  ahead x = record {
    world = record x.world { jobs = with_stage x.world.jobs j task now };
    buffers = put x.buffers c (x.buffers c ++ ws);
  }

  module _ (d : ℕ) (ne : d ≢ c) where
    advances_along : (program : Loaded) (b t : Buffered) (old new : Cpu) (left rest : ℕ) (end : Option Outcome) → Advances program d b old left
        end t new rest → Advances program d (longer c ws b) old left end (longer c ws t) new rest
    advances_along program b t old new zero rest end (ends, same, stays, last) = (ends, ap (longer c ws) same, stays, last)
    advances_along program b t old new (suc n) rest end (events, progress, step, calls, ends, last) =
        (events, progress, step, calls_along c d ws ne events b t calls, ends, last)

    module _ (jobs : List Task) (at : IsAt jobs c j task was) (k : ℕ) (other : Task) (stage : Stage) (there : IsAt jobs d k other stage) where
      apart : j ≢ k
      apart e =
          let two : Some task ≡ Some other = sym at.listed ∙ ap (slice_get jobs) e ∙ there.listed in
          let one : task ≡ other = cc in
          ne (sym there.of ∙ ap (λ (t : Task). t.cpu) (sym one) ∙ at.of)

      swapped : (s : Stage) → with_stage (with_stage jobs k other s) j task now ≡ with_stage (with_stage jobs j task now) k other s
      swapped s = set_apart jobs k j (record other { stage = s }) (record task { stage = now }) (λ e. apart (sym e))

    settles_along : (w z : World) (k : ℕ) (other : Task) (stage : Stage) (new : Cpu) (left : ℕ) (end : Option Outcome) (answer : Turn) → IsAt
        w.jobs c j task was → IsAt w.jobs d k other stage → Settles w d k other new left end answer z
        → Settles (with_jobs w (with_stage w.jobs j task now)) d k other new left end answer (with_jobs z (with_stage z.jobs j task now))
    settles_along w z k other stage new left None answer at there (ran, is) = (
      ran,
      ap (λ (y : World). with_jobs y (with_stage y.jobs j task now)) is ∙ ap (with_jobs w) (swapped w.jobs at k other stage there (InHand new left)),
    )
    settles_along w z k other stage new left (Some end) answer at there (s, allowed, ended, lists) =
        let m : World = record w { store = s; jobs = with_stage w.jobs k other (Ended end) } in
        let js : List Task = with_stage m.jobs j task now in
        let here : IsAt m.jobs c j task was = (set_others w.jobs d k other (Ended end) there.listed there.of c (λ e. ne (sym e)) j task was).1 at in
        let same : SameJobs m.jobs js d = set_others m.jobs c j task now here.listed here.of d ne in
        let some : SomeWaits m.jobs d → SomeWaits js d = λ h. (h.0, h.1, h.2, (same h.0 h.1 (Waiting h.2)).1 h.3) in
        let none : NoneWaits m.jobs d → NoneWaits js d = λ h i t input q. h i t input ((same i t (Waiting input)).0 q) in
        let along : Lists (with_jobs m js) d (with_jobs z js) = lists_along m d z js some none lists in
        let last : Lists (with_jobs m js) d (with_jobs z (with_stage z.jobs j task now)) =
        subst (λ (ts : List Task). Lists (with_jobs m js) d (with_jobs z (with_stage ts j task now))) (sym (lists_jobs m d z lists)) along in (
          s,
          allowed,
          ended,
          subst (λ (ts : List Task). Lists (with_jobs m ts) d (with_jobs z (with_stage z.jobs j task now))) (swapped w.jobs at k other stage
              there (Ended end)) last,
        )

    settled_along : (x z : X86) (k : ℕ) (other : Task) (stage : Stage) (new : Cpu) (left : ℕ) (end : Option Outcome) (answer : Turn) → IsAt
        x.world.jobs c j task was → IsAt x.world.jobs d k other stage → Settled x d k other new left end answer z
        → Settled (ahead x) d k other new left end answer (ahead z)
    settled_along x z k other stage new left None answer at there (settles, same) = (
      settles_along x.world z.world k other stage new left None answer at there settles,
      ap (λ (f : ℕ → List Event). put f c (f c ++ ws)) same,
    )
    settled_along x z k other stage new left (Some end) answer at there (b, drains, settles, same) = (
      longer c ws b,
      drains_along c d ws ne (buffered x) b drains,
      settles_along (with_buffered x b).world z.world k other stage new left (Some end) answer at there settles,
      ap (λ (f : ℕ → List Event). put f c (f c ++ ws)) same,
    )

    goes_along : (x z : X86) (k : ℕ) (other : Task) (stage : Stage) (old : Cpu) (left : ℕ) (answer : Turn) → IsAt x.world.jobs c j task was →
        IsAt x.world.jobs d k other stage → GoesOn x d k other old left answer z → GoesOn (ahead x) d k other old left answer (ahead z)
    goes_along x z k other stage old left answer at there (program, end, b, new, rest, loaded, advances, settled) = (
      program,
      end,
      longer c ws b,
      new,
      rest,
      loaded,
      advances_along program (buffered x) b old new left rest end advances,
      settled_along (with_buffered x b) z k other stage new rest end answer at there settled,
    )

    turn_along : (x z : X86) (answer : Turn) → IsAt x.world.jobs c j task was → TakesTurn x d answer z → TakesTurn (ahead x) d answer (ahead z)
    turn_along x z answer at turn =
        go turn
      where
        same : SameJobs x.world.jobs (with_stage x.world.jobs j task now) d
        same = set_others x.world.jobs c j task now at.listed at.of d ne

        free_along : IsFree x.world.jobs d → IsFree (with_stage x.world.jobs j task now) d
        free_along free i t state left q = free i t state left ((same i t (InHand state left)).0 q)

        go : TakesTurn x d answer z → TakesTurn (ahead x) d answer (ahead z)
        go (inl (k, other, state, left, there, goes)) = inl (
          k,
          other,
          state,
          left,
          (same k other (InHand state left)).1 there,
          goes_along x z k other (InHand state left) state left answer at there goes,
        )
        go (inr (inl (free, (k, other, input, b, there, below, begun, goes)))) = inr (inl (
          free_along free,
          (
            k,
            other,
            input,
            longer c ws b,
            (same k other (Waiting input)).1 there,
            λ i t more less q. below i t more less ((same i t (Waiting more)).0 q),
            call_along c d ws ne Begin (buffered x) b begun,
            goes_along (with_buffered x b) z k other (Waiting input) (start d input) other.budget answer at there goes,
          ),
        ))
        go (inr (inr (free, none, idle, is))) = inr (inr (
          free_along free,
          λ i t input q. none i t input ((same i t (Waiting input)).0 q),
          idle,
          ap ahead is,
        ))

  pub moves_along : (x z : X86) (move : Move) → move ≢ TurnOf c → IsAt x.world.jobs c j task was → Moves x move z → Moves (ahead x) move (ahead z)
  moves_along x z (TurnOf d) ne at (answer, turn) = (answer, turn_along d (λ e. ne (ap TurnOf e)) x z answer at turn)
  moves_along x z (FlushOf d) ne at (b, flushes, is) = (
    longer c ws b,
    elim (equal_or_not d c) [
      | inl e ↦
          subst (λ (k : ℕ). Flushes (longer c ws (buffered x)) k (longer c ws b)) (sym e)
          (flush_own c ws (buffered x) b (subst (λ (k : ℕ). Flushes (buffered x) k b) e flushes))
      | inr apart ↦ flush_along c d ws apart (buffered x) b flushes
    ],
    ap ahead is,
  )

move_leaves : (x z : X86) (c : ℕ) (move : Move) → move ≢ TurnOf c → Moves x move z → LeavesJobs x z c
move_leaves x z c (TurnOf d) ne m = turn_leaves x z c d m.0 (λ e. ne (ap TurnOf (sym e))) m.1
move_leaves x z c (FlushOf d) ne m = record {
  jobs = subst (λ (y : X86). SameJobs x.world.jobs y.world.jobs c) (sym m.2) (λ k other now. (λ at. at, λ at. at));
  programs = ap (λ (y : X86). y.world.programs) m.2;
  shape = ap (λ (y : X86). y.world.store.shape) m.2 ∙ flush_shape (buffered x) m.0 d m.1;
}

pub is_turn : (move : Move) (c : ℕ) → (move ≡ TurnOf c) ⊎ (move ≢ TurnOf c)
is_turn (TurnOf d) c = elim (equal_or_not d c) [
  | inl e ↦ inl (ap TurnOf e)
  | inr ne ↦ inr (λ q. let same : TurnOf d ≡ TurnOf c = q in ne cc)
]
is_turn (FlushOf d) c = inr (λ q. let no : FlushOf d ≡ TurnOf c = q in cc)

-- an unseen turn is a turn
pub unseen_turn : (x z : X86) (c : ℕ) → IsUnseen x c z → TakesTurn x c Ran z
unseen_turn x z c u = subst (λ (y : X86). TakesTurn x c Ran y) (sym u.is) (inl (
  u.job,
  u.task,
  u.old,
  suc (suc u.left),
  u.at,
  (u.program, None, u.after, u.new, suc u.left, u.loaded, (u.events, On, u.step, u.calls, refl, refl), ((refl, refl), refl)),
))

module _ (law : WritesAreDetermined) (begins : OneInstructionBegins) (replies : CallsHaveOneReply) where
  module _ (c j : ℕ) (task : Task) (old : Cpu) (left : ℕ) (program : Loaded) (shape : Shape) (ws : List Event) (new : Cpu)
      (step : Step shape program old ws On new) (stores : AreStores ws) where
    abbrev pub was : Stage
    was = InHand old (suc (suc left))

    abbrev pub now : Stage
    now = InHand new (suc left)

    pub record CanGo (x : X86) : Type 0 where
      pub at : IsAt x.world.jobs c j task was
      pub loaded : slice_get x.world.programs task.program ≡ Some program
      pub shape_is : x.world.store.shape ≡ shape
      pub world : IsWorld x.world

    pub still_goes : (x z : X86) (move : Move) → move ≢ TurnOf c → CanGo x → Moves x move z → CanGo z
    still_goes x z move ne can m =
        let l = move_leaves x z c move ne m in
        record {
          at = (l.jobs j task was).1 can.at;
          loaded = ap (λ (ps : List Loaded). slice_get ps task.program) l.programs ∙ can.loaded;
          shape_is = l.shape ∙ can.shape_is;
          world = (one_move law begins replies x move z z can.world m m).1;
        }

    -- the CPU's own turn is that turn
    going_is : (x z : X86) (answer : Turn) → CanGo x → GoesOn x c j task old (suc (suc left)) answer z → z ≡ ahead c j task was now ws x
    going_is x z answer can (program', end, b, new', rest, loaded, (events, progress, step', calls, ends, last), settled) =
        let two : Some program' ≡ Some program = sym loaded ∙ can.loaded in
        let one : program' ≡ program = cc in
        let there : Step shape program old events progress new' =
        subst (λ (h : Shape). Step h program old events progress new') can.shape_is
        (subst (λ (p : Loaded). Step x.world.store.shape p old events progress new') one step') in
        let agrees = step_agrees law begins shape program old new new' On progress ws events
        (can.world.memory c j task old (suc (suc left)) can.at) step there in
        let same : ws ≡ events = same_stores ws events stores agrees.asks in
        let both = agrees.replied same in
        let ended : end ≡ None =
        ends ∙ ap (λ (p : Progress). outcome_after p (suc left) new') (sym both.turns) in
        let waits : b ≡ longer c ws (buffered x) = stores_wait c ws (buffered x) b stores
        (subst (λ (es : List Event). CallsAll (buffered x) c es b) (sym same) calls) in
        let settled' : Settled (with_buffered x b) c j task new' rest None answer z = subst
        (λ (o : Option Outcome). Settled (with_buffered x b) c j task new' rest o answer z) ended settled in
        let stage : InHand new' rest ≡ now = ap (λ (s : Cpu). InHand s rest) (sym both.states) ∙ ap (InHand new) last in
        let world : z.world ≡ record (with_buffered x b).world { jobs = with_stage x.world.jobs j task now } =
        settled'.0.1 ∙ ap (λ (s : Stage). record (with_buffered x b).world { jobs = with_stage x.world.jobs j task s }) stage in
        let machine : z ≡ record { world = record (with_buffered x b).world { jobs = with_stage x.world.jobs j task now }; buffers = b.buffers } =
        ap (λ (w : World). record { world = w; buffers = z.buffers }) world
        ∙ ap (λ (f : ℕ → List Event). record { world = record (with_buffered x b).world { jobs = with_stage x.world.jobs j task now }; buffers = f })
        settled'.1 in
        machine ∙ ap (λ (m : Buffered). record {
          world = record (with_buffered x m).world { jobs = with_stage x.world.jobs j task now };
          buffers = m.buffers;
        }) waits

    turn_is : (x z : X86) (answer : Turn) → CanGo x → TakesTurn x c answer z → z ≡ ahead c j task was now ws x
    turn_is x z answer can (inl (k, t, state, rest, at, goes)) =
        let jobs : k ≡ j = can.world.one c k j t task state old rest (suc (suc left)) at can.at in
        let there : IsAt x.world.jobs c j t (InHand state rest) = subst (λ (n : ℕ). IsAt x.world.jobs c n t (InHand state rest)) jobs at in
        let same = same_stage x.world.jobs c j t task (InHand state rest) was there can.at in
        let stages : InHand state rest ≡ was = same.1 in
        let states : state ≡ old = cc in
        let lefts : rest ≡ suc (suc left) = cc in
        going_is x z answer can
        (subst (λ (n : ℕ). GoesOn x c j task old n answer z) lefts
        (subst (λ (s : Cpu). GoesOn x c j task s rest answer z) states
        (subst (λ (u : Task). GoesOn x c j u state rest answer z) same.0
        (subst (λ (n : ℕ). GoesOn x c n t state rest answer z) jobs goes))))
    turn_is x z answer can (inr (inl a)) = absurd (a.0 j task old (suc (suc left)) can.at)
    turn_is x z answer can (inr (inr a)) = absurd (a.0 j task old (suc (suc left)) can.at)

    pub move_is : (x z : X86) (move : Move) → move ≡ TurnOf c → CanGo x → Moves x move z → z ≡ ahead c j task was now ws x
    move_is x z move e can m =
        let turn = subst (λ (n : Move). Moves x n z) e m in
        turn_is x z turn.0 can turn.1

    -- the moves that lead to a machine without work, but for that turn
    abbrev pub Rest : List Move → X86 → X86 → Type 0
    Rest moves x z = (rest : List Move) × RunsMoves (ahead c j task was now ws x) rest z × (length rest < length moves)

    front : (moves : List Move) (x z : X86) → CanGo x → HaveEnded z.world.jobs → RunsMoves x moves z → Rest moves x z
    front [] x z can ended runs =
        let end = ended j task (subst (λ (y : X86). slice_get y.world.jobs j ≡ Some task) (sym runs) can.at.listed) in
        let no : was ≡ Ended end.0 = sym can.at.at ∙ end.1 in
        cc
    front (move ∷ moves) x z can ended (y, first, runs) = elim (is_turn move c) [
      | inl e ↦ (moves, subst (λ (v : X86). RunsMoves v moves z) (move_is x y move e can first) runs, omega arith)
      | inr ne ↦
          let r = front moves y z (still_goes x y move ne can first) ended runs in
          let less = r.2 in
          (move ∷ r.0, (ahead c j task was now ws y, moves_along c j task was now ws x y move ne can.at first, r.1), omega arith)
    ]

  -- ---- unseen turns come first
  pub unseen_first : (moves : List Move) (x y z : X86) (c : ℕ) → IsWorld x.world → HaveEnded z.world.jobs → RunsMoves x moves z → IsUnseen x c y
      → (rest : List Move) × RunsMoves y rest z × (length rest < length moves) × IsWorld y.world
  unseen_first moves x y z c world ended runs u =
      let r = front c u.job u.task u.old u.left u.program x.world.store.shape u.events u.new u.step u.stores moves x z
      (record { at = u.at; loaded = u.loaded; shape_is = refl; world = world }) ended runs in
      let now : Stage = InHand u.new (suc u.left) in
      let is : y ≡ ahead c u.job u.task (InHand u.old (suc (suc u.left))) now u.events x =
      u.is ∙ ap (λ (b : Buffered). gone_on x b u.job u.task u.new (suc u.left)) (stores_wait c u.events (buffered x) u.after u.stores u.calls) in
      let turn : Moves x (TurnOf c) y = (Ran, unseen_turn x y c u) in (
        r.0,
        subst (λ (v : X86). RunsMoves v r.0 z) (sym is) r.1,
        r.2,
        (one_move law begins replies x (TurnOf c) y y world turn turn).1,
      )

  pub all_first : (n : ℕ) (moves : List Move) (x y z : X86) (c : ℕ) → IsWorld x.world → HaveEnded z.world.jobs → RunsMoves x moves z →
      TakesUnseen n x c y → (rest : List Move) × RunsMoves y rest z × (length rest ≤ length moves) × IsWorld y.world
  all_first zero moves x y z c world ended runs is =
      (moves, subst (λ (v : X86). RunsMoves v moves z) (sym is) runs, omega arith, subst (λ (v : X86). IsWorld v.world) (sym is) world)
  all_first (suc n) moves x y z c world ended runs (m, first, others) =
      let one = unseen_first moves x m z c world ended runs first in
      let r = all_first n one.0 m y z c one.3 ended one.1 others in
      let less = one.2 in
      let few = r.2 in
      (r.0, r.1, omega arith, r.3)

-- ---- a closed list
module _ (equal : AlikeIsAnEquivalence) (steps : StepsAreAlike) (law : WritesAreDetermined) (begins : OneInstructionBegins)
    (replies : CallsHaveOneReply) where
  covered : (kept : List BufferedState) → IsClosedX86 kept → (n : ℕ) (moves : List Move) (x z : X86) → length moves ≤ n → IsWorld x.world →
      IsShownX86 kept x → RunsMoves x moves z → HaveEnded z.world.jobs → IsShownX86 kept z
  covered kept closed n [] x z few world shown runs ended = subst (IsShownX86 kept) (sym runs) shown
  covered kept closed zero (move ∷ moves) x z few world shown runs ended = absurd (omega arith)
  covered kept closed (suc n) (move ∷ moves) x z few world shown (m, first, runs) ended = elim (closed shown.0 shown.1 shown.2 move) [
    | inl made ↦
        (let there = made.1 x shown.3 in
        let one = one_move law begins replies x move m there.0 world first there.4 in
        let r = all_first law begins replies there.3 moves there.0 there.1 z there.2 (subst (λ (v : X86). IsWorld v.world) one.0 one.1) ended
        (subst (λ (v : X86). RunsMoves v moves z) one.0 runs) there.5 in
        let less = r.2 in
        let dead = made.2 there.1 there.6 in
        covered kept closed n r.0 (with_x86_jobs there.1 dead.0) z (omega arith) (alike_world equal there.1.world dead.0 dead.1 r.3) dead.2
        (end_alike equal steps r.0 there.1 z dead.0 dead.1 r.1 ended) ended)
    | inr none ↦ absurd (none x m shown.3 first)
  ]

  pub ahead_sets_cover : AheadSetsCoverX86
  ahead_sets_cover kept w moves z closed fresh shown runs ended = covered kept closed (length moves) moves (drained w) z (omega arith)
      (fresh_world law begins replies w fresh) shown runs ended
