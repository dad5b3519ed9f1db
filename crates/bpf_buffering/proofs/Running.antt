-- Steps that no other CPU sees are unseen turns of the x86 machine.
use Rattle.std.proofs.Common.{◌≡◌, ℕ, zero, suc, ◌+◌, false, List, [], ◌∷◌, ◌++◌, replicate, Some, inl, inr, refl, sym, ap, subst, ◌∙◌, arith}
use Rattle.std.specs.Prelude.{Vec, slice_get, slice_set, slice_index_or}
use Rattle.std.specs.declared.alloc.Global.{Global}
use Rattle.bpf_base.proofs.Lists.{slice_get-set_known, set_twice}
use Rattle.bpf_shared.specs.Shape.{Shape}
use Rattle.bpf_shared.specs.Store.{Plain, put}
use Rattle.bpf_shared.specs.declared.events.Event.{Event}
use Rattle.bpf_plain.specs.PlainStore.{Contents, StandsFor, shape_of}
use Rattle.bpf_loader.specs.Loaded.{Loaded}
use Rattle.bpf_cpu.specs.declared.cpu.Cpu.{Cpu}
use Rattle.bpf_cpu.specs.declared.outcome.Progress.TheVariants.{On}
use Rattle.bpf_cpu.specs.Step.{Step}
use Rattle.bpf_cpu.specs.Task.{Stage, Task, InHand}
use Rattle.bpf_machine.specs.Hands.{IsAt, with_stage}
use Rattle.bpf_machine.specs.Kept.{kept_stage}
use Rattle.bpf_machine.proofs.AheadLaws.{equal_lists}
use Rattle.bpf_shared.proofs.Puts.{equal_or_not}
use Rattle.bpf_base.proofs.Lists.{slice_get-set_other}
use Rattle.bpf_x86.specs.Buffers.{Buffered, CallsAll}
use Rattle.bpf_x86.specs.Machine.{X86, Move, TurnOf, RunsMoves, buffered}
use Rattle.bpf_machine.specs.declared.machine.Turn.TheVariants.{Ran}
use Rattle.bpf_buffering.specs.Search.{BufferedState, ShowsX86, MovesTo, RunsTo, buffer_at, alone}
use Rattle.bpf_buffering.specs.Ahead.{gone_on, IsUnseen, TakesUnseen, RunsUnseen, MovesAhead}
use Rattle.bpf_buffering.specs.Private.Kept.{ShowsAsMuch}
use Rattle.bpf_buffering.specs.declared.waiting.Stored.{Stored}
use Rattle.bpf_buffering.specs.declared.jobs.Listed.{Listed}
use Rattle.bpf_buffering.specs.Waiting.{WaitingContents, buffer_of}
use Rattle.bpf_buffering.specs.Going.{StepsAhead, GoesAheadOver, LeavesOthers}
use Rattle.bpf_buffering.specs.Buffering.{events_of_all, state_of, IsBuffering}
use Rattle.bpf_buffering.proofs.Covering.{unseen_turn}
use Rattle.bpf_buffering.proofs.Fronting.{calls_shape}
use Rattle.bpf_buffering.proofs.Local.{calls_are_local}
use Rattle.bpf_buffering.proofs.Placing.{shown, stage_was, cpu_is, buffer_is, tasks_now, events_now}

-- ---- calls in two parts
calls_cut : (c : ℕ) (es fs : List Event) (b t : Buffered) → CallsAll b c (es ++ fs) t → (m : Buffered) × CallsAll b c es m × CallsAll m c fs t
calls_cut c [] fs b t calls = (b, refl, calls)
calls_cut c (e ∷ es) fs b t (m, call, rest) = let r = calls_cut c es fs m t rest in (r.0, (m, call, r.1), r.2)

-- a job in the stage that it is in
set_same : (jobs : List Task) (j : ℕ) (task : Task) (stage : Stage) → slice_get jobs j ≡ Some task → stage ≡ task.stage → with_stage jobs j task
    stage ≡ jobs
set_same jobs j task stage at is =
    ap (λ (s : Stage). with_stage jobs j task s) is ∙ equal_lists (slice_set jobs j task) jobs (λ k. elim (equal_or_not k j) [
      | inl e ↦ subst (λ (i : ℕ). slice_get (slice_set jobs j task) i ≡ slice_get jobs i) (sym e) (slice_get-set_known jobs j task task at ∙ sym at)
      | inr apart ↦ slice_get-set_other jobs j k task apart
    ])

takes_unseen : (n : ℕ) (x : X86) (c j : ℕ) (task : Task) (old : Cpu) (left : ℕ) (program : Loaded) (shape : Shape) (es : List Event) (new : Cpu)
    (rest : ℕ) (t : Buffered) → IsAt x.world.jobs c j task (InHand old left) → slice_get x.world.programs task.program ≡ Some program
    → x.world.store.shape ≡ shape → StepsAhead shape program n old left es new rest → CallsAll (buffered x) c es t
    → TakesUnseen n x c (gone_on x t j task new rest)
takes_unseen zero x c j task old left program shape es new rest t at loaded is (none, stays, same) calls =
    let nothing : t ≡ buffered x = subst (λ (fs : List Event). CallsAll (buffered x) c fs t) none calls in
    let stage : InHand new rest ≡ task.stage = ap (λ (s : Cpu). InHand s rest) stays ∙ ap (InHand old) same ∙ sym at.at in
    ap (λ (b : Buffered). gone_on x b j task new rest) nothing
    ∙ ap (λ (ts : List Task). record { world = record x.world { jobs = ts }; buffers = x.buffers })
    (set_same x.world.jobs j task (InHand new rest) at.listed stage)
takes_unseen (suc n) x c j task old left program shape es new rest t at loaded is (k, first, others, mid, many, parts, step, stores, steps) calls =
    let cut = calls_cut c first others (buffered x) t (subst (λ (fs : List Event). CallsAll (buffered x) c fs t) parts calls) in
    let m : Buffered = cut.0 in
    let stage : Stage = InHand mid (suc k) in
    let task' : Task = record task { stage = stage } in
    let y : X86 = gone_on x m j task mid (suc k) in
    let there : IsAt y.world.jobs c j task' stage = record {
      listed = slice_get-set_known x.world.jobs j task' task at.listed;
      of = at.of;
      at = refl;
    } in
    let made : IsUnseen x c y = record {
      job = j;
      task = task;
      old = old;
      left = k;
      at = subst (λ (i : ℕ). IsAt x.world.jobs c j task (InHand old i)) many at;
      program = program;
      loaded = loaded;
      events = first;
      new = mid;
      step = subst (λ (h : Shape). Step h program old first On mid) (sym is) step;
      stores = stores;
      after = m;
      calls = cut.1;
      is = refl;
    } in
    let last = takes_unseen n y c j task' mid (suc k) program shape others new rest t there loaded (calls_shape c first (buffered x) m cut.1 ∙ is)
    steps cut.2 in
    let over : with_stage y.world.jobs j task' (InHand new rest) ≡ with_stage x.world.jobs j task (InHand new rest) = set_twice x.world.jobs j task'
    (record task { stage = InHand new rest }) in (
      y,
      made,
      subst (λ (ts : List Task). TakesUnseen n y c (record { world = record x.world { store = t.memory; jobs = ts }; buffers = t.buffers })) over last,
    )

module _ (w : WaitingContents) (programs : List Loaded) (jobs : List Listed) (buffers : List (Vec Stored Global))
    (board : IsBuffering w programs jobs buffers) (c j : ℕ) (e : Listed) (listed : slice_get jobs j ≡ Some e) (program : Loaded)
    (fetched : slice_get programs e.program ≡ Some program)
    (v : Vec Stored Global) (read : v ≡ slice_index_or buffers c v) (h : WaitingContents)
    (taken : h ≡ record w { waiting = v.items; cpu = c }) (u : Vec Stored Global) (u_is : u.items ≡ w.waiting)
    (k : WaitingContents) (cpu_same : k.cpu ≡ h.cpu) (others : LeavesOthers h.cpu h.store k.store) (e' : Listed)
    (same : e' ≡ record e { stage = e'.stage }) (x : Vec Stored Global) (again : x ≡ slice_index_or (slice_set buffers c u) c x)
    (z : WaitingContents) (given : z ≡ record k { waiting = x.items; cpu = c }) (y : Vec Stored Global) (y_is : y.items ≡ k.waiting)
    (task : Task) (state : Cpu) (left : ℕ)
    (at : IsAt (state_of w programs jobs buffers).machine.jobs c j task (InHand state left)) where
  abbrev pub new_state : BufferedState
  new_state = state_of z programs (slice_set jobs j e') (slice_set (slice_set buffers c u) c y)

  pub ahead_now : z.lost ≡ false → (n : ℕ) → GoesAheadOver program h (kept_stage e.stage) n k (kept_stage e'.stage) → RunsUnseen
      (state_of w programs jobs buffers) c n new_state
  ahead_now kept n (old, budget, events, new, rest, was, now, steps, lead) m shows =
      let shows_first : StandsFor h.store m.world.store = subst (λ (p : Contents). StandsFor p m.world.store)
      (ap (λ (a : WaitingContents). a.store) (sym taken)) shows.world.store in
      let r = lead (ap (λ (a : WaitingContents). a.lost) (sym given) ∙ kept) in
      let t = r.1 m.world.store shows.world.sound shows_first in
      let cpu : h.cpu ≡ c = cpu_is w programs jobs buffers board c j task (InHand state left) at e listed v read h taken u u_is in
      let waits : buffer_of h ≡ buffer_at (events_of_all buffers) c = buffer_is w programs jobs buffers board c j task (InHand state left) at e
      listed v read h taken u u_is in
      let fs : List Event = buffer_of k in
      let calls : CallsAll (alone m.world.store c (buffer_of h)) c events (alone t.0 c fs) =
      subst (λ (i : ℕ). CallsAll (alone m.world.store i (buffer_of h)) i events (alone t.0 i fs)) cpu t.3 in
      let own : m.buffers c ≡ buffer_of h = ap (λ (f : ℕ → List Event). f c) shows.buffers ∙ sym waits in
      let after : Buffered = record { memory = t.0; buffers = put m.buffers c fs } in
      let beside : CallsAll (buffered m) c events after = calls_are_local m.world.store t.0 c (buffer_of h) events fs m.buffers own calls in
      let stage : InHand old budget ≡ InHand state left = sym was ∙ stage_was w programs jobs buffers board c j task (InHand state left) at e listed in
      let states : old ≡ state = cc in
      let lefts : budget ≡ left = cc in
      let made : StepsAhead (shape_of h.store) program n state left events new rest =
      subst (λ (i : ℕ). StepsAhead (shape_of h.store) program n state i events new rest) lefts
      (subst (λ (s : Cpu). StepsAhead (shape_of h.store) program n s budget events new rest) states steps) in
      let there : IsAt m.world.jobs c j task (InHand state left) = subst (λ (ts : List Task). IsAt ts c j task (InHand state left)) (sym shows.world.jobs) at in
      let loaded : slice_get m.world.programs task.program ≡ Some program =
      ap (λ (ps : List Loaded). slice_get ps task.program) shows.world.programs
      ∙ ap (λ (s : Task). slice_get programs s.program) (sym (shown w programs jobs buffers board c j task (InHand state left) at e listed)) ∙ fetched in (
        gone_on m after j task new rest,
        takes_unseen n m c j task state left program (shape_of h.store) events new rest after there loaded shows_first.shape made beside,
        record {
          world = record {
            store = subst (λ (p : Contents). StandsFor p t.0) (ap (λ (a : WaitingContents). a.store) (sym given)) t.2;
            sound = t.1;
            programs = shows.world.programs;
            jobs =
                ap (λ (ts : List Task). with_stage ts j task (InHand new rest)) shows.world.jobs
                ∙ sym (tasks_now w programs jobs buffers board c j task (InHand state left) at e listed v read h taken u u_is k cpu_same others
                e' same x again z given y y_is ∙ ap (λ (s : Stage). with_stage (state_of w programs jobs buffers).machine.jobs j task s) now);
            lists = shows.world.lists;
          };
          buffers = ap (λ (f : ℕ → List Event). put f c fs) shows.buffers ∙ sym (events_now w programs jobs buffers board c j task
              (InHand state left) at e listed v read h taken u u_is k cpu_same others e' same x again z given y y_is);
        },
      )

-- none at all
pub unseen_nothing : (m : BufferedState) (c : ℕ) → RunsUnseen m c 0 m
unseen_nothing m c x shows = (x, refl, shows)

-- ---- a turn and unseen turns after it
unseen_runs : (n : ℕ) (x z : X86) (c : ℕ) → TakesUnseen n x c z → RunsMoves x (replicate n (TurnOf c)) z
unseen_runs zero x z c takes = takes
unseen_runs (suc n) x z c (y, made, rest) = (y, (Ran, unseen_turn x y c made), unseen_runs n y z c rest)

pub turn_alone : (old new : BufferedState) (move : Move) → MovesTo old move new → MovesAhead old move new
turn_alone old new move moves x shows = let r = moves x shows in (r.0, r.0, 0, 0, r.1, refl, r.2)

module _ (old mid next new : BufferedState) (c n : ℕ) (turn : MovesTo old (TurnOf c) mid) (unseen : RunsUnseen mid c n next)
    (more : ShowsAsMuch next new) where
  pub turn_then : MovesAhead old (TurnOf c) new
  turn_then x shows =
      let r = turn x shows in
      let u = unseen r.0 r.2 in
      (r.0, u.0, c, n, r.1, u.1, more u.0 u.2)

  pub turns_then : RunsTo old (replicate (n + 1) (TurnOf c)) new
  turns_then x shows =
      let r = turn x shows in
      let u = unseen r.0 r.2 in
      let one : suc n ≡ n + 1 = omega arith in
      (u.0, subst (λ (k : ℕ). RunsMoves x (replicate k (TurnOf c)) u.0) one (r.0, r.1, unseen_runs n r.0 u.0 c u.1), more u.0 u.2)
