-- Where no schedule leads to a race, the plain machine that makes each store at once reaches what the
-- x86 machine reaches.
use Rattle.std.proofs.Common.{◌≡◌, ◌≢◌, ℕ, zero, suc, ◌<◌, ◌≤◌, Bool, true, false, List, [], ◌∷◌, ◌++◌, length, Option, Some, None, inl}
use Rattle.std.proofs.Common.{inr, refl, sym, ap, subst, ◌∙◌, arith, append-nil, append_assoc}
use Rattle.std.specs.Prelude.{map, slice_get, slice_set}
use Rattle.std.proofs.lemmas.Bool.{cases_lt, or_left, or_right, or_cases}
use Rattle.bpf_base.proofs.Lists.{slice_get-set_known, slice_get-set_other, set_twice}
use Rattle.bpf_shared.specs.declared.events.Span.{Span}
use Rattle.bpf_shared.specs.declared.events.Event.{Event}
use Rattle.bpf_shared.specs.declared.events.Event.TheVariants.{Begin, Load, Store}
use Rattle.bpf_shared.specs.Laws.{CallsHaveOneReply}
use Rattle.bpf_shared.specs.Store.{Value, Plain}
use Rattle.bpf_shared.specs.Shape.{IsShape}
use Rattle.bpf_shared.specs.History.{PlainlyLegal, entry}
use Rattle.bpf_shared.specs.Sound.{IsSoundStore}
use Rattle.bpf_shared.proofs.Soundness.{allowed_sound}
use Rattle.bpf_shared.proofs.Puts.{true_or_false, equal_or_not, put-same, put-other}
use Rattle.bpf_loader.specs.Loaded.{Loaded}
use Rattle.bpf_loader.specs.Laws.{OneInstructionBegins}
use Rattle.bpf_mem.specs.Laws.{WritesAreDetermined}
use Rattle.bpf_cpu.specs.declared.cpu.Cpu.{Cpu}
use Rattle.bpf_cpu.specs.declared.input.Input.{Input}
use Rattle.bpf_cpu.specs.declared.outcome.Outcome.{Outcome}
use Rattle.bpf_cpu.specs.declared.outcome.Progress.{Progress}
use Rattle.bpf_cpu.specs.State.{start}
use Rattle.bpf_cpu.specs.Step.{Step}
use Rattle.bpf_cpu.specs.Task.{Ended, InHand, Stage, Task, Waiting}
use Rattle.bpf_machine.specs.declared.machine.Turn.{Turn}
use Rattle.bpf_machine.specs.Hands.{IsAt}
use Rattle.bpf_machine.specs.Schedule.{World, RunsSchedule}
use Rattle.bpf_machine.specs.Schedule as plain
use Rattle.bpf_machine.specs.Rounds.{HaveEnded}
use Rattle.bpf_machine.specs.Laws.{IsFresh}
use Rattle.bpf_cpu.specs.declared.outcome.Outcome.TheVariants.{OutOfBudget}
use Rattle.bpf_machine.proofs.ListLaws.{lists_jobs, lists_programs}
use Rattle.bpf_machine.proofs.DeterminedTurns.{IsWorld, same_stage, fresh_world, runs_world}
use Rattle.bpf_x86.specs.Buffers.{Buffered, Flushes}
use Rattle.bpf_x86.specs.Machine.{FlushOf, GoesOn, Move, Moves, RunsMoves, Settled, TakesTurn, TurnOf, X86, buffered, drained, with_buffered}
use Rattle.bpf_x86.specs.Laws.{Counts, FirstFits, FirstsFit, IsRaceFree, StepsAreThere, RaceFreeIsSame}
use Rattle.bpf_x86.specs.Forwarding.{overlaid}
use Rattle.bpf_x86.proofs.Overlay.{hits, changes, hits_any, changes_any, any_left}
use Rattle.bpf_x86.proofs.Written.{at, address, same_list}
use Rattle.bpf_x86.proofs.Alike.{same_functions}
use Rattle.bpf_x86.proofs.Buffers.{IsClean, IsAhead}
use Rattle.bpf_x86.proofs.Calling.{flushes_ahead}
use Rattle.bpf_x86.proofs.Meeting.{call_ahead}
use Rattle.bpf_x86.proofs.Behind.{IsBehind, AllMiss, more_behind, own_load_behind, own_store_behind}
use Rattle.bpf_x86.proofs.Reaching.{reached}
use Rattle.bpf_x86.proofs.StepShapes.{AreNot, is_call, first_asks_nothing}
use Rattle.bpf_x86.proofs.Lagging.{IsLagging, HasLags, all_made, waits_made, miss_here, miss_later, lag_at, AdvanceMisses, new_world}
use Rattle.bpf_x86.proofs.Following.{TurnMisses, lag_turn}
use Rattle.bpf_x86.proofs.Racing.{race_touched, race_written}
use Rattle.bpf_x86.proofs.Turning.{JudgeStep, stores_of}
use Rattle.bpf_x86.proofs.Going.{over, OwnTurn, NothingWaits, AsBefore, SomeMore, goes_on}

-- the x86 machine beside a plain one that a schedule leads to, which makes each store at once
pub record IsSimulated (first : World) (x : X86) (w : World) : Type 0 where
  pub schedule : List ℕ
  pub runs : RunsSchedule first schedule w
  pub world : x.world ≡ record w { store = x.world.store }
  pub ahead : IsAhead (buffered x) w.store
  pub lags : (d : ℕ) → HasLags first d (x.buffers d) w

-- ---- schedules that grow
runs-last : (cs : List ℕ) (c : ℕ) (w m z : World) (answer : Turn) → RunsSchedule w cs m → plain.TakesTurn m c answer z → RunsSchedule w (cs ++ c ∷ []) z
runs-last [] c w m z answer runs taken = (answer, z, subst (λ (x : World). plain.TakesTurn x c answer z) runs taken, refl)
runs-last (d ∷ cs) c w m z answer runs taken = (runs.0, runs.1, runs.2, runs-last cs c runs.1 m z answer runs.3 taken)

-- ---- programs stay
goes_programs : (w : World) (c k : ℕ) (t : Task) (old : Cpu) (left : ℕ) (answer : Turn) (z : World) → plain.GoesOn w c k t old left answer z
    → z.programs ≡ w.programs
goes_programs w c k t old left answer z g = settle g.1 g.7
  where
    settle : (o : Option Outcome) → plain.Settles (record w { store = g.2 }) c k t g.3 g.4 o answer z → z.programs ≡ w.programs
    settle None s = ap (λ (x : World). x.programs) s.1
    settle (Some over) s = lists_programs _ c z s.3

turn_programs : (w : World) (c : ℕ) (answer : Turn) (z : World) → plain.TakesTurn w c answer z → z.programs ≡ w.programs
turn_programs w c answer z (inl a) = goes_programs w c a.0 a.1 a.2 a.3 answer z a.5
turn_programs w c answer z (inr (inl (free, a))) = goes_programs (record w { store = a.3 }) c a.0 a.1 (start c a.2) a.1.budget answer z a.7
turn_programs w c answer z (inr (inr (free, none, said, same))) = ap (λ (x : World). x.programs) same

runs_programs : (cs : List ℕ) (w z : World) → RunsSchedule w cs z → z.programs ≡ w.programs
runs_programs [] w z runs = ap (λ (x : World). x.programs) runs
runs_programs (c ∷ cs) w z runs = runs_programs cs runs.1 z runs.3 ∙ turn_programs w c runs.0 runs.1 runs.2

-- ---- turns that miss a list miss fewer
advance_fewer : (lacking fewer : List Event) (program : Loaded) (c : ℕ) (s : Plain) (old : Cpu) (left : ℕ) (end : Option Outcome)
    (t : Plain) (new : Cpu) (rest : ℕ) (a : plain.Advances program c s old left end t new rest)
    → ((fs : List Event) → AllMiss lacking fs → AllMiss fewer fs) → AdvanceMisses lacking program c s old left end t new rest a →
    AdvanceMisses fewer program c s old left end t new rest a
advance_fewer lacking fewer program c s old zero end t new rest a less miss = tt
advance_fewer lacking fewer program c s old (suc n) end t new rest a less miss = less a.0 miss

turn_fewer : (lacking fewer : List Event) (w : World) (c : ℕ) (answer : Turn) (z : World) (taken : plain.TakesTurn w c answer z)
    → ((fs : List Event) → AllMiss lacking fs → AllMiss fewer fs) → TurnMisses lacking w c answer z taken → TurnMisses fewer w c answer z taken
turn_fewer lacking fewer w c answer z (inl a) less miss = advance_fewer lacking fewer a.5.0 c w.store a.2 a.3 a.5.1 a.5.2 a.5.3 a.5.4 a.5.6 less miss
turn_fewer lacking fewer w c answer z (inr (inl a)) less miss = advance_fewer lacking fewer a.1.7.0 c a.1.3 (start c a.1.2) a.1.1.budget
    a.1.7.1 a.1.7.2 a.1.7.3 a.1.7.4 a.1.7.6 less miss
turn_fewer lacking fewer w c answer z (inr (inr a)) less miss = tt

-- ---- which machines count
-- those that lag count where the other does
lag_counts : (patient : Bool) (d : ℕ) (made later : List Event) (l w : World) → IsLagging d made later l w → Counts patient w.jobs → Counts patient l.jobs
lag_counts false d made later l w lag none = tt
lag_counts true d made later l w lag none = λ j task pc listed ended.
    let apart : j ≢ lag.job = λ same.
    (let both : Some lag.task ≡ Some task = sym lag.at.listed ∙ subst (λ (i : ℕ). slice_get l.jobs i ≡ Some task) same listed in
    let one : lag.task ≡ task = cc in
    let stages : InHand lag.state (suc lag.left) ≡ Ended (OutOfBudget pc) = sym lag.at.at ∙ ap (λ (t : Task). t.stage) one ∙ ended in
    cc) in
    none j task pc (ap (λ (ts : List Task). slice_get ts j) lag.jobs ∙ slice_get-set_other l.jobs lag.job j
    (record lag.task { stage = InHand lag.now lag.rest }) apart ∙ listed) ended

-- a move leaves the jobs that have ended
goes_keeps : (x : X86) (c k j : ℕ) (task t : Task) (end : Outcome) (was : Stage) (old : Cpu) (left : ℕ) (answer : Turn) (z : X86) → IsAt
    x.world.jobs c k t was → (was ≡ Ended end → ⊥) → GoesOn x c k t old left answer z
    → slice_get x.world.jobs j ≡ Some task → task.stage ≡ Ended end → slice_get z.world.jobs j ≡ Some task
goes_keeps x c k j task t end was old left answer z at differs g listed ended = settle g.1 g.7 ∙ listed
  where
    apart : j ≢ k
    apart same =
        let both : Some t ≡ Some task = sym at.listed ∙ subst (λ (i : ℕ). slice_get x.world.jobs i ≡ Some task) same listed in
        let one : t ≡ task = cc in
        differs (sym at.at ∙ ap (λ (y : Task). y.stage) one ∙ ended)

    settle : (o : Option Outcome) → Settled (with_buffered x g.2) c k t g.3 g.4 o answer z → slice_get z.world.jobs j ≡ slice_get x.world.jobs j
    settle None s = ap (λ (y : World). slice_get y.jobs j) s.0.1 ∙ slice_get-set_other x.world.jobs k j (record t { stage = InHand g.3 g.4 }) apart
    settle (Some over) s = ap (λ (ts : List Task). slice_get ts j) (lists_jobs _ c z.world s.2.3) ∙ slice_get-set_other x.world.jobs k j
        (record t { stage = Ended over }) apart

keeps_ended : (x : X86) (move : Move) (z : X86) (j : ℕ) (task : Task) (end : Outcome) → Moves x move z → slice_get x.world.jobs j ≡ Some
    task → task.stage ≡ Ended end → slice_get z.world.jobs j ≡ Some task
keeps_ended x (TurnOf c) z j task end (answer, inl a) listed ended = goes_keeps x c a.0 j task a.1 end (InHand a.2 a.3) a.2 a.3 answer z a.4
    (λ e. cc) a.5 listed ended
keeps_ended x (TurnOf c) z j task end (answer, inr (inl (free, a))) listed ended =
    goes_keeps (with_buffered x a.3) c a.0 j task a.1 end (Waiting a.2) (start c a.2) a.1.budget answer z a.4 (λ e. cc) a.7 listed ended
keeps_ended x (TurnOf c) z j task end (answer, inr (inr a)) listed ended = ap (λ (y : X86). slice_get y.world.jobs j) a.3 ∙ listed
keeps_ended x (FlushOf c) z j task end (b, flushes, same) listed ended = ap (λ (y : X86). slice_get y.world.jobs j) same ∙ listed

counts_before : (patient : Bool) (x : X86) (move : Move) (z : X86) → Moves x move z → Counts patient z.world.jobs → Counts patient x.world.jobs
counts_before false x move z moves none = tt
counts_before true x move z moves none = λ j task pc listed ended. none j task pc (keeps_ended x move z j task (OutOfBudget pc) moves listed ended) ended

counted_before : (patient : Bool) (moves : List Move) (x z : X86) → RunsMoves x moves z → Counts patient z.world.jobs → Counts patient x.world.jobs
counted_before patient [] x z runs counts = subst (λ (y : X86). Counts patient y.world.jobs) runs counts
counted_before patient (move ∷ moves) x z runs counts = counts_before patient x move runs.0 runs.1 (counted_before patient moves runs.0 z runs.2 counts)

no_middle : (done : List Event) (e : Event) (rest : List Event) → done ++ e ∷ rest ≡ [] → ⊥
no_middle [] e rest is = cc
no_middle (f ∷ fs) e rest is = cc

-- ---- a CPU's own loads and stores
-- the first store lacks its stores too
own_made_behind : (d : ℕ) (made lacking : List Event) (l s t : Plain) → AreNot is_call made → IsSoundStore s → IsBehind d lacking l s →
    PlainlyLegal s (map (entry d) made) t → IsBehind d (lacking ++ stores_of made) l t
own_made_behind d [] lacking l s t none so behind legal = subst (λ (fs : List Event). IsBehind d fs l t) (sym (append-nil lacking))
    (subst (IsBehind d lacking l) legal behind)
own_made_behind d (Load a size found ∷ es) lacking l s t none so behind (m, allowed, rest) =
    own_made_behind d es lacking l m t none.1 (allowed_sound s m d (Load a size found) so allowed.0)
    (own_load_behind d lacking l s m a size found behind allowed) rest
own_made_behind d (Store a size x ∷ es) lacking l s t none so behind (m, allowed, rest) =
    let e : Event = Store a size x in
    subst (λ (fs : List Event). IsBehind d fs l t) (append_assoc lacking (e ∷ []) (stores_of es))
    (own_made_behind d es (lacking ++ e ∷ []) l m t none.1 (allowed_sound s m d e so allowed.0)
    (own_store_behind d lacking l s m a size x so behind allowed) rest)
own_made_behind d (e ∷ es) lacking l s t none so behind legal = let no : true ≡ false = none.0 in cc

-- its stores write no more than all of it
stores_change : (made : List Event) (x : ℕ) → changes_any (stores_of made) x ≡ true → changes_any made x ≡ true
stores_change [] x h = h
stores_change (Store a size y ∷ es) x h = elim (or_cases (changes (Store a size y) x) (changes_any (stores_of es) x) h) [
  | inl here ↦ or_left (changes (Store a size y) x) (changes_any es x) here
  | inr there ↦ or_right (changes (Store a size y) x) (changes_any es x) (stores_change es x there)
]
stores_change (e ∷ es) x h = or_right (changes e x) (changes_any es x) (stores_change es x h)

module _ (law : WritesAreDetermined) (begins : OneInstructionBegins) (replies : CallsHaveOneReply) (patient : Bool) (first : World)
    (fits : FirstsFit first.programs) (fresh : IsFresh first) (there : StepsAreThere patient first) (free : IsRaceFree patient first) where
  reached_world : (schedule : List ℕ) (z : World) → RunsSchedule first schedule z → IsWorld z
  reached_world schedule z runs = runs_world law begins replies schedule first z (fresh_world law begins replies first fresh) runs

  -- ---- other CPUs' lags
  lags_follow : (d c : ℕ) → c ≢ d → (es : List Event) (w z : World) (answer : Turn) (taken : plain.TakesTurn w c answer z) → IsWorld w →
      (lags : HasLags first d es w) → TurnMisses (all_made first d es w lags) w c answer z taken → HasLags first d es z
  lags_follow d c ne [] w z answer taken world lags miss = tt
  lags_follow d c ne (e ∷ es) w z answer taken world lags miss =
      let lag = lags.0 in
      let here = reached_world lag.schedule lag.world lag.runs in
      let all = all_made first d (e ∷ es) w lags in
      let r = lag_turn d lag.made es c ne lag.world w lag.lags here.store world.store answer z taken
      (turn_fewer all (lag.made ++ es) w c answer z taken (miss_here first d e es w lags) miss) in (
        record {
          world = r.0;
          schedule = lag.schedule ++ c ∷ [];
          runs = runs-last lag.schedule c first lag.world r.0 answer lag.runs r.1;
          made = lag.made;
          has = lag.has;
          lags = r.2;
        },
        lags_follow d c ne es w z answer taken world lags.1 (turn_fewer all (all_made first d es w lags.1) w c answer z taken
            (miss_later first d e es w lags) miss),
      )

  -- ---- what judges the calls of a job in hand
  judged : (w : World) (buffers : ℕ → List Event) (lags : (d : ℕ) → HasLags first d (buffers d) w) (c : ℕ) (k : ℕ) (task : Task)
      (state : Cpu) (left : ℕ) (at : IsAt w.jobs c k task (InHand state left)) → IsWorld w → Counts patient w.jobs
      → (program : Loaded) → slice_get w.programs task.program ≡ Some program → JudgeStep (λ d. all_made first d (buffers d) w (lags d))
      program c w.store state left
  judged w buffers lags c k task state left at world counts program loaded n lefts events answer new step done e rest u is legal miss d ne =
      let at' : IsAt w.jobs c k task (InHand state (suc n)) = subst (λ (i : ℕ). IsAt w.jobs c k task (InHand state i)) lefts at in
      let step' : Step w.store.shape program state (done ++ e ∷ rest) answer new = subst
      (λ (es : List Event). Step w.store.shape program state es answer new) is step in (
        λ x hit there_too.
            (let lag = lag_at changes first d (buffers d) w x (lags d) there_too in
            let counted = lag_counts patient d lag.made lag.later lag.world w lag.lags counts in
            free lag.schedule lag.world lag.runs counted _ _ x
            (race_touched law begins replies c d (λ q. ne (sym q)) lag.made lag.later lag.world w lag.lags
            (reached_world lag.schedule lag.world lag.runs) world k task state n at' program loaded done e rest answer new step' u legal
            (lag.fewer done (miss d ne)) (there lag.schedule lag.world lag.runs counted) x hit lag.passes)),
        λ x change there_too.
            (let lag = lag_at hits first d (buffers d) w x (lags d) there_too in
            let counted = lag_counts patient d lag.made lag.later lag.world w lag.lags counts in
            free lag.schedule lag.world lag.runs counted _ _ x
            (race_written law begins replies c d (λ q. ne (sym q)) lag.made lag.later lag.world w lag.lags
            (reached_world lag.schedule lag.world lag.runs) world k task state n at' program loaded done e rest answer new step' u legal
            (lag.fewer done (miss d ne)) (there lag.schedule lag.world lag.runs counted) x change lag.passes)),
      )

  -- a job that starts calls no store
  first_fits : (w : World) → w.programs ≡ first.programs → (k : ℕ) (program : Loaded) → slice_get w.programs k ≡ Some program → FirstFits program
  first_fits w same k program loaded = fits k program (ap (λ (ps : List Loaded). slice_get ps k) (sym same) ∙ loaded)

  judged_first : (lacks : ℕ → List Event) (s : Plain) → IsShape s.shape → (c : ℕ) (input : Input) (left : ℕ) (program : Loaded) → FirstFits
      program → JudgeStep lacks program c s (start c input) left
  judged_first lacks s shape c input left program fit n lefts events answer new step done e rest u is legal miss d ne =
      absurd (no_middle done e rest (sym is ∙ first_asks_nothing s.shape shape program fit c input new events answer step))

  -- ---- a CPU's own lags
  -- its job in hand is the one that each of them is about
  module _ (w : World) (world : IsWorld w) (c k : ℕ) (t : Task) (old : Cpu) (left : ℕ) (at : IsAt w.jobs c k t (InHand old left))
      (next : Plain) (new : Cpu) (rest : ℕ) where
    abbrev z : World
    z = new_world w next k t (InHand new rest) w.lists

    own_lag : (made later more : List Event) (l : World) → IsLagging c made later l w → IsBehind c (made ++ more) l.store next → IsLagging c made more l z
    own_lag made later more l lag behind =
        let now_task : Task = record lag.task { stage = InHand lag.now lag.rest } in
        let listed : slice_get w.jobs lag.job ≡ Some now_task = ap (λ (ts : List Task). slice_get ts lag.job) lag.jobs ∙ slice_get-set_known
        l.jobs lag.job now_task lag.task lag.at.listed in
        let there_at : IsAt w.jobs c lag.job now_task (InHand lag.now lag.rest) = record { listed = listed; of = lag.at.of; at = refl } in
        let one : lag.job ≡ k = world.one c lag.job k now_task t lag.now old lag.rest left there_at at in
        let at_k : IsAt w.jobs c k now_task (InHand lag.now lag.rest) = subst (λ (i : ℕ). IsAt w.jobs c i now_task (InHand lag.now lag.rest)) one there_at in
        let same : now_task ≡ t = (same_stage w.jobs c k now_task t (InHand lag.now lag.rest) (InHand old left) at_k at).0 in
        let stages : record t { stage = InHand new rest } ≡ record lag.task { stage = InHand new rest } = ap
        (λ (x : Task). record x { stage = InHand new rest }) (sym same) in
        record {
          programs = lag.programs;
          lists = lag.lists;
          job = lag.job;
          task = lag.task;
          state = lag.state;
          left = lag.left;
          now = new;
          rest = rest;
          at = lag.at;
          jobs =
              ap (λ (i : ℕ). slice_set w.jobs i (record t { stage = InHand new rest })) (sym one)
              ∙ ap (λ (x : Task). slice_set w.jobs lag.job x) stages
              ∙ ap (λ (ts : List Task). slice_set ts lag.job (record lag.task { stage = InHand new rest })) lag.jobs
              ∙ set_twice l.jobs lag.job now_task (record lag.task { stage = InHand new rest });
          program = lag.program;
          loaded = lag.loaded;
          answer = lag.answer;
          after = lag.after;
          step = lag.step;
          quiet = lag.quiet;
          store = lag.store;
          legal = lag.legal;
          behind = behind;
        }

    own_kept : ((lacking : List Event) (l : Plain) → IsBehind c lacking l w.store → IsBehind c lacking l next) → (es : List Event) → HasLags
        first c es w → HasLags first c es z
    own_kept stays [] lags = tt
    own_kept stays (e ∷ es) lags =
        let lag = lags.0 in (
          record {
            world = lag.world;
            schedule = lag.schedule;
            runs = lag.runs;
            made = lag.made;
            has = lag.has;
            lags = own_lag lag.made es es lag.world lag.lags (stays (lag.made ++ es) lag.world.store lag.lags.behind);
          },
          own_kept stays es lags.1,
        )

    -- some stores more
    module _ (schedule : List ℕ) (runs : RunsSchedule first schedule w) (program : Loaded)
        (loaded : slice_get w.programs t.program ≡ Some program) (made : List Event) (n : ℕ) (answer : Progress) (later : Cpu) (lefts : left ≡ suc n)
        (step : Step w.store.shape program old made answer later) (quiet : AreNot is_call made) (legal : PlainlyLegal w.store (map (entry c) made) next) where
      itself : IsBehind c [] w.store w.store
      itself = record { like = record { same = refl; spans = λ v. refl; fewer = λ d v h. h; others = λ d ne. refl }; bytes = λ v i clean. refl }

      before : IsBehind c (stores_of made) w.store next
      before = own_made_behind c made [] w.store w.store next quiet world.store itself legal

      -- each of them has this world, which lacks the whole step
      new_lags : (todo : List Event) → ((x : ℕ) → changes_any todo x ≡ true → changes_any made x ≡ true) → HasLags first c (stores_of todo) z
      new_lags [] all = tt
      new_lags (Store a size y ∷ es) all = (
        record {
          world = w;
          schedule = schedule;
          runs = runs;
          made = made;
          has = λ x h. all x (or_left (changes (Store a size y) x) (changes_any es x) h);
          lags = record {
            programs = refl;
            lists = refl;
            job = k;
            task = t;
            state = old;
            left = n;
            now = new;
            rest = rest;
            at = subst (λ (i : ℕ). IsAt w.jobs c k t (InHand old i)) lefts at;
            jobs = refl;
            program = program;
            loaded = loaded;
            answer = answer;
            after = later;
            step = step;
            quiet = quiet;
            store = next;
            legal = legal;
            behind = more_behind c (stores_of made) (made ++ stores_of es) w.store next
                (λ x h. any_left changes made (stores_of es) x (stores_change made x h)) before;
          };
        },
        new_lags es (λ x h. all x (or_right (changes (Store a size y) x) (changes_any es x) h)),
      )
      new_lags (e ∷ es) all = new_lags es (λ x h. all x (or_right (changes e x) (changes_any es x) h))

      own_more : (es : List Event) → HasLags first c es w → HasLags first c (es ++ stores_of made) z
      own_more [] lags = new_lags made (λ x h. h)
      own_more (e ∷ es) lags =
          let lag = lags.0 in
          let longer : IsBehind c ((lag.made ++ es) ++ stores_of made) lag.world.store next = own_made_behind c made (lag.made ++ es)
          lag.world.store w.store next quiet world.store lag.lags.behind legal in (
            record {
              world = lag.world;
              schedule = lag.schedule;
              runs = lag.runs;
              made = lag.made;
              has = lag.has;
              lags = own_lag lag.made es (es ++ stores_of made) lag.world lag.lags
                  (subst (λ (fs : List Event). IsBehind c fs lag.world.store next) (append_assoc lag.made es (stores_of made)) longer);
            },
            own_more es lags.1,
          )

  -- ---- a turn
  turned : (w : World) (p : Plain) (buffers : ℕ → List Event) (c : ℕ) (answer : Turn) (z : X86) → Counts patient w.jobs → IsSimulated first
      (over w p buffers) w → TakesTurn (over w p buffers) c answer z → (next : World) × IsSimulated first z next
  turned w p buffers c answer z counts sim (inl (k, t, old, left, at, goes)) =
      let world = reached_world sim.schedule w sim.runs in
      let b : Buffered = record { memory = p; buffers = buffers } in
      let lacks : ℕ → List Event = λ d. all_made first d (buffers d) w (sim.lags d) in
      let g = goes_on lacks w b w.store c k t old left answer z sim.ahead (λ d x h. waits_made first d (buffers d) w (sim.lags d) x h)
      (judged w buffers sim.lags c k t old left at world counts) goes in
      let taken : plain.TakesTurn w c answer g.next = inl (k, t, old, left, at, g.goes) in (
        g.next,
        record {
          schedule = sim.schedule ++ c ∷ [];
          runs = runs-last sim.schedule c first w g.next answer sim.runs taken;
          world = g.world;
          ahead = g.ahead;
          lags = λ d. elim (equal_or_not d c) [
            | inl same ↦ subst (λ (i : ℕ). HasLags first i (z.buffers i) g.next) (sym same) (own world g.next g.goes.0 g.goes.5 g.own)
            | inr ne ↦ subst (λ (es : List Event). HasLags first d es g.next) (sym (g.others d ne))
                (lags_follow d c (λ q. ne (sym q)) (buffers d) w g.next answer taken world (sim.lags d) (g.misses d ne))
          ];
        },
      )
    where
      own : IsWorld w → (next : World) (program : Loaded) → slice_get w.programs t.program ≡ Some program → OwnTurn w program buffers
          z.buffers w.store c k t old left next → HasLags first c (z.buffers c) next
      own world next program loaded (NothingWaits none) = subst (λ (es : List Event). HasLags first c es next) (sym none) tt
      own world next program loaded (AsBefore same q new rest is stays) =
          subst (λ (es : List Event). HasLags first c es next) (sym same)
          (subst (HasLags first c (buffers c)) (sym is) (own_kept w world c k t old left at q new rest stays (buffers c) (sim.lags c)))
      own world next program loaded (SomeMore made n said later lefts step quiet more q new rest is legal) =
          subst (λ (es : List Event). HasLags first c es next) (sym more) (subst (HasLags first c (buffers c ++ stores_of made)) (sym is)
          (own_more w world c k t old left at q new rest sim.schedule sim.runs program loaded made n said later lefts step quiet legal
          (buffers c) (sim.lags c)))
  turned w p buffers c answer z counts sim (inr (inl (idle, (k, t, input, b, at, below, begun, goes)))) =
      let world = reached_world sim.schedule w sim.runs in
      let before : Buffered = record { memory = p; buffers = buffers } in
      let r = call_ahead before b w.store c Begin sim.ahead (λ d x ne hit too. cc) begun in
      let none : b.buffers c ≡ [] = ap (λ (y : Buffered). y.buffers c) begun.2.2 ∙ ap (λ (y : Buffered). y.buffers c) begun.1.2 ∙ put-same
      buffers c c [] refl in
      let lacks : ℕ → List Event = λ d. all_made first d (buffers d) w (sim.lags d) in
      let shape : IsShape r.next.shape = r.ahead.sound_too.fixed.shape in
      let same_programs : w.programs ≡ first.programs = runs_programs sim.schedule first w sim.runs in
      let cover : (d x : ℕ) → hits_any (b.buffers d) x ≡ true → changes_any (lacks d) x ≡ true = λ d x h.
      waits_made first d (buffers d) w (sim.lags d) x (elim (equal_or_not d c) [
        | inl same ↦ absurd (let no : false ≡ true = sym (ap (λ (es : List Event). hits_any es x) (ap b.buffers same ∙ none)) ∙ h in cc)
        | inr ne ↦ sym (ap (λ (es : List Event). hits_any es x) (r.others d ne)) ∙ h
      ]) in
      let g = goes_on lacks w b r.next c k t (start c input) t.budget answer z r.ahead cover
      (λ program loaded. judged_first lacks r.next shape c input t.budget program
      (first_fits w same_programs t.program program loaded)) goes in
      let taken : plain.TakesTurn w c answer g.next = inr (inl (idle, (k, t, input, r.next, at, below, r.allowed, g.goes))) in (
        g.next,
        record {
          schedule = sim.schedule ++ c ∷ [];
          runs = runs-last sim.schedule c first w g.next answer sim.runs taken;
          world = g.world;
          ahead = g.ahead;
          lags = λ d. elim (equal_or_not d c) [
            | inl same ↦ subst (λ (i : ℕ). HasLags first i (z.buffers i) g.next) (sym same)
                (subst (λ (es : List Event). HasLags first c es g.next) (sym
                (own b r.next shape none g.next g.goes.0 (first_fits w same_programs t.program g.goes.0 g.goes.5) g.own)) tt)
            | inr ne ↦ subst (λ (es : List Event). HasLags first d es g.next) (sym (g.others d ne ∙ r.others d ne))
                (lags_follow d c (λ q. ne (sym q)) (buffers d) w g.next answer taken world (sim.lags d) (g.misses d ne))
          ];
        },
      )
    where
      own : (b : Buffered) (s : Plain) → IsShape s.shape → b.buffers c ≡ [] → (next : World) (program : Loaded) → FirstFits program →
          OwnTurn w program b.buffers z.buffers s c k t (start c input) t.budget next → z.buffers c ≡ []
      own b s shape none next program fit (NothingWaits empty) = empty
      own b s shape none next program fit (AsBefore same q new rest is stays) = same ∙ none
      own b s shape none next program fit (SomeMore made n said later lefts step quiet more q new rest is legal) =
          let nothing : made ≡ [] = first_asks_nothing s.shape shape program fit c input later made said step in
          more ∙ ap (λ (es : List Event). b.buffers c ++ stores_of es) nothing ∙ append-nil (b.buffers c) ∙ none
  turned w p buffers c answer z counts sim (inr (inr (idle, none, said, same))) = (w, subst (λ (x : X86). IsSimulated first x w) (sym same) sim)

  -- ---- a move
  flushed : (w : World) (p : Plain) (buffers : ℕ → List Event) (c : ℕ) (b : Buffered) → IsSimulated first (over w p buffers) w → Flushes
      (record { memory = p; buffers = buffers }) c b → IsSimulated first (over w b.memory b.buffers) w
  flushed w p buffers c b sim f = record {
    schedule = sim.schedule;
    runs = sim.runs;
    world = refl;
    ahead = flushes_ahead (record { memory = p; buffers = buffers }) b w.store c sim.ahead f;
    lags = λ d. elim (equal_or_not d c) [
      | inl same ↦ subst (λ (i : ℕ). HasLags first i (b.buffers i) w) (sym same)
          (subst (λ (es : List Event). HasLags first c es w) (sym (ap (λ (y : Buffered). y.buffers c) f.5 ∙ put-same buffers c c f.1 refl))
          (subst (λ (es : List Event). HasLags first c es w) f.3 (sim.lags c)).1)
      | inr ne ↦ subst (λ (es : List Event). HasLags first d es w) (sym (ap (λ (y : Buffered). y.buffers d) f.5 ∙ put-other buffers c d f.1 ne)) (sim.lags d)
    ];
  }

  moved : (x : X86) (w : World) (move : Move) (z : X86) → Counts patient x.world.jobs → IsSimulated first x w → Moves x move z →
      (next : World) × IsSimulated first z next
  moved x w move z counts sim moves = at_once move (subst (λ (v : World). IsSimulated first (record { world = v; buffers = x.buffers }) w)
      sim.world sim) (subst (λ (v : World). Moves (record { world = v; buffers = x.buffers }) move z) sim.world moves)
    where
      world : x.world ≡ record w { store = x.world.store }
      world = sim.world

      at_once : (move : Move) → IsSimulated first (over w x.world.store x.buffers) w → Moves (over w x.world.store x.buffers) move z →
          (next : World) × IsSimulated first z next
      at_once (TurnOf c) sim moves = turned w x.world.store x.buffers c moves.0 z (subst (Counts patient) (ap (λ (v : World). v.jobs) world) counts) sim moves.1
      at_once (FlushOf c) sim moves = (w, subst (λ (y : X86). IsSimulated first y w) (sym moves.2) (flushed w x.world.store x.buffers c moves.0 sim moves.1))

  all_moved : (moves : List Move) (x : X86) (w : World) (z : X86) → Counts patient z.world.jobs → IsSimulated first x w → RunsMoves x moves
      z → (next : World) × IsSimulated first z next
  all_moved [] x w z counts sim runs = (w, subst (λ (y : X86). IsSimulated first y w) (sym runs) sim)
  all_moved (move ∷ moves) x w z counts sim runs =
      let r = moved x w move runs.0 (counted_before patient (move ∷ moves) x z runs counts) sim runs.1 in
      all_moved moves runs.0 r.0 z counts r.1 runs.2

  -- ---- at first
  begins_ahead : IsAhead (buffered (drained first)) first.store
  begins_ahead = record {
    like = record { same = refl; spans = λ v. refl; fewer = λ c v h. h; others = λ c ne. refl };
    sound = fresh.store;
    sound_too = fresh.store;
    unmade = λ v most. refl;
    waiting = λ c. tt;
    apart = λ c d x ne h g. let no : false ≡ true = h in cc;
    seen = λ c v i inside clean h. refl;
    unseen = λ c v i inside clean h. refl;
  }

  begins_simulated : IsSimulated first (drained first) first
  begins_simulated = record { schedule = []; runs = refl; world = refl; ahead = begins_ahead; lags = λ d. tt }

  -- ---- at last
  no_lags : (d : ℕ) (es : List Event) (w : World) → HaveEnded w.jobs → HasLags first d es w → es ≡ []
  no_lags d [] w ended lags = refl
  no_lags d (e ∷ es) w ended lags =
      let lag = lags.0.lags in
      let now_task : Task = record lag.task { stage = InHand lag.now lag.rest } in
      let listed : slice_get w.jobs lag.job ≡ Some now_task = ap (λ (ts : List Task). slice_get ts lag.job) lag.jobs ∙ slice_get-set_known
      lags.0.world.jobs lag.job now_task lag.task lag.at.listed in
      let end = ended lag.job now_task listed in
      let no : InHand lag.now lag.rest ≡ Ended end.0 = end.1 in
      absurd cc

same_sized : (xs ys : List ℕ) (n : ℕ) → length xs ≡ n → length ys ≡ n → ((i : ℕ) → i < n → slice_get xs i ≡ slice_get ys i) → xs ≡ ys
same_sized xs ys n size sized same = same_list xs ys (λ i. elim (cases_lt i n) [
  | inl less ↦ same i less
  | inr past ↦ none_past xs i (omega arith) ∙ sym (none_past ys i (omega arith))
])
  where
    none_past : (zs : List ℕ) (i : ℕ) → length zs ≤ i → slice_get zs i ≡ None
    none_past [] i h = refl
    none_past (z ∷ zs) zero h = absurd (omega arith)
    none_past (z ∷ zs) (suc i) h = none_past zs i (omega arith)

-- where nothing waits, the two stores are one
pub nothing_waits : (b : Buffered) (s : Plain) → IsAhead b s → ((c : ℕ) → b.buffers c ≡ []) → s ≡ b.memory
nothing_waits b s ahead none =
    ahead.like.same ∙ ap (λ (g : ℕ → Value). record b.memory { value = g; held = s.held }) values ∙ ap (λ (k : ℕ → ℕ → Bool). record b.memory { held = k }) held
  where
    held : s.held ≡ b.memory.held
    held = same_functions s.held b.memory.held (λ c. ahead.like.others c (λ no. no))

    clean : (v i : ℕ) → IsClean b.buffers s 0 v i
    clean v i d ne h = ap (λ (es : List Event). hits_any es (address s v i)) (none d)

    byte : (v i : ℕ) → i < (s.value v).span.size → at s v i ≡ at b.memory v i
    byte v i inside = elim (true_or_false (reached s 0 v)) [
      | inl h ↦ ahead.seen 0 v i inside (clean v i) h ∙ ap (λ (es : List Event). overlaid es (address s v i) (at b.memory v i)) (none 0)
      | inr h ↦ ahead.unseen 0 v i inside (clean v i) h
    ]

    one : (v : ℕ) → s.value v ≡ b.memory.value v
    one v = elim (cases_lt v s.made) [
      | inl less ↦
          let made : s.made ≡ b.memory.made = ap (λ (z : Plain). z.made) ahead.like.same in
          let spans : (s.value v).span ≡ (b.memory.value v).span = ahead.like.spans v in
          let size : length (s.value v).bytes ≡ (s.value v).span.size = ahead.sound_too.sizes v less in
          let sized : length (b.memory.value v).bytes ≡ (s.value v).span.size = ahead.sound.sizes v (omega arith) ∙ sym (ap (λ (q : Span). q.size) spans) in
          let bytes : (s.value v).bytes ≡ (b.memory.value v).bytes = same_sized (s.value v).bytes (b.memory.value v).bytes
          (s.value v).span.size size sized (byte v) in
          ap (λ (bs : List ℕ). record { bytes = bs; span = (s.value v).span }) bytes ∙ ap
          (λ (q : Span). record { bytes = (b.memory.value v).bytes; span = q }) spans
      | inr most ↦ ahead.unmade v most
    ]

    values : s.value ≡ b.memory.value
    values = same_functions s.value b.memory.value one

pub race_free_is_same : WritesAreDetermined → OneInstructionBegins → CallsHaveOneReply → RaceFreeIsSame
race_free_is_same law begins replies patient w fits fresh there free moves z runs ended counts =
    let r = all_moved law begins replies patient w fits fresh there free moves (drained w) w z counts
    (begins_simulated law begins replies patient w fits fresh there free) runs in
    let sim = r.1 in
    let jobs : z.world.jobs ≡ r.0.jobs = ap (λ (x : World). x.jobs) sim.world in
    let over_it : HaveEnded r.0.jobs = subst HaveEnded jobs ended in
    let none : (c : ℕ) → z.buffers c ≡ [] = λ c. no_lags law begins replies patient w fits fresh there free c (z.buffers c) r.0 over_it (sim.lags c) in
    let stores : r.0.store ≡ z.world.store = nothing_waits (buffered z) r.0.store sim.ahead none in
    let same : r.0 ≡ z.world = ap (λ (q : Plain). record r.0 { store = q }) stores ∙ sym sim.world in
    (sim.schedule, subst (RunsSchedule w sim.schedule) same sim.runs)
