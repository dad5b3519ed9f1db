-- What a session's commands do, from what its functions ensure.
use Rattle.std.proofs.Common.{◌≡◌, ℕ, ◌+◌, ◌-◌, ◌*◌, ◌<◌, ◌≤◌, drop, get_or, Bool, true, false, List, [], ◌∷◌, ◌++◌, length, inl, inr, refl}
use Rattle.std.proofs.Common.{sym, ap, subst, ◌∙◌, arith, Option, Some, None, if◌then◌else◌, replicate}
use Rattle.std.proofs.lemmas.Bool.{ltb-true}
use Rattle.std.proofs.lemmas.List.{get_or-drop, length-drop, take-append-drop}
use Rattle.std.proofs.lemmas.List.Sums.{sum_by-le}
use Rattle.std.proofs.Math.Nat.{mul-le-mul_left}
use Rattle.std.specs.Prelude.{codes}
use Rattle.bpf_schedule.specs.Spelling.{runs_text}
use Rattle.bpf_loader.specs.Loaded.{Loaded}
use Rattle.bpf_shared.specs.Shape.{Shape}
use Rattle.bpf_shared.specs.Store.{Plain}
use Rattle.bpf_shared.specs.Sound.{IsSoundStore}
use Rattle.bpf_names.specs.Names.{Names, Variable, variable_named}
use Rattle.bpf_plain.specs.PlainStore.{StandsFor, has_cpu, shape_of}
use Rattle.bpf_jobs.specs.Printed.{variable_lines}
use Rattle.bpf_machine.specs.declared.machine.Turn.{Turn}
use Rattle.bpf_cpu.specs.Task.{Stage, Task, Waiting, InHand, Ended}
use Rattle.bpf_machine.specs.Schedule.{World, TakesTurn, RunsSchedule, unrolled}
use Rattle.bpf_machine.specs.Machine.{MachineState, Shows}
use Rattle.bpf_machine.specs.Parts.{CanStand, IsSameHost}
use Rattle.bpf_machine.specs.Questions.{open_in, open_jobs}
use Rattle.bpf_machine.specs.Hands.{IsAt}
use Rattle.bpf_machine.specs.Work.{IsState}
use Rattle.bpf_cpu.specs.declared.cpu.Cpu.{Cpu}
use Rattle.bpf_debug.specs.declared.breakpoint.Breakpoint.{Breakpoint}
use Rattle.bpf_debug.specs.Command.{Order, Break, Delete, Step, StepTimes, Steps, Go, Registers, Where, Memory, Map, Keys, Schedule, GoTo}
use Rattle.bpf_debug.specs.Command.{Maps, Variables, Number, Jobs, Mark, Back, Help, Held, Nearby, Last, Show, Watch, WatchVariable}
use Rattle.bpf_debug.specs.Command.{Unwatch, order_of}
use Rattle.bpf_debug.specs.declared.error.DebugError.{DebugError}
use Rattle.bpf_debug.specs.declared.error.DebugError.TheVariants as error
use Rattle.bpf_debug.specs.Answer.{IsWhere, IsRegisters, IsOff, ended_text, break_line, deleted_line, variable_watch_line, watch_line, unwatched_line}
use Rattle.bpf_debug.specs.Held.{IsHeldText, ShowsHeld, TellsHeld}
use Rattle.bpf_debug.specs.Nearby.{IsNearbyText}
use Rattle.bpf_debug.specs.Recall.{Past, Recalls, IsLastText, IsRecall}
use Rattle.bpf_debug.specs.declared.recall.Kind.TheVariants as kind
use Rattle.bpf_debug.specs.declared.recall.Recall.{Recall}
use Rattle.bpf_debug.specs.Show.{AreShownLines, IsBefore, IsShownText, changed_text}
use Rattle.bpf_debug.specs.Private.Naming.{ShowsLines}
use Rattle.bpf_debug.proofs.RecallLaws.{recalls_run}
use Rattle.bpf_debug.specs.Read.{IsMemoryText, IsNamed, IsTableText, TellsBytes, TellsNumber, TellsTable, TellsTableKeys}
use Rattle.bpf_debug.specs.Go.{Goes, has_break, without_break}
use Rattle.bpf_debug.specs.Watch.{Watched, chosen_in, variable_watched}
use Rattle.bpf_debug.specs.Told.{store_lines, told_jobs, mark_line}
use Rattle.bpf_debug.specs.Course.{AreFewer, IsKept, KeepsOn, TakesBack, count_of, cpu_before, runs_of, turns_before}
use Rattle.bpf_debug.specs.Origin.{OriginState, CanRewind, first_of}
use Rattle.bpf_debug.specs.Help.{help_text}
use Rattle.bpf_debug.specs.Session.{SessionState, Scene, IsShown, IsCourse, IsPc, are_cpus, behind, undone, with_break, CarriesOut, Obeys}
use Rattle.bpf_debug.specs.Session.{Leaves, LeavesLine, HasBadOperand, RefusesOrder, RefusesHere, RefusesLine}
use Rattle.bpf_debug.specs.Turns.{MakesTurns, MakesRuns, last_cpu}
use Rattle.bpf_debug.proofs.CourseLaws.{runs_tell_turns}
use Rattle.bpf_debug.proofs.GoLaws.{goes_runs}
use Rattle.bpf_debug.proofs.ManyTurns.{all_runs, both_run, made_runs}

-- ---- room

open_small : (s : Stage) → open_in s ≤ 1
open_small (Waiting input) = omega arith
open_small (InHand state left) = omega arith
open_small (Ended outcome) = omega arith

-- a line for each job is enough
pub enough : (jobs : List Task) (count room : ℕ) → count ≡ length jobs → 128 * count + 1024 ≤ room → 0 + 128 * open_jobs jobs + 128 ≤ room
enough jobs count room counted fits =
    let few : open_jobs jobs ≤ length jobs * 1 = sum_by-le (λ t. open_in t.stage) 1 jobs (λ k d inside. open_small _) in
    let less : open_jobs jobs ≤ count = omega arith in
    let scaled : 128 * open_jobs jobs ≤ 128 * count = mul-le-mul_left 128 less in
    omega arith

-- ---- a CPU that the store has
pub is_cpu : (m : MachineState) (w : World) (c : ℕ) → has_cpu m.store c ≡ true → Shows m w → c < w.store.shape.cpus
is_cpu m w c has shows = let below : c < length m.store.maps.runs = ltb-true c (length m.store.maps.runs) has in omega (arith, shows.store.maps.cpus)

-- ---- a machine that can be made what it was
pub can_still : (o : OriginState) (m n : MachineState) → IsSameHost m n → CanRewind o m → CanRewind o n
can_still o m n same can = record {
  lists = same.lists can.lists;
  shape = (λ c. same.shape.0 c ∙ can.shape.0 c, same.shape.1 ∙ can.shape.1);
  within = can.within;
  stands = subst (λ (ps : List Loaded). CanStand (first_of o ps)) (sym same.programs) can.stands;
  shown = (can.shown.0, subst (λ (ps : List Loaded). Shows (first_of o ps) can.shown.0) (sym same.programs) can.shown.1);
}

-- the machine that was made again
pub can_rewound : (o : OriginState) (m n : MachineState) → n ≡ first_of o m.programs → CanRewind o m → CanRewind o n
can_rewound o m n is can =
    let first : CanRewind o (first_of o m.programs) = record {
      lists = refl;
      shape = (λ c. refl, refl);
      within = can.within;
      stands =
          can.stands;
      shown = can.shown;
    } in
    subst (CanRewind o) (sym is) first

-- ---- text after an empty one
pub alone : (room last text : List ℕ) → room ≡ [] → last ≡ room ++ text → last ≡ text
alone room last text empty e = e ∙ ap (λ (s : List ℕ). s ++ text) empty

module _ (m : MachineState) (o : OriginState) (names : Names) (breaks : List Breakpoint) (watch : Option Watched) (kept : Option (List (ℕ × ℕ))) where
  -- a session of these, and what it is with another machine and turns more
  abbrev session : SessionState
  session = record { machine = m; first = first_of o m.programs; names = names; breaks = breaks; watch = watch; course = kept }

  abbrev moved_on : MachineState → Option (List (ℕ × ℕ)) → SessionState
  moved_on n more = record { machine = n; first = first_of o n.programs; names = names; breaks = breaks; watch = watch; course = more }

  still_first : (n : MachineState) (w : World) → IsSameHost m n → Shows (first_of o m.programs) w → Shows (first_of o n.programs) w
  still_first n w same shows = subst (λ (ps : List Loaded). Shows (first_of o ps) w) (sym same.programs) shows

  pub stepped : (n : MachineState) (more : Option (List (ℕ × ℕ))) (c : ℕ) (answer : Turn) (room place last : List ℕ) → has_cpu m.store c ≡ true → room ≡ []
      → ((w : World) → Shows m w → (z : World) × TakesTurn w c answer z × Shows n z)
      → IsWhere n.jobs c place → last ≡ (room ++ ended_text c answer) ++ place → KeepsOn kept (c ∷ []) more
      → IsSameHost m n → Leaves session (Step (Some c)) last (moved_on n more)
  stepped n more c answer room place last has empty turns stands put keeps same x shown =
      let t = turns x.world shown.world in
      let J : List Task → Type 0 = λ jobs. IsWhere jobs c place in
      let whole : last ≡ ended_text c answer ++ place = put ∙ ap (λ (s : List ℕ). (s ++ ended_text c answer) ++ place) empty in (
        behind x (c ∷ []) t.0,
        (is_cpu m x.world c has shown.world, (answer, t.0, place, t.1, subst J (sym t.2.jobs) stands, whole, refl)),
        record {
          world = t.2;
          first = still_first n x.first same shown.first;
          names = shown.names;
          breaks = shown.breaks;
          watch =
              shown.watch;
          turns = keeps x.turns shown.turns;
        },
      )

  pub stepped_times : (n : MachineState) (more : Option (List (ℕ × ℕ))) (c count : ℕ) (room place last : List ℕ) → has_cpu m.store c ≡ true
      → room ≡ [] → IsWhere n.jobs c place
      → ((w : World) → Shows m w → (z : World) × (before : List ℕ) × MakesTurns w c count before z × Shows n z × (last ≡ (room ++ before) ++ place))
      → KeepsOn kept (replicate count c) more → IsSameHost m n → Leaves session (StepTimes (Some c) count) last (moved_on n more)
  stepped_times n more c count room place last has empty stands turns keeps same x shown =
      let t = turns x.world shown.world in
      let J : List Task → Type 0 = λ jobs. IsWhere jobs c place in
      let whole : last ≡ t.1 ++ place = t.4 ∙ ap (λ (s : List ℕ). (s ++ t.1) ++ place) empty in (
        behind x (replicate count c) t.0,
        (is_cpu m x.world c has shown.world, (t.0, t.1, place, t.2, subst J (sym t.3.jobs) stands, whole, refl)),
        record {
          world = t.3;
          first = still_first n x.first same shown.first;
          names = shown.names;
          breaks = shown.breaks;
          watch =
              shown.watch;
          turns = keeps x.turns shown.turns;
        },
      )

  pub stepped_runs : (n : MachineState) (more : Option (List (ℕ × ℕ))) (runs : List (ℕ × ℕ)) (room place last : List ℕ) → are_cpus
      (length m.store.maps.runs) runs ≡ true → room ≡ [] → IsWhere n.jobs (last_cpu runs) place
      → ((w : World) → Shows m w → (z : World) × (before : List ℕ) × MakesRuns w runs before z × Shows n z × (last ≡ (room ++ before) ++ place))
      → KeepsOn kept (unrolled runs) more → IsSameHost m n → Leaves session (Steps runs) last (moved_on n more)
  stepped_runs n more runs room place last has empty stands turns keeps same x shown =
      let t = turns x.world shown.world in
      let J : List Task → Type 0 = λ jobs. IsWhere jobs (last_cpu runs) place in
      let H : ℕ → Type 0 = λ cpus. are_cpus cpus runs ≡ true in
      let whole : last ≡ t.1 ++ place = t.4 ∙ ap (λ (s : List ℕ). (s ++ t.1) ++ place) empty in (
        behind x (unrolled runs) t.0,
        (subst H (sym shown.world.store.maps.cpus) has, (t.0, t.1, place, t.2, subst J (sym t.3.jobs) stands, whole, refl)),
        record {
          world = t.3;
          first = still_first n x.first same shown.first;
          names = shown.names;
          breaks = shown.breaks;
          watch =
              shown.watch;
          turns = keeps x.turns shown.turns;
        },
      )

  pub went : (n : MachineState) (more : Option (List (ℕ × ℕ))) (cpus : ℕ) (room last : List ℕ) → room ≡ [] → cpus ≡ length m.store.maps.runs
      → ((w : World) → Shows m w → (z : World) × (turns : List ℕ) × (text : List ℕ) × Goes breaks watch 0 cpus w 0 [] turns text z × Shows n
      z × KeepsOn kept turns more × (last ≡ room ++ text))
      → IsSameHost m n → Leaves session Go last (moved_on n more)
  went n more cpus room last empty count goes same x shown =
      let g = goes x.world shown.world in
      let W : Option Watched → Type 0 = λ v. Goes x.breaks v 0 x.world.store.shape.cpus x.world 0 [] g.1 last g.0 in
      let B : List Breakpoint → Type 0 = λ bs. Goes bs watch 0 x.world.store.shape.cpus x.world 0 [] g.1 last g.0 in
      let C : ℕ → Type 0 = λ h. Goes breaks watch 0 h x.world 0 [] g.1 last g.0 in
      let T : List ℕ → Type 0 = λ text. Goes breaks watch 0 cpus x.world 0 [] g.1 text g.0 in
      let all = subst W (sym shown.watch) (subst B (sym shown.breaks)
      (subst C (count ∙ sym shown.world.store.maps.cpus) (subst T (sym (alone room last g.2 empty g.6)) g.3))) in (
        behind x g.1 g.0,
        (g.0, g.1, all, refl),
        record {
          world = g.4;
          first = still_first n x.first same shown.first;
          names = shown.names;
          breaks = shown.breaks;
          watch = shown.watch;
          turns = g.5 x.turns shown.turns;
        },
      )

  pub went_to : (n : MachineState) (more : Option (List (ℕ × ℕ))) (c p : ℕ) (room last : List ℕ) → room ≡ [] → has_cpu m.store c ≡ true → IsPc m.programs p
      → ((w : World) → Shows m w → (z : World) × (turns : List ℕ) × (text : List ℕ) × Goes (record { cpu = c; pc = p } ∷ []) watch c (c + 1)
      w c [] turns text z × Shows n z × KeepsOn kept turns more × (last ≡ room ++ text))
      → IsSameHost m n → Leaves session (GoTo (Some c) (Some p)) last (moved_on n more)
  went_to n more c p room last empty has begins goes same x shown =
      let g = goes x.world shown.world in
      let W : Option Watched → Type 0 = λ v. Goes (record { cpu = c; pc = p } ∷ []) v c (c + 1) x.world c [] g.1 last g.0 in
      let T : List ℕ → Type 0 = λ text. Goes (record { cpu = c; pc = p } ∷ []) watch c (c + 1) x.world c [] g.1 text g.0 in
      let P : List Loaded → Type 0 = λ ps. IsPc ps p in
      let all = subst W (sym shown.watch) (subst T (sym (alone room last g.2 empty g.6)) g.3) in (
        behind x g.1 g.0,
        (is_cpu m x.world c has shown.world, (subst P (sym shown.world.programs) begins, (g.0, g.1, all, refl))),
        record {
          world = g.4;
          first = still_first n x.first same shown.first;
          names = shown.names;
          breaks = shown.breaks;
          watch =
              shown.watch;
          turns = g.5 x.turns shown.turns;
        },
      )

  pub broken : (c p : ℕ) (more : List Breakpoint) (room last : List ℕ) → has_cpu m.store c ≡ true → IsPc m.programs p
      → more ≡ with_break breaks c p → room ≡ [] → last ≡ room ++ break_line c p
      → Leaves session (Break (Some c) (Some p)) last (record {
        machine = m;
        first = first_of o m.programs;
        names = names;
        breaks = more;
        watch = watch;
        course = kept;
      })
  broken c p more room last has begins same empty put x shown =
      let y : Scene = record x { breaks = with_break x.breaks c p } in
      let P : List Loaded → Type 0 = λ ps. IsPc ps p in (
        y,
        (is_cpu m x.world c has shown.world, (subst P (sym shown.world.programs) begins, alone room last (break_line c p) empty put, refl)),
        record {
          world = shown.world;
          first = shown.first;
          names = shown.names;
          breaks = ap (λ (bs : List Breakpoint). with_break bs c p)
              shown.breaks ∙ sym same;
          watch = shown.watch;
          turns = shown.turns;
        },
      )

  pub unbroken : (c p : ℕ) (fewer : List Breakpoint) (room last : List ℕ) → has_cpu m.store c ≡ true → IsPc m.programs p
      → fewer ≡ without_break breaks c p → room ≡ [] → last ≡ room ++ deleted_line c p
      → Leaves session (Delete (Some c) (Some p)) last (record {
        machine = m;
        first = first_of o m.programs;
        names = names;
        breaks = fewer;
        watch = watch;
        course = kept;
      })
  unbroken c p fewer room last has begins same empty put x shown =
      let y : Scene = record x { breaks = without_break x.breaks c p } in
      let P : List Loaded → Type 0 = λ ps. IsPc ps p in (
        y,
        (is_cpu m x.world c has shown.world, (subst P (sym shown.world.programs) begins, alone room last (deleted_line c p) empty put, refl)),
        record {
          world = shown.world;
          first = shown.first;
          names = shown.names;
          breaks = ap (λ (bs : List Breakpoint). without_break bs c p)
              shown.breaks ∙ sym same;
          watch = shown.watch;
          turns = shown.turns;
        },
      )

  pub went_back : (rewound n : MachineState) (runs fewer : List (ℕ × ℕ)) (count c : ℕ) (room last : List ℕ) → kept ≡ Some runs → count ≤
      length (unrolled runs) → rewound ≡ first_of o m.programs → TakesBack runs count fewer c
      → ((w : World) → Shows rewound w → (z : World) × RunsSchedule w (unrolled fewer) z × Shows n z) → IsSameHost rewound n
      → room ≡ [] → ((text : List ℕ) × IsWhere n.jobs c text × (last ≡ room ++ text)) → Leaves session (Back count) last (moved_on n (Some fewer))
  went_back rewound n runs fewer count c room last is enough again takes turns same empty stands x shown =
      let told : runs ≡ runs_of x.turns = subst (λ (h : Option (List (ℕ × ℕ))). IsKept h x.turns) is shown.turns in
      let sized : length (unrolled runs) ≡ length x.turns = ap (λ (rs : List (ℕ × ℕ)). length (unrolled rs)) told ∙ ap
      (λ (cs : List ℕ). length cs) (runs_tell_turns x.turns).0 in
      let before : List ℕ = turns_before x.turns count in
      let more : List ℕ = drop (length x.turns - count) x.turns in
      let cut : before ++ more ≡ x.turns = take-append-drop (length x.turns - count) x.turns in
      let size : length more ≡ length x.turns - (length x.turns - count) = length-drop (length x.turns - count) x.turns in
      let t = takes before more (omega (arith, size, sized, enough)) (told ∙ ap (λ (cs : List ℕ). runs_of cs) (sym cut)) in
      let z = turns x.first (subst (λ (r : MachineState). Shows r x.first) (sym again) shown.first) in
      let led : unrolled fewer ≡ before = ap (λ (rs : List (ℕ × ℕ)). unrolled rs) t.0 ∙ (runs_tell_turns before).0 in
      let past : length x.turns - count + 0 ≡ length x.turns - count = omega arith in
      let whose : c ≡ cpu_before x.turns count = t.1 ∙ get_or-drop (length x.turns - count) x.turns 0 0 ∙ ap (λ (i : ℕ). get_or x.turns i 0) past in
      let told_place : last ≡ stands.0 = alone room last stands.0 empty stands.2 in
      let W : ℕ → List Task → List ℕ → Type 0 = λ d jobs text. IsWhere jobs d text in
      let place : IsWhere z.0.jobs (cpu_before x.turns count) last =
      subst (λ (d : ℕ). W d z.0.jobs last) whose (subst (λ (jobs : List Task). W c jobs last) (sym z.2.jobs)
      (subst (λ (text : List ℕ). W c n.jobs text) (sym told_place) stands.1)) in
      let programs : n.programs ≡ m.programs = same.programs ∙ ap (λ (r : MachineState). r.programs) again in (
        undone x count z.0,
        (omega (arith, sized, enough), (z.0, subst (λ (cs : List ℕ). RunsSchedule x.first cs z.0) led z.1, place, refl)),
        record {
          world = z.2;
          first = subst (λ (ps : List Loaded). Shows (first_of o ps) x.first) (sym programs) shown.first;
          names = shown.names;
          breaks = shown.breaks;
          watch = shown.watch;
          turns = t.0;
        },
      )

  pub told_last : (rewound n : MachineState) (runs : List (ℕ × ℕ)) (c : ℕ) (recall : Option Recall) (room last : List ℕ) → has_cpu m.store c
      ≡ true → kept ≡ Some runs → rewound ≡ first_of o m.programs
      → ((w : World) → Shows rewound w → (z : World) × (past : Option Past) × Recalls kind.Ends c w None (unrolled runs) past z × Shows n z
      × IsRecall c recall past) → IsSameHost rewound n
      → room ≡ [] → ((past : Option Past) → IsRecall c recall past → (text : List ℕ) × IsLastText c past n.jobs text ×
      (last ≡ room ++ text)) → Leaves session (Last (Some c)) last (moved_on n kept)
  told_last rewound n runs c recall room last has is again turns same empty put x shown =
      let told : runs ≡ runs_of x.turns = subst (λ (h : Option (List (ℕ × ℕ))). IsKept h x.turns) is shown.turns in
      let led : unrolled runs ≡ x.turns = ap (λ (rs : List (ℕ × ℕ)). unrolled rs) told ∙ (runs_tell_turns x.turns).0 in
      let z = turns x.first (subst (λ (r : MachineState). Shows r x.first) (sym again) shown.first) in
      let t = put z.1 z.4 in
      let text : last ≡ t.0 = alone room last t.0 empty t.2 in
      let T : List ℕ → Type 0 = λ s. IsLastText c z.1 n.jobs s in
      let J : List Task → Type 0 = λ jobs. IsLastText c z.1 jobs last in
      let R : List ℕ → Type 0 = λ cs. Recalls kind.Ends c x.first None cs z.1 z.0 in
      let programs : n.programs ≡ m.programs = same.programs ∙ ap (λ (r : MachineState). r.programs) again in (
        record x { world = z.0 },
        (is_cpu m x.world c has shown.world, (z.1, z.0, subst R led z.2, subst J (sym z.3.jobs) (subst T (sym text) t.1), refl)),
        record {
          world = z.3;
          first = subst (λ (ps : List Loaded). Shows (first_of o ps) x.first) (sym programs) shown.first;
          names = shown.names;
          breaks = shown.breaks;
          watch = shown.watch;
          turns = shown.turns;
        },
      )

  pub told_shown : (rewound n : MachineState) (runs : List (ℕ × ℕ)) (c : ℕ) (recall : Option Recall) (state : Cpu) (lines : List (List ℕ))
      (last : List ℕ) → has_cpu m.store c ≡ true → kept ≡ Some runs → rewound ≡ first_of o m.programs
      → ((w : World) → Shows rewound w → (z : World) × (past : Option Past) × Recalls kind.Works c w None (unrolled runs) past z × Shows n z
      × IsRecall c recall past) → IsSameHost rewound n → IsState m.jobs c state
      → ShowsLines names m.store state.held 0 state.registers lines
      → ((past : Option Past) → IsRecall c recall past → (before : List ℕ) × IsBefore c past before × (last ≡ changed_text before 0 state.registers lines))
      → Leaves session (Show (Some c)) last (moved_on n kept)
  told_shown rewound n runs c recall state lines last has is again turns same hand shows put x shown =
      let told : runs ≡ runs_of x.turns = subst (λ (h : Option (List (ℕ × ℕ))). IsKept h x.turns) is shown.turns in
      let led : unrolled runs ≡ x.turns = ap (λ (rs : List (ℕ × ℕ)). unrolled rs) told ∙ (runs_tell_turns x.turns).0 in
      let z = turns x.first (subst (λ (r : MachineState). Shows r x.first) (sym again) shown.first) in
      let t = put z.1 z.4 in
      let J : List Task → Type 0 = λ jobs. IsAt jobs c hand.0 hand.1 (InHand state hand.2) in
      let N : Names → Type 0 = λ ns. AreShownLines ns x.world.store state.held 0 state.registers lines in
      let are = subst N (sym shown.names) (shows x.world.store shown.world.sound shown.world.store) in
      let text : IsShownText c x.names z.1 x.world last = (hand.0, hand.1, state, hand.2, t.0, lines, subst J (sym shown.world.jobs) hand.3, t.1, are, t.2) in
      let R : List ℕ → Type 0 = λ cs. Recalls kind.Works c x.first None cs z.1 z.0 in
      let programs : n.programs ≡ m.programs = same.programs ∙ ap (λ (r : MachineState). r.programs) again in (
        record x { world = z.0 },
        (is_cpu m x.world c has shown.world, inr (z.1, z.0, subst R led z.2, text, refl)),
        record {
          world = z.3;
          first = subst (λ (ps : List Loaded). Shows (first_of o ps) x.first) (sym programs) shown.first;
          names = shown.names;
          breaks = shown.breaks;
          watch = shown.watch;
          turns = shown.turns;
        },
      )

  pub set_watch : (name word key : List ℕ) (n : ℕ) (w : Watched) (more : Option Watched) (last : List ℕ) → IsNamed names.maps name n →
      chosen_in (shape_of m.store) n word ≡ Some (w, key) → more ≡ Some w → last ≡ watch_line name key
      → Leaves session (Watch name word) last (record {
        machine = m;
        first = first_of o m.programs;
        names = names;
        breaks = breaks;
        watch =
            more;
        course = kept;
      })
  set_watch name word key n w more last named chosen same put x shown =
      let N : Names → Type 0 = λ ns. IsNamed ns.maps name n in
      let H : Shape → Type 0 = λ h. chosen_in h n word ≡ Some (w, key) in (
        record x { watch = Some w },
        (n, w, key, subst N (sym shown.names) named, subst H (sym shown.world.store.shape) chosen, put, refl),
        record { world = shown.world; first = shown.first; names = shown.names; breaks = shown.breaks; watch = sym same; turns = shown.turns },
      )

  pub set_variable : (name : List ℕ) (v : Variable) (more : Option Watched) (last : List ℕ) → variable_named name names.variables ≡ Some v →
      more ≡ Some (variable_watched v) → last ≡ variable_watch_line v.name
      → Leaves session (WatchVariable name) last (record {
        machine = m;
        first = first_of o m.programs;
        names = names;
        breaks = breaks;
        watch
            = more;
        course = kept;
      })
  set_variable name v more last named same put x shown =
      let N : Names → Type 0 = λ ns. variable_named name ns.variables ≡ Some v in (
        record x { watch = Some (variable_watched v) },
        (v, subst N (sym shown.names) named, put, refl),
        record { world = shown.world; first = shown.first; names = shown.names; breaks = shown.breaks; watch = sym same; turns = shown.turns },
      )

  pub no_watch : (last : List ℕ) → last ≡ unwatched_line
      → Leaves session Unwatch last (record { machine = m; first = first_of o m.programs; names = names; breaks = breaks; watch = None; course = kept })
  no_watch last put x shown = (
    record x { watch = None },
    (put, refl),
    record { world = shown.world; first = shown.first; names = shown.names; breaks = shown.breaks; watch = refl; turns = shown.turns },
  )

-- a breakpoint that is there, and one more
pub is_kept : (breaks : List Breakpoint) (c p : ℕ) → true ≡ has_break breaks c p → breaks ≡ with_break breaks c p
is_kept breaks c p e = ap (λ (b : Bool). if b then breaks else breaks ++ record { cpu = c; pc = p } ∷ []) e

pub is_added : (breaks : List Breakpoint) (c p : ℕ) → false ≡ has_break breaks c p → breaks ++ record { cpu = c; pc = p } ∷ [] ≡ with_break breaks c p
is_added breaks c p e = ap (λ (b : Bool). if b then breaks else breaks ++ record { cpu = c; pc = p } ∷ []) e

-- ---- questions
pub told_where : (s : SessionState) (c : ℕ) (room last : List ℕ) → has_cpu s.machine.store c ≡ true → room ≡ []
    → ((text : List ℕ) × IsWhere s.machine.jobs c text × (last ≡ room ++ text)) → Leaves s (Where (Some c)) last s
told_where s c room last has empty place x shown =
    let J : List Task → Type 0 = λ jobs. IsWhere jobs c last in
    let T : List ℕ → Type 0 = λ text. IsWhere s.machine.jobs c text in
    let same = alone room last place.0 empty place.2 in
    (x, ((is_cpu s.machine x.world c has shown.world, subst J (sym shown.world.jobs) (subst T (sym same) place.1)), refl), shown)

pub told_registers : (s : SessionState) (c : ℕ) (room last : List ℕ) → has_cpu s.machine.store c ≡ true → room ≡ []
    → ((text : List ℕ) × IsRegisters s.machine.jobs c text × (last ≡ room ++ text)) → Leaves s (Registers (Some c)) last s
told_registers s c room last has empty place x shown =
    let J : List Task → Type 0 = λ jobs. IsRegisters jobs c last in
    let T : List ℕ → Type 0 = λ text. IsRegisters s.machine.jobs c text in
    let same = alone room last place.0 empty place.2 in
    (x, ((is_cpu s.machine x.world c has shown.world, subst J (sym shown.world.jobs) (subst T (sym same) place.1)), refl), shown)

pub told_bytes : (s : SessionState) (c : ℕ) (at : Option ℕ) (n : ℕ) (last : List ℕ) (state : Cpu) → has_cpu s.machine.store c ≡ true
    → IsState s.machine.jobs c state → TellsBytes s.machine.store state at n last → Leaves s (Memory (Some c) at n) last s
told_bytes s c at n last state has hand tells x shown =
    let shows = tells x.world.store shown.world.sound shown.world.store in
    let J : List Task → Type 0 = λ jobs. IsMemoryText x.world.store jobs c at n last in
    (x, ((is_cpu s.machine x.world c has shown.world, subst J (sym shown.world.jobs) (inl (hand.0, hand.1, state, hand.2, hand.3, shows))), refl), shown)

pub told_off : (s : SessionState) (c : ℕ) (at : Option ℕ) (n : ℕ) (room last : List ℕ) → has_cpu s.machine.store c ≡ true → room ≡ []
    → ((text : List ℕ) × IsOff s.machine.jobs c text × (last ≡ room ++ text)) → Leaves s (Memory (Some c) at n) last s
told_off s c at n room last has empty place x shown =
    let J : List Task → Type 0 = λ jobs. IsMemoryText x.world.store jobs c at n last in
    let T : List ℕ → Type 0 = λ text. IsMemoryText x.world.store s.machine.jobs c at n text in
    let same = alone room last place.0 empty place.2 in
    (x, ((is_cpu s.machine x.world c has shown.world, subst J (sym shown.world.jobs) (subst T (sym same) (inr place.1))), refl), shown)

pub told_held : (s : SessionState) (c : ℕ) (last : List ℕ) (state : Cpu) → has_cpu s.machine.store c ≡ true
    → IsState s.machine.jobs c state → ShowsHeld s.names.maps s.machine.store state (length state.held) last → Leaves s (Held (Some c)) last s
told_held s c last state has hand tells x shown =
    let shows = tells x.world.store shown.world.sound shown.world.store in
    let N : Names → Type 0 = λ names. TellsHeld names.maps x.world.store state (length state.held) last in
    let J : List Task → Type 0 = λ jobs. IsHeldText x.names.maps x.world.store jobs c last in (
      x,
      (
        (
          is_cpu s.machine x.world c has shown.world,
          subst J (sym shown.world.jobs)
              (inl (hand.0, hand.1, state, hand.2, hand.3, subst N (sym shown.names) shows)),
        ),
        refl,
      ),
      shown,
    )

pub told_no_held : (s : SessionState) (c : ℕ) (room last : List ℕ) → has_cpu s.machine.store c ≡ true → room ≡ []
    → ((text : List ℕ) × IsOff s.machine.jobs c text × (last ≡ room ++ text)) → Leaves s (Held (Some c)) last s
told_no_held s c room last has empty place x shown =
    let J : List Task → Type 0 = λ jobs. IsHeldText x.names.maps x.world.store jobs c last in
    let T : List ℕ → Type 0 = λ text. IsHeldText x.names.maps x.world.store s.machine.jobs c text in
    let same = alone room last place.0 empty place.2 in
    (x, ((is_cpu s.machine x.world c has shown.world, subst J (sym shown.world.jobs) (subst T (sym same) (inr place.1))), refl), shown)

pub told_no_shown : (s : SessionState) (c : ℕ) (room last : List ℕ) → has_cpu s.machine.store c ≡ true → room ≡ []
    → ((text : List ℕ) × IsOff s.machine.jobs c text × (last ≡ room ++ text)) → Leaves s (Show (Some c)) last s
told_no_shown s c room last has empty place x shown =
    let J : List Task → Type 0 = λ jobs. IsOff jobs c last in
    let T : List ℕ → Type 0 = λ text. IsOff s.machine.jobs c text in
    let same = alone room last place.0 empty place.2 in
    (x, (is_cpu s.machine x.world c has shown.world, inl (subst J (sym shown.world.jobs) (subst T (sym same) place.1), refl)), shown)

pub told_nearby : (s : SessionState) (c : ℕ) (last : List ℕ) → has_cpu s.machine.store c ≡ true → IsNearbyText s.machine.programs
    s.machine.jobs c last → Leaves s (Nearby (Some c)) last s
told_nearby s c last has tells x shown =
    let J : List Task → Type 0 = λ jobs. IsNearbyText x.world.programs jobs c last in
    let P : List Loaded → Type 0 = λ ps. IsNearbyText ps s.machine.jobs c last in
    (x, ((is_cpu s.machine x.world c has shown.world, subst J (sym shown.world.jobs) (subst P (sym shown.world.programs) tells)), refl), shown)

pub told_map : (s : SessionState) (name : List ℕ) (m : ℕ) (last : List ℕ) → IsNamed s.names.maps name m → TellsTable s.machine.store
    s.names.maps m last → Leaves s (Map name) last s
told_map s name m last named tells x shown =
    let N : Names → Type 0 = λ names. IsNamed names.maps name m in
    let T : Names → Type 0 = λ names. IsTableText x.world.store names.maps m last in
    (x, ((m, subst N (sym shown.names) named, subst T (sym shown.names) (tells x.world.store shown.world.sound shown.world.store)), refl), shown)

pub told_keys : (s : SessionState) (name : List ℕ) (m : ℕ) (last : List ℕ) → IsNamed s.names.maps name m → TellsTableKeys s.machine.store m
    last → Leaves s (Keys name) last s
told_keys s name m last named tells x shown =
    let N : Names → Type 0 = λ names. IsNamed names.maps name m in
    (x, ((m, subst N (sym shown.names) named, tells x.world.store shown.world.sound shown.world.store), refl), shown)

pub told_course : (s : SessionState) (runs : List (ℕ × ℕ)) (last : List ℕ) → s.course ≡ Some runs → last ≡ codes "steps" ++ runs_text
    (length runs) runs ++ codes "\n"
    → Leaves s Schedule last s
told_course s runs last is put x shown =
    let K : Option (List (ℕ × ℕ)) → Type 0 = λ kept. IsKept kept x.turns in
    let told : runs ≡ runs_of x.turns = subst K is shown.turns in
    (x, (put ∙ ap (λ (rs : List (ℕ × ℕ)). codes "steps" ++ runs_text (length rs) rs ++ codes "\n") told, refl), shown)

pub told_maps : (s : SessionState) (last : List ℕ) → last ≡ store_lines s.names (shape_of s.machine.store) → Leaves s Maps last s
told_maps s last put x shown =
    let N : Names → Type 0 = λ ns. last ≡ store_lines ns x.world.store.shape in
    let H : Shape → Type 0 = λ h. last ≡ store_lines s.names h in
    (x, (subst N (sym shown.names) (subst H (sym shown.world.store.shape) put), refl), shown)

pub told_variables : (s : SessionState) (last : List ℕ)
    → ((p : Plain) → IsSoundStore p → StandsFor s.machine.store p → last ≡ variable_lines p s.names.variables (length s.names.variables)) →
    Leaves s Variables last s
told_variables s last told x shown =
    let N : Names → Type 0 = λ names. last ≡ variable_lines x.world.store names.variables (length names.variables) in
    (x, (subst N (sym shown.names) (told x.world.store shown.world.sound shown.world.store), refl), shown)

pub told_number : (s : SessionState) (name : List ℕ) (v : Variable) (last : List ℕ) → variable_named name s.names.variables ≡ Some v →
    TellsNumber s.machine.store v last → Leaves s (Number name) last s
told_number s name v last named tells x shown =
    let N : Names → Type 0 = λ names. variable_named name names.variables ≡ Some v in
    (x, ((v, subst N (sym shown.names) named, tells x.world.store shown.world.sound shown.world.store), refl), shown)

pub told_of_jobs : (s : SessionState) (room last : List ℕ) → room ≡ [] → last ≡ room ++ told_jobs (length s.machine.jobs) s.machine.jobs → Leaves s Jobs last s
told_of_jobs s room last empty put x shown =
    let J : List Task → Type 0 = λ jobs. last ≡ told_jobs (length jobs) jobs in
    (x, (subst J (sym shown.world.jobs) (alone room last _ empty put), refl), shown)

pub told_mark : (s : SessionState) (n : ℕ) (room last : List ℕ) → room ≡ [] → last ≡ room ++ mark_line n → Leaves s (Mark n) last s
told_mark s n room last empty put x shown = (x, (alone room last (mark_line n) empty put, refl), shown)

pub told_help : (s : SessionState) (last : List ℕ) → last ≡ help_text → Leaves s Help last s
told_help s last put x shown = (x, (put, refl), shown)

-- ---- each command's turns are a schedule
-- some turns more lead on
led_on : (x y : Scene) (turns : List ℕ) (w : World) → RunsSchedule x.world turns w → y ≡ behind x turns w → IsCourse x → IsCourse y × (y.first ≡ x.first)
led_on x y turns w runs is course =
    (subst IsCourse (sym is) (both_run x.turns turns x.first x.world w course runs), ap (λ (z : Scene). z.first) is)

stays : (x y : Scene) → y ≡ x → IsCourse x → IsCourse y × (y.first ≡ x.first)
stays x y is course = (subst IsCourse (sym is) course, ap (λ (z : Scene). z.first) is)

pub follows_on : (x : Scene) (order : Order) (text : List ℕ) (y : Scene) → CarriesOut x order text y → IsCourse x → IsCourse y × (y.first ≡ x.first)
follows_on x (Break (Some c) (Some p)) text y f course = (subst IsCourse (sym f.1.2) course, ap (λ (z : Scene). z.first) f.1.2)
follows_on x (Delete (Some c) (Some p)) text y f course = (subst IsCourse (sym f.1.2) course, ap (λ (z : Scene). z.first) f.1.2)
follows_on x (Watch name word) text y f course = (subst IsCourse (sym f.6) course, ap (λ (z : Scene). z.first) f.6)
follows_on x (WatchVariable name) text y f course = (subst IsCourse (sym f.3) course, ap (λ (z : Scene). z.first) f.3)
follows_on x Unwatch text y f course = (subst IsCourse (sym f.1) course, ap (λ (z : Scene). z.first) f.1)
follows_on x (Step (Some c)) text y f course = led_on x y (c ∷ []) f.1.1 (f.1.0, f.1.1, f.1.3, refl) f.1.6 course
follows_on x (StepTimes (Some c) n) text y f course = led_on x y (replicate n c) f.1.0 (made_runs x.world c n f.1.1 f.1.0 f.1.3) f.1.6 course
follows_on x (Steps runs) text y f course = led_on x y (unrolled runs) f.1.0 (all_runs x.world runs f.1.1 f.1.0 f.1.3) f.1.6 course
follows_on x Go text y f course = led_on x y f.1 f.0 (goes_runs x.breaks x.watch 0 x.world.store.shape.cpus x.world 0 [] f.1 text f.0 f.2) f.3 course
follows_on x (GoTo (Some c) (Some p)) text y f course =
    let went = f.1.1 in
    led_on x y went.1 went.0 (goes_runs (record { cpu = c; pc = p } ∷ []) x.watch c (c + 1) x.world c [] went.1 text went.0 went.2) went.3 course
follows_on x (GoTo (Some c) None) text y f course = absurd f
follows_on x (GoTo None p) text y f course = absurd f
follows_on x (Registers c) text y f course = stays x y f.1 course
follows_on x (Where c) text y f course = stays x y f.1 course
follows_on x (Memory c at n) text y f course = stays x y f.1 course
follows_on x (Map name) text y f course = stays x y f.1 course
follows_on x (Keys name) text y f course = stays x y f.1 course
follows_on x Schedule text y f course = stays x y f.1 course
follows_on x Maps text y f course = stays x y f.1 course
follows_on x Variables text y f course = stays x y f.1 course
follows_on x (Number name) text y f course = stays x y f.1 course
follows_on x Jobs text y f course = stays x y f.1 course
follows_on x (Mark n) text y f course = stays x y f.1 course
follows_on x Help text y f course = stays x y f.1 course
follows_on x (Held c) text y f course = stays x y f.1 course
follows_on x (Nearby c) text y f course = stays x y f.1 course
follows_on x (Show (Some c)) text y (has, inl f) course = stays x y f.1 course
follows_on x (Show (Some c)) text y (has, inr f) course =
    (subst IsCourse (sym f.4) (recalls_run kind.Works c x.first None x.turns f.0 f.1 f.2), ap (λ (z : Scene). z.first) f.4)
follows_on x (Last (Some c)) text y f course =
    (subst IsCourse (sym f.1.4) (recalls_run kind.Ends c x.first None x.turns f.1.0 f.1.1 f.1.2), ap (λ (z : Scene). z.first) f.1.4)
follows_on x (Back n) text y f course =
    (subst IsCourse (sym f.1.3) f.1.1, ap (λ (z : Scene). z.first) f.1.3)
follows_on x (Break None p) text y f course = absurd f
follows_on x (Break (Some c) None) text y f course = absurd f
follows_on x (Delete None p) text y f course = absurd f
follows_on x (Delete (Some c) None) text y f course = absurd f
follows_on x (Step None) text y f course = absurd f
follows_on x (Show None) text y f course = absurd f
follows_on x (Last None) text y f course = absurd f
follows_on x (StepTimes None n) text y f course = absurd f

-- ---- lines
pub no_line : (s : SessionState) (fields : List (List ℕ)) (text : List ℕ) → fields ≡ [] → text ≡ [] → LeavesLine s fields text s
no_line s fields text e none x shown =
    let P : List (List ℕ) → Type 0 = λ fs. Obeys x fs text x in
    (x, subst P (sym e) (none, refl), λ course. course, shown)

pub line_done : (s t : SessionState) (fields : List (List ℕ)) (order : Order) (text : List ℕ) → Some order ≡ order_of fields → Leaves s
    order text t → LeavesLine s fields text t
line_done s t [] order text e leaves x shown = let no : Some order ≡ None = e in cc
line_done s t (f ∷ fs) order text e leaves x shown =
    let l = leaves x shown in
    (l.0, (order, sym e, l.1), λ course. (follows_on x order text l.0 l.1 course).0, l.2)

-- ---- refusals
-- the turns that are kept are as many as were made
fewer : (kept : Option (List (ℕ × ℕ))) (turns : List ℕ) (n : ℕ) → IsKept kept turns → AreFewer (count_of kept) n → length turns < n
fewer None turns n is less = absurd less
fewer (Some runs) turns n is less =
    let sized : length (unrolled runs) ≡ length turns = ap (λ (rs : List (ℕ × ℕ)). length (unrolled rs)) is ∙ ap
    (λ (cs : List ℕ). length cs) (runs_tell_turns turns).0 in
    omega (arith, sized, less)

few_turns : (h : Shape) (names : Names) (kept : Option (List (ℕ × ℕ))) (turns : List ℕ) (order : Order) → IsKept kept turns → HasBadOperand
    h names (count_of kept) order → HasBadOperand h names (Some (length turns)) order
few_turns h names kept turns (Back n) is few = fewer kept turns n is few
few_turns h names kept turns (Watch name word) is few = few
few_turns h names kept turns (WatchVariable name) is few = absurd few
few_turns h names kept turns Unwatch is few = absurd few
few_turns h names kept turns (Break c p) is few = absurd few
few_turns h names kept turns (Delete c p) is few = absurd few
few_turns h names kept turns (Step c) is few = absurd few
few_turns h names kept turns (Show c) is few = absurd few
few_turns h names kept turns (Last c) is few = absurd few
few_turns h names kept turns (StepTimes c n) is few = absurd few
few_turns h names kept turns (Steps runs) is few = absurd few
few_turns h names kept turns Go is few = absurd few
few_turns h names kept turns (Registers c) is few = absurd few
few_turns h names kept turns (Where c) is few = absurd few
few_turns h names kept turns (Memory c at n) is few = absurd few
few_turns h names kept turns (Map name) is few = absurd few
few_turns h names kept turns (Keys name) is few = absurd few
few_turns h names kept turns Schedule is few = absurd few
few_turns h names kept turns (GoTo c p) is few = absurd few
few_turns h names kept turns Maps is few = absurd few
few_turns h names kept turns Variables is few = absurd few
few_turns h names kept turns (Number name) is few = absurd few
few_turns h names kept turns Jobs is few = absurd few
few_turns h names kept turns (Mark n) is few = absurd few
few_turns h names kept turns Help is few = absurd few
few_turns h names kept turns (Held c) is few = absurd few
few_turns h names kept turns (Nearby c) is few = absurd few

counted : (cpus : ℕ) (programs : List Loaded) (h : Shape) (names : Names) (kept : Option (List (ℕ × ℕ))) (turns : List ℕ) (order : Order)
    (e : DebugError) → IsKept kept turns
    → RefusesOrder cpus programs h names (count_of kept) order e → RefusesOrder cpus programs h names (Some (length turns)) order e
counted cpus programs h names kept turns order error.NoCpu is here = here
counted cpus programs h names kept turns order error.NoPc is here = here
counted cpus programs h names kept turns order error.NoMap is here = here
counted cpus programs h names kept turns order error.BadCommand is here = here
counted cpus programs h names kept turns order error.OutOfMemory is here = here
counted cpus programs h names kept turns order error.BadOperand is here = few_turns h names kept turns order is here

module _ (s : SessionState) (x : Scene) (shown : IsShown s x) where
  -- what a session refuses, its scenes refuse
  moved : (order : Order) (e : DebugError) → RefusesHere s order e → RefusesOrder x.world.store.shape.cpus x.world.programs
      x.world.store.shape x.names (Some (length x.turns)) order e
  moved order e here =
      let cpus = length s.machine.store.maps.runs in
      let h = shape_of s.machine.store in
      let C : ℕ → Type 0 = λ count. RefusesOrder count x.world.programs x.world.store.shape x.names (Some (length x.turns)) order e in
      let P : List Loaded → Type 0 = λ programs. RefusesOrder cpus programs x.world.store.shape x.names (Some (length x.turns)) order e in
      let H : Shape → Type 0 = λ shape. RefusesOrder cpus s.machine.programs shape x.names (Some (length x.turns)) order e in
      let N : Names → Type 0 = λ names. RefusesOrder cpus s.machine.programs h names (Some (length x.turns)) order e in
      subst C (sym shown.world.store.maps.cpus) (subst P (sym shown.world.programs)
      (subst H (sym shown.world.store.shape) (subst N (sym shown.names)
      (counted cpus s.machine.programs h s.names s.course x.turns order e shown.turns here))))

pub line_refused : (s : SessionState) (fields : List (List ℕ)) (order : Order) (e : DebugError) → Some order ≡ order_of fields → RefusesHere
    s order e → RefusesLine s fields e
line_refused s fields order error.NoCpu is here x shown = (order, sym is, moved s x shown order error.NoCpu here)
line_refused s fields order error.NoPc is here x shown = (order, sym is, moved s x shown order error.NoPc here)
line_refused s fields order error.NoMap is here x shown = (order, sym is, moved s x shown order error.NoMap here)
line_refused s fields order error.BadOperand is here x shown = (order, sym is, moved s x shown order error.BadOperand here)
line_refused s fields order error.BadCommand is here x shown = absurd here
line_refused s fields order error.OutOfMemory is here x shown = tt
