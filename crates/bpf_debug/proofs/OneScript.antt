-- Over a machine whose jobs all wait, a script has one list of answers.
use Rattle.std.proofs.Common.{◌≡◌, ◌≢◌, ℕ, zero, suc, ◌+◌, ◌<◌, ◌≤◌, Bool, true, false, ◌&&◌, if◌then◌else◌, List, [], ◌∷◌, ◌++◌, length}
use Rattle.std.proofs.Common.{Option, Some, None, ◌⊎◌, inl, inr, refl, sym, ap, subst, ◌∙◌, arith, replicate}
use Rattle.std.specs.Prelude.{◌==◌, nat_lt, Ok, Err}
use Rattle.std.proofs.lemmas.Bool.{cases_order, lt-ltb}
use Rattle.bpf_shared.specs.Laws.{CallsHaveOneReply}
use Rattle.bpf_shared.specs.Shape.{Shape}
use Rattle.bpf_names.specs.Names.{Names, Variable}
use Rattle.bpf_plain.specs.Shows.{fixed_of}
use Rattle.bpf_mem.specs.Laws.{WritesAreDetermined}
use Rattle.bpf_lines.specs.Lines.{fields_of}
use Rattle.bpf_loader.specs.Laws.{OneInstructionBegins}
use Rattle.bpf_loader.specs.Loaded.{Loaded}
use Rattle.bpf_machine.specs.declared.machine.Turn.{Turn}
use Rattle.bpf_cpu.specs.Task.{Task}
use Rattle.bpf_machine.specs.Schedule.{World, TakesTurn, unrolled}
use Rattle.bpf_machine.proofs.DeterminedTurns.{IsWorld, one_turn, one_run, runs_world, fresh_world}
use Rattle.bpf_debug.specs.declared.breakpoint.Breakpoint.{Breakpoint}
use Rattle.bpf_debug.specs.declared.error.DebugError.{DebugError}
use Rattle.bpf_debug.specs.declared.error.DebugError.TheVariants as error
use Rattle.bpf_debug.specs.declared.recall.Kind.{Kind}
use Rattle.bpf_debug.specs.declared.recall.Kind.TheVariants as kind
use Rattle.bpf_debug.specs.Recall.{Past, Recalls, IsLastText, is_of, past_after}
use Rattle.bpf_debug.specs.Show.{IsShownText}
use Rattle.bpf_debug.proofs.RecallLaws.{recalls_run}
use Rattle.bpf_debug.specs.Answer.{IsWhere, changed_line, ended_text, stop_line, variable_watch_line, watch_line}
use Rattle.bpf_debug.specs.Command.{Order, Break, Delete, Step, StepTimes, Steps, Go, Registers, Where, Memory, Map, Keys, Schedule, GoTo}
use Rattle.bpf_debug.specs.Command.{Maps, Variables, Number, Jobs, Mark, Back, Help, Held, Nearby, Last, Show, Watch, WatchVariable}
use Rattle.bpf_debug.specs.Command.{Unwatch, order_of}
use Rattle.bpf_debug.specs.Turns.{MakesTurns, MakesRuns, last_cpu}
use Rattle.bpf_debug.specs.Go.{HasWork, AreIdle, IsUp, StandsAt, Goes, Done, Stops, Changes, Turns, has_break, has_gone}
use Rattle.bpf_debug.specs.Watch.{Chosen, Watched, chosen_in, variable_watched, watched_values}
use Rattle.bpf_debug.specs.Read.{AreKeysOf, IsNamed, IsTableText, number_text}
use Rattle.bpf_debug.specs.Course.{cpu_before, turns_before}
use Rattle.bpf_machine.specs.Laws.{IsFresh}
use Rattle.bpf_debug.specs.Session.{Scene, IsCourse, Answers, CarriesOut, Obeys, behind, undone, RefusesOrder, RefusesFields, IsLineRefused}
use Rattle.bpf_debug.specs.Script.{Answer, AnswersLine, RunsScript}
use Rattle.bpf_debug.specs.Laws.{HadMemory, KeysHaveOwnValues, RecallsChangeNothing, ScriptsAreDetermined}
use Rattle.bpf_debug.proofs.GoLaws.{free_has_no_work}
use Rattle.bpf_debug.proofs.OwnScenes.{AreOwn, answer_keeps}
use Rattle.bpf_debug.proofs.OneText.{one_place, IsSoundPast, off_free, one_off, one_where, one_registers, one_stand_text, one_shown_text}
use Rattle.bpf_debug.proofs.OneText.{one_memory, one_held_text, one_nearby, one_name, one_table, one_table_keys}

-- ---- who is up
idle_not_up : (jobs : List Task) (a b c : ℕ) → AreIdle jobs a b → HasWork jobs c → a ≤ c → c < b → ⊥
idle_not_up jobs a b c idle works above below = let i = idle c above below in free_has_no_work jobs c works i.0 i.1

one_up : (jobs : List Task) (low high «from» c d : ℕ) → IsUp jobs low high «from» c → IsUp jobs low high «from» d → c ≡ d
one_up jobs low high «from» c d a b = elim (cases_order c d) [
  | inl e ↦ e
  | inr rest ↦ elim rest [ inl below ↦ absurd (later c d a b below) | inr above ↦ absurd (later d c b a above) ]
]
  where
    later : (c d : ℕ) → IsUp jobs low high «from» c → IsUp jobs low high «from» d → c < d → ⊥
    later c d a b less = elim (a.first) [
      | inl x ↦ elim (b.first) [
        | inl y ↦ idle_not_up jobs «from» d c y.1 a.works x.0 less
        | inr y ↦ absurd (omega (arith, x.0, y.0))
      ]
      | inr x ↦ elim (b.first) [
        | inl y ↦ idle_not_up jobs «from» high d x.1 b.works y.0 b.within
        | inr y ↦ idle_not_up jobs low d c y.2 a.works a.above less
      ]
    ]

-- ---- refusals
-- what is done isn't refused, unless memory runs out
no_cpu : (c cpus : ℕ) → c < cpus → nat_lt c cpus ≡ false → ⊥
no_cpu c cpus less out = let both : true ≡ false = sym (lt-ltb c cpus less) ∙ out in cc

cpu_refused : (x y : Scene) (order : Order) (text : List ℕ) → CarriesOut x order text y → RefusesOrder x.world.store.shape.cpus
    x.world.programs x.world.store.shape x.names (Some (length x.turns)) order error.NoCpu → ⊥
cpu_refused x y (Break (Some c) (Some p)) text f r = no_cpu c x.world.store.shape.cpus f.0 r
cpu_refused x y (Break (Some c) None) text f r = absurd f
cpu_refused x y (Break None p) text f r = absurd f
cpu_refused x y (Step (Some c)) text f r = no_cpu c x.world.store.shape.cpus f.0 r
cpu_refused x y (Show (Some c)) text f r = no_cpu c x.world.store.shape.cpus f.0 r
cpu_refused x y (Last (Some c)) text f r = no_cpu c x.world.store.shape.cpus f.0 r
cpu_refused x y (Step None) text f r = absurd f
cpu_refused x y (Show None) text f r = absurd f
cpu_refused x y (Last None) text f r = absurd f
cpu_refused x y (StepTimes (Some c) n) text f r = no_cpu c x.world.store.shape.cpus f.0 r
cpu_refused x y (StepTimes None n) text f r = absurd f
cpu_refused x y (Steps runs) text f r = let both : true ≡ false = sym f.0 ∙ r in cc
cpu_refused x y Go text f r = r
cpu_refused x y (Registers (Some c)) text f r = no_cpu c x.world.store.shape.cpus f.0.0 r
cpu_refused x y (Registers None) text f r = absurd f.0
cpu_refused x y (Where (Some c)) text f r = no_cpu c x.world.store.shape.cpus f.0.0 r
cpu_refused x y (Where None) text f r = absurd f.0
cpu_refused x y (Memory (Some c) at n) text f r = no_cpu c x.world.store.shape.cpus f.0.0 r
cpu_refused x y (Memory None at n) text f r = absurd f.0
cpu_refused x y (Map name) text f r = r
cpu_refused x y (Keys name) text f r = r
cpu_refused x y Schedule text f r = r
cpu_refused x y (GoTo (Some c) (Some p)) text f r = no_cpu c x.world.store.shape.cpus f.0 r
cpu_refused x y (GoTo (Some c) None) text f r = absurd f
cpu_refused x y (GoTo None p) text f r = absurd f
cpu_refused x y Maps text f r = r
cpu_refused x y Variables text f r = r
cpu_refused x y (Number name) text f r = r
cpu_refused x y Jobs text f r = r
cpu_refused x y (Watch name word) text f r = absurd r
cpu_refused x y (WatchVariable name) text f r = absurd r
cpu_refused x y Unwatch text f r = absurd r
cpu_refused x y (Mark n) text f r = r
cpu_refused x y (Back n) text f r = r
cpu_refused x y Help text f r = r
cpu_refused x y (Held (Some c)) text f r = no_cpu c x.world.store.shape.cpus f.0.0 r
cpu_refused x y (Nearby (Some c)) text f r = no_cpu c x.world.store.shape.cpus f.0.0 r
cpu_refused x y (Held None) text f r = absurd f.0
cpu_refused x y (Nearby None) text f r = absurd f.0
cpu_refused x y (Delete (Some c) (Some p)) text f r = no_cpu c x.world.store.shape.cpus f.0 r
cpu_refused x y (Delete (Some c) None) text f r = absurd f
cpu_refused x y (Delete None p) text f r = absurd f

pc_refused : (x y : Scene) (order : Order) (text : List ℕ) → CarriesOut x order text y → RefusesOrder x.world.store.shape.cpus
    x.world.programs x.world.store.shape x.names (Some (length x.turns)) order error.NoPc → ⊥
pc_refused x y (Break (Some c) (Some p)) text f r = r.1 f.1.0
pc_refused x y (Break (Some c) None) text f r = absurd f
pc_refused x y (Break None p) text f r = absurd f
pc_refused x y (Step c) text f r = absurd r
pc_refused x y (Show c) text f r = absurd r
pc_refused x y (Last c) text f r = absurd r
pc_refused x y (StepTimes c n) text f r = absurd r
pc_refused x y (Steps runs) text f r = absurd r
pc_refused x y Go text f r = absurd r
pc_refused x y (Registers c) text f r = absurd r
pc_refused x y (Where c) text f r = absurd r
pc_refused x y (Memory c at n) text f r = absurd r
pc_refused x y (Map name) text f r = absurd r
pc_refused x y (Keys name) text f r = absurd r
pc_refused x y Schedule text f r = absurd r
pc_refused x y (GoTo (Some c) (Some p)) text f r = r.1 f.1.0
pc_refused x y (GoTo (Some c) None) text f r = absurd f
pc_refused x y (GoTo None p) text f r = absurd f
pc_refused x y Maps text f r = absurd r
pc_refused x y Variables text f r = absurd r
pc_refused x y (Number name) text f r = absurd r
pc_refused x y Jobs text f r = absurd r
pc_refused x y (Watch name word) text f r = absurd r
pc_refused x y (WatchVariable name) text f r = absurd r
pc_refused x y Unwatch text f r = absurd r
pc_refused x y (Mark n) text f r = absurd r
pc_refused x y (Back n) text f r = absurd r
pc_refused x y Help text f r = absurd r
pc_refused x y (Held c) text f r = absurd r
pc_refused x y (Nearby c) text f r = absurd r
pc_refused x y (Delete (Some c) (Some p)) text f r = r.1 f.1.0
pc_refused x y (Delete (Some c) None) text f r = absurd f
pc_refused x y (Delete None p) text f r = absurd f

map_refused : (x y : Scene) (order : Order) (text : List ℕ) → CarriesOut x order text y → RefusesOrder x.world.store.shape.cpus
    x.world.programs x.world.store.shape x.names (Some (length x.turns)) order error.NoMap → ⊥
map_refused x y (Map name) text f r = r f.0.0 f.0.1.0
map_refused x y (Keys name) text f r = r f.0.0 f.0.1.0
map_refused x y Schedule text f r = absurd r
map_refused x y (GoTo c p) text f r = absurd r
map_refused x y Maps text f r = absurd r
map_refused x y Variables text f r = absurd r
map_refused x y (Number name) text f r = let both : Some f.0.0 ≡ None = sym f.0.1 ∙ r in cc
map_refused x y Jobs text f r = absurd r
map_refused x y (Watch name word) text f r = r f.0 f.3.0
map_refused x y (WatchVariable name) text f r = let both : Some f.0 ≡ None = sym f.1 ∙ r in cc
map_refused x y Unwatch text f r = absurd r
map_refused x y (Mark n) text f r = absurd r
map_refused x y (Back n) text f r = absurd r
map_refused x y Help text f r = absurd r
map_refused x y (Held c) text f r = absurd r
map_refused x y (Nearby c) text f r = absurd r
map_refused x y (Break c p) text f r = absurd r
map_refused x y (Delete c p) text f r = absurd r
map_refused x y (Step c) text f r = absurd r
map_refused x y (Show c) text f r = absurd r
map_refused x y (Last c) text f r = absurd r
map_refused x y (StepTimes c n) text f r = absurd r
map_refused x y (Steps runs) text f r = absurd r
map_refused x y Go text f r = absurd r
map_refused x y (Registers c) text f r = absurd r
map_refused x y (Where c) text f r = absurd r
map_refused x y (Memory c at n) text f r = absurd r

not_chosen : (h : Shape) (names : Names) (name word : List ℕ) (m n : ℕ) (c : Chosen) → IsNamed names.maps name m → IsNamed names.maps name n
    → chosen_in h m word ≡ Some c → chosen_in h n word ≡ None → ⊥
not_chosen h names name word m n c named also some none =
    let both : Some c ≡ None = sym some ∙ ap (λ (k : ℕ). chosen_in h k word) (one_name names.maps name m n named also) ∙ none in
    cc

turns_refused : (x y : Scene) (order : Order) (text : List ℕ) → CarriesOut x order text y → RefusesOrder x.world.store.shape.cpus
    x.world.programs x.world.store.shape x.names (Some (length x.turns)) order error.BadOperand → ⊥
turns_refused x y (Back n) text f r = omega (arith, f.0, r)
turns_refused x y (Map name) text f r = absurd r
turns_refused x y (Keys name) text f r = absurd r
turns_refused x y Schedule text f r = absurd r
turns_refused x y (GoTo c p) text f r = absurd r
turns_refused x y Maps text f r = absurd r
turns_refused x y Variables text f r = absurd r
turns_refused x y (Number name) text f r = absurd r
turns_refused x y Jobs text f r = absurd r
turns_refused x y (Watch name word) text f r = not_chosen x.world.store.shape x.names name word f.0 r.0 (f.1, f.2) f.3 r.1 f.4 r.2
turns_refused x y (WatchVariable name) text f r = absurd r
turns_refused x y Unwatch text f r = absurd r
turns_refused x y (Mark n) text f r = absurd r
turns_refused x y Help text f r = absurd r
turns_refused x y (Held c) text f r = absurd r
turns_refused x y (Nearby c) text f r = absurd r
turns_refused x y (Break c p) text f r = absurd r
turns_refused x y (Delete c p) text f r = absurd r
turns_refused x y (Step c) text f r = absurd r
turns_refused x y (Show c) text f r = absurd r
turns_refused x y (Last c) text f r = absurd r
turns_refused x y (StepTimes c n) text f r = absurd r
turns_refused x y (Steps runs) text f r = absurd r
turns_refused x y Go text f r = absurd r
turns_refused x y (Registers c) text f r = absurd r
turns_refused x y (Where c) text f r = absurd r
turns_refused x y (Memory c at n) text f r = absurd r

same_order : (fields : List (List ℕ)) (a b : Order) → order_of fields ≡ Some a → order_of fields ≡ Some b → a ≡ b
same_order fields a b e f = let both : Some a ≡ Some b = sym e ∙ f in cc

line_refused : (x y : Scene) (fields : List (List ℕ)) (text : List ℕ) (e : DebugError) → Obeys x fields text y → e ≢ error.OutOfMemory →
    IsLineRefused x fields e → ⊥
line_refused x y [] text error.BadCommand o memory r = r.0 refl
line_refused x y [] text error.OutOfMemory o memory r = memory refl
line_refused x y [] text error.NoCpu o memory r = let both : None ≡ Some r.0 = r.1 in cc
line_refused x y [] text error.NoPc o memory r = let both : None ≡ Some r.0 = r.1 in cc
line_refused x y [] text error.NoMap o memory r = let both : None ≡ Some r.0 = r.1 in cc
line_refused x y [] text error.BadOperand o memory r = let both : None ≡ Some r.0 = r.1 in cc
line_refused x y (f ∷ fs) text error.BadCommand o memory r = let both : Some o.0 ≡ None = sym o.1 ∙ r.1 in cc
line_refused x y (f ∷ fs) text error.OutOfMemory o memory r = memory refl
line_refused x y (f ∷ fs) text error.NoCpu o memory r =
    let P : Order → Type 0 = λ order. CarriesOut x order text y in
    cpu_refused x y r.0 text (subst P (same_order (f ∷ fs) o.0 r.0 o.1 r.1) o.2) r.2
line_refused x y (f ∷ fs) text error.NoPc o memory r =
    let P : Order → Type 0 = λ order. CarriesOut x order text y in
    pc_refused x y r.0 text (subst P (same_order (f ∷ fs) o.0 r.0 o.1 r.1) o.2) r.2
line_refused x y (f ∷ fs) text error.NoMap o memory r =
    let P : Order → Type 0 = λ order. CarriesOut x order text y in
    map_refused x y r.0 text (subst P (same_order (f ∷ fs) o.0 r.0 o.1 r.1) o.2) r.2
line_refused x y (f ∷ fs) text error.BadOperand o memory r =
    let P : Order → Type 0 = λ order. CarriesOut x order text y in
    turns_refused x y r.0 text (subst P (same_order (f ∷ fs) o.0 r.0 o.1 r.1) o.2) r.2

-- a line is refused for one reason
module _ (cpus : ℕ) (programs : List Loaded) (h : Shape) (names : Names) (count : Option ℕ) where
  cpu_or_pc : (order : Order) → RefusesOrder cpus programs h names count order error.NoCpu → RefusesOrder cpus programs h names count order error.NoPc → ⊥
  cpu_or_pc (Break c p) a b = b.0 a
  cpu_or_pc (Step c) a b = absurd b
  cpu_or_pc (Show c) a b = absurd b
  cpu_or_pc (Last c) a b = absurd b
  cpu_or_pc Go a b = absurd b
  cpu_or_pc (Steps runs) a b = absurd b
  cpu_or_pc (StepTimes c n) a b = absurd b
  cpu_or_pc (Registers c) a b = absurd b
  cpu_or_pc (Where c) a b = absurd b
  cpu_or_pc (Memory c at n) a b = absurd b
  cpu_or_pc (Map name) a b = absurd b
  cpu_or_pc (Keys name) a b = absurd b
  cpu_or_pc Schedule a b = absurd b
  cpu_or_pc (GoTo c p) a b = b.0 a
  cpu_or_pc Maps a b = absurd b
  cpu_or_pc Variables a b = absurd b
  cpu_or_pc (Number name) a b = absurd b
  cpu_or_pc Jobs a b = absurd b
  cpu_or_pc (Watch name word) a b = absurd b
  cpu_or_pc (WatchVariable name) a b = absurd b
  cpu_or_pc Unwatch a b = absurd b
  cpu_or_pc (Mark n) a b = absurd b
  cpu_or_pc (Back n) a b = absurd b
  cpu_or_pc Help a b = absurd b
  cpu_or_pc (Held c) a b = absurd b
  cpu_or_pc (Nearby c) a b = absurd b
  cpu_or_pc (Delete c p) a b = b.0 a

  cpu_or_map : (order : Order) → RefusesOrder cpus programs h names count order error.NoCpu → RefusesOrder cpus programs h names count order error.NoMap → ⊥
  cpu_or_map (Break c p) a b = absurd b
  cpu_or_map (Step c) a b = absurd b
  cpu_or_map (Show c) a b = absurd b
  cpu_or_map (Last c) a b = absurd b
  cpu_or_map Go a b = absurd b
  cpu_or_map (Steps runs) a b = absurd b
  cpu_or_map (StepTimes c n) a b = absurd b
  cpu_or_map (Registers c) a b = absurd b
  cpu_or_map (Where c) a b = absurd b
  cpu_or_map (Memory c at n) a b = absurd b
  cpu_or_map (Map name) a b = absurd a
  cpu_or_map (Keys name) a b = absurd a
  cpu_or_map Schedule a b = absurd b
  cpu_or_map (GoTo c p) a b = absurd b
  cpu_or_map Maps a b = absurd b
  cpu_or_map Variables a b = absurd b
  cpu_or_map (Number name) a b = absurd a
  cpu_or_map Jobs a b = absurd b
  cpu_or_map (Watch name word) a b = absurd a
  cpu_or_map (WatchVariable name) a b = absurd a
  cpu_or_map Unwatch a b = absurd b
  cpu_or_map (Mark n) a b = absurd b
  cpu_or_map (Back n) a b = absurd b
  cpu_or_map Help a b = absurd b
  cpu_or_map (Held c) a b = absurd b
  cpu_or_map (Nearby c) a b = absurd b
  cpu_or_map (Delete c p) a b = absurd b

  pc_or_map : (order : Order) → RefusesOrder cpus programs h names count order error.NoPc → RefusesOrder cpus programs h names count order error.NoMap → ⊥
  pc_or_map (Break c p) a b = absurd b
  pc_or_map (Step c) a b = absurd b
  pc_or_map (Show c) a b = absurd b
  pc_or_map (Last c) a b = absurd b
  pc_or_map Go a b = absurd b
  pc_or_map (Steps runs) a b = absurd b
  pc_or_map (StepTimes c n) a b = absurd b
  pc_or_map (Registers c) a b = absurd b
  pc_or_map (Where c) a b = absurd b
  pc_or_map (Memory c at n) a b = absurd b
  pc_or_map (Map name) a b = absurd a
  pc_or_map (Keys name) a b = absurd a
  pc_or_map Schedule a b = absurd b
  pc_or_map (GoTo c p) a b = absurd b
  pc_or_map Maps a b = absurd b
  pc_or_map Variables a b = absurd b
  pc_or_map (Number name) a b = absurd a
  pc_or_map Jobs a b = absurd b
  pc_or_map (Watch name word) a b = absurd a
  pc_or_map (WatchVariable name) a b = absurd a
  pc_or_map Unwatch a b = absurd b
  pc_or_map (Mark n) a b = absurd b
  pc_or_map (Back n) a b = absurd b
  pc_or_map Help a b = absurd b
  pc_or_map (Held c) a b = absurd b
  pc_or_map (Nearby c) a b = absurd b
  pc_or_map (Delete c p) a b = absurd b

  cpu_or_turns : (order : Order) → RefusesOrder cpus programs h names count order error.NoCpu → RefusesOrder cpus programs h names count
      order error.BadOperand → ⊥
  cpu_or_turns (Back n) a b = absurd a
  cpu_or_turns (Break c p) a b = absurd b
  cpu_or_turns (Step c) a b = absurd b
  cpu_or_turns (Show c) a b = absurd b
  cpu_or_turns (Last c) a b = absurd b
  cpu_or_turns Go a b = absurd b
  cpu_or_turns (Steps runs) a b = absurd b
  cpu_or_turns (StepTimes c n) a b = absurd b
  cpu_or_turns (Registers c) a b = absurd b
  cpu_or_turns (Where c) a b = absurd b
  cpu_or_turns (Memory c at n) a b = absurd b
  cpu_or_turns (Map name) a b = absurd b
  cpu_or_turns (Keys name) a b = absurd b
  cpu_or_turns Schedule a b = absurd b
  cpu_or_turns (GoTo c p) a b = absurd b
  cpu_or_turns Maps a b = absurd b
  cpu_or_turns Variables a b = absurd b
  cpu_or_turns (Number name) a b = absurd b
  cpu_or_turns Jobs a b = absurd b
  cpu_or_turns (Watch name word) a b = absurd a
  cpu_or_turns (WatchVariable name) a b = absurd b
  cpu_or_turns Unwatch a b = absurd b
  cpu_or_turns (Mark n) a b = absurd b
  cpu_or_turns Help a b = absurd b
  cpu_or_turns (Held c) a b = absurd b
  cpu_or_turns (Nearby c) a b = absurd b
  cpu_or_turns (Delete c p) a b = absurd b

  pc_or_turns : (order : Order) → RefusesOrder cpus programs h names count order error.NoPc → RefusesOrder cpus programs h names count order
      error.BadOperand → ⊥
  pc_or_turns (Back n) a b = absurd a
  pc_or_turns (Break c p) a b = absurd b
  pc_or_turns (Step c) a b = absurd b
  pc_or_turns (Show c) a b = absurd b
  pc_or_turns (Last c) a b = absurd b
  pc_or_turns Go a b = absurd b
  pc_or_turns (Steps runs) a b = absurd b
  pc_or_turns (StepTimes c n) a b = absurd b
  pc_or_turns (Registers c) a b = absurd b
  pc_or_turns (Where c) a b = absurd b
  pc_or_turns (Memory c at n) a b = absurd b
  pc_or_turns (Map name) a b = absurd b
  pc_or_turns (Keys name) a b = absurd b
  pc_or_turns Schedule a b = absurd b
  pc_or_turns (GoTo c p) a b = absurd b
  pc_or_turns Maps a b = absurd b
  pc_or_turns Variables a b = absurd b
  pc_or_turns (Number name) a b = absurd b
  pc_or_turns Jobs a b = absurd b
  pc_or_turns (Watch name word) a b = absurd a
  pc_or_turns (WatchVariable name) a b = absurd b
  pc_or_turns Unwatch a b = absurd b
  pc_or_turns (Mark n) a b = absurd b
  pc_or_turns Help a b = absurd b
  pc_or_turns (Held c) a b = absurd b
  pc_or_turns (Nearby c) a b = absurd b
  pc_or_turns (Delete c p) a b = absurd b

  map_or_turns : (order : Order) → RefusesOrder cpus programs h names count order error.NoMap → RefusesOrder cpus programs h names count
      order error.BadOperand → ⊥
  map_or_turns (Back n) a b = absurd a
  map_or_turns (Break c p) a b = absurd b
  map_or_turns (Step c) a b = absurd b
  map_or_turns (Show c) a b = absurd b
  map_or_turns (Last c) a b = absurd b
  map_or_turns Go a b = absurd b
  map_or_turns (Steps runs) a b = absurd b
  map_or_turns (StepTimes c n) a b = absurd b
  map_or_turns (Registers c) a b = absurd b
  map_or_turns (Where c) a b = absurd b
  map_or_turns (Memory c at n) a b = absurd b
  map_or_turns (Map name) a b = absurd b
  map_or_turns (Keys name) a b = absurd b
  map_or_turns Schedule a b = absurd b
  map_or_turns (GoTo c p) a b = absurd b
  map_or_turns Maps a b = absurd b
  map_or_turns Variables a b = absurd b
  map_or_turns (Number name) a b = absurd b
  map_or_turns Jobs a b = absurd b
  map_or_turns (Watch name word) a b = a b.0 b.1.0
  map_or_turns (WatchVariable name) a b = absurd b
  map_or_turns Unwatch a b = absurd b
  map_or_turns (Mark n) a b = absurd b
  map_or_turns Help a b = absurd b
  map_or_turns (Held c) a b = absurd b
  map_or_turns (Nearby c) a b = absurd b
  map_or_turns (Delete c p) a b = absurd b

  module _ (fields : List (List ℕ)) where
    abbrev Why : DebugError → Type 0
    Why e = RefusesFields cpus programs h names count fields e

    both_cpu_pc : Why error.NoCpu → Why error.NoPc → ⊥
    both_cpu_pc a b = cpu_or_pc b.0 (subst (λ (o : Order). RefusesOrder cpus programs h names count o error.NoCpu) (same_order fields a.0 b.0 a.1 b.1) a.2) b.2

    both_cpu_map : Why error.NoCpu → Why error.NoMap → ⊥
    both_cpu_map a b = cpu_or_map b.0 (subst (λ (o : Order). RefusesOrder cpus programs h names count o error.NoCpu)
        (same_order fields a.0 b.0 a.1 b.1) a.2) b.2

    both_pc_map : Why error.NoPc → Why error.NoMap → ⊥
    both_pc_map a b = pc_or_map b.0 (subst (λ (o : Order). RefusesOrder cpus programs h names count o error.NoPc) (same_order fields a.0 b.0 a.1 b.1) a.2) b.2

    both_cpu_turns : Why error.NoCpu → Why error.BadOperand → ⊥
    both_cpu_turns a b = cpu_or_turns b.0 (subst (λ (o : Order). RefusesOrder cpus programs h names count o error.NoCpu)
        (same_order fields a.0 b.0 a.1 b.1) a.2) b.2

    both_pc_turns : Why error.NoPc → Why error.BadOperand → ⊥
    both_pc_turns a b = pc_or_turns b.0 (subst (λ (o : Order). RefusesOrder cpus programs h names count o error.NoPc)
        (same_order fields a.0 b.0 a.1 b.1) a.2) b.2

    both_map_turns : Why error.NoMap → Why error.BadOperand → ⊥
    both_map_turns a b = map_or_turns b.0 (subst (λ (o : Order). RefusesOrder cpus programs h names count o error.NoMap)
        (same_order fields a.0 b.0 a.1 b.1) a.2) b.2

    bad : Why error.BadCommand → (order : Order) → order_of fields ≡ Some order → ⊥
    bad a order said = let both : None ≡ Some order = sym a.1 ∙ said in cc

    one_reason : (e f : DebugError) → e ≢ error.OutOfMemory → f ≢ error.OutOfMemory → Why e → Why f → e ≡ f
    one_reason error.NoCpu error.NoCpu n m a b = refl
    one_reason error.NoCpu error.NoPc n m a b = absurd (both_cpu_pc a b)
    one_reason error.NoCpu error.NoMap n m a b = absurd (both_cpu_map a b)
    one_reason error.NoCpu error.BadCommand n m a b = absurd (bad b a.0 a.1)
    one_reason error.NoPc error.NoCpu n m a b = absurd (both_cpu_pc b a)
    one_reason error.NoPc error.NoPc n m a b = refl
    one_reason error.NoPc error.NoMap n m a b = absurd (both_pc_map a b)
    one_reason error.NoPc error.BadCommand n m a b = absurd (bad b a.0 a.1)
    one_reason error.NoMap error.NoCpu n m a b = absurd (both_cpu_map b a)
    one_reason error.NoMap error.NoPc n m a b = absurd (both_pc_map b a)
    one_reason error.NoMap error.NoMap n m a b = refl
    one_reason error.NoMap error.BadCommand n m a b = absurd (bad b a.0 a.1)
    one_reason error.BadCommand error.NoCpu n m a b = absurd (bad a b.0 b.1)
    one_reason error.BadCommand error.NoPc n m a b = absurd (bad a b.0 b.1)
    one_reason error.BadCommand error.NoMap n m a b = absurd (bad a b.0 b.1)
    one_reason error.BadCommand error.BadCommand n m a b = refl
    one_reason error.NoCpu error.BadOperand n m a b = absurd (both_cpu_turns a b)
    one_reason error.NoPc error.BadOperand n m a b = absurd (both_pc_turns a b)
    one_reason error.NoMap error.BadOperand n m a b = absurd (both_map_turns a b)
    one_reason error.BadCommand error.BadOperand n m a b = absurd (bad a b.0 b.1)
    one_reason error.BadOperand error.NoCpu n m a b = absurd (both_cpu_turns b a)
    one_reason error.BadOperand error.NoPc n m a b = absurd (both_pc_turns b a)
    one_reason error.BadOperand error.NoMap n m a b = absurd (both_map_turns b a)
    one_reason error.BadOperand error.BadCommand n m a b = absurd (bad b a.0 a.1)
    one_reason error.BadOperand error.BadOperand n m a b = refl
    one_reason error.OutOfMemory f n m a b = absurd (n refl)
    one_reason e error.OutOfMemory n m a b = absurd (m refl)

-- ---- what is done
module _ (law : WritesAreDetermined) (begins : OneInstructionBegins) (replies : CallsHaveOneReply) where
  -- a CPU that has made a turn, and is at a breakpoint, makes no other
  stops_here : (breaks : List Breakpoint) (w : World) (gone : List ℕ) (c d p : ℕ) → IsWorld w → c ≡ d → has_gone gone c ≡ true → StandsAt
      w.jobs c p → has_break breaks c p ≡ true
      → (has_gone gone d ≡ false) ⊎ ((q : ℕ) × StandsAt w.jobs d q × (has_break breaks d q ≡ false)) → ⊥
  stops_here breaks w gone c d p world same went stands break (inl never) =
      let both : true ≡ false = sym went ∙ ap (has_gone gone) same ∙ never in cc
  stops_here breaks w gone c d p world same went stands break (inr (q, there, none)) =
      let P : ℕ → Type 0 = λ n. StandsAt w.jobs n q in
      let place : p ≡ q = one_place w world c p q stands (subst P (sym same) there) in
      let both : true ≡ false = sym break ∙ ap (λ (n : ℕ). has_break breaks n p) same ∙ ap (has_break breaks d) place ∙ none in cc

  record OneGo (text other : List ℕ) (y z : World) : Type 0 where
    texts : text ≡ other
    worlds : y ≡ z
    world : IsWorld y

  one_go : (breaks : List Breakpoint) (watch : Option Watched) (low high : ℕ) (w : World) («from» : ℕ)
      (gone turns others text other : List ℕ) (y z : World) → IsWorld w
      → Goes breaks watch low high w «from» gone turns text y → Goes breaks watch low high w «from» gone others other z → (turns ≡ others) ×
      OneGo text other y z
  one_go breaks watch low high w «from» gone turns others text other y z world (Done idle) (Done still) =
      (refl, record { texts = refl; worlds = refl; world = world })
  one_go breaks watch low high w «from» gone turns others text other y z world (Done idle) (Stops {c = c} up went stands break) = absurd
      (idle_not_up w.jobs low high c idle up.works up.above up.within)
  one_go breaks watch low high w «from» gone turns others text other y z world (Done idle) (Turns {c = c} up may takes still goes) = absurd
      (idle_not_up w.jobs low high c idle up.works up.above up.within)
  one_go breaks watch low high w «from» gone turns others text other y z world (Stops {c = c} up went stands break) (Done idle) = absurd
      (idle_not_up w.jobs low high c idle up.works up.above up.within)
  one_go breaks watch low high w «from» gone turns others text other y z world (Stops {c = c} {p = p} up went stands break)
      (Stops {c = d} {p = q} up' went' stands' break') =
      let same : c ≡ d = one_up w.jobs low high «from» c d up up' in
      let P : ℕ → Type 0 = λ n. StandsAt w.jobs n q in
      let place : p ≡ q = one_place w world c p q stands (subst P (sym same) stands') in
      (refl, record { texts = ap (λ (n : ℕ). stop_line n p) same ∙ ap (stop_line d) place; worlds = refl; world = world })
  one_go breaks watch low high w «from» gone turns others text other y z world (Stops {c = c} {p = p} up went stands break)
      (Turns {c = d} up' may takes still goes) =
      absurd (stops_here breaks w gone c d p world (one_up w.jobs low high «from» c d up up') went stands break may)
  one_go breaks watch low high w «from» gone turns others text other y z world (Turns {c = c} up may takes still goes) (Done idle) = absurd
      (idle_not_up w.jobs low high c idle up.works up.above up.within)
  one_go breaks watch low high w «from» gone turns others text other y z world (Turns {c = d} up' may takes still goes)
      (Stops {c = c} {p = p} up went stands break) =
      absurd (stops_here breaks w gone c d p world (one_up w.jobs low high «from» c d up up') went stands break may)
  one_go breaks watch low high w «from» gone turns others text other y z world
      (Turns {c = c} {answer = answer} {m = m} {turns = ts} {text = more} up may takes still goes)
      (Turns {c = d} {answer = reply} {m = n} {turns = us} {text = rest} up' may' takes' still' goes') =
      let same : d ≡ c = one_up w.jobs low high «from» d c up' up in
      let P : ℕ → Type 0 = λ e. TakesTurn w e reply n in
      let one = one_turn law begins replies w c answer reply m n world takes (subst P same takes') in
      let Q : ℕ → Type 0 = λ e. Goes breaks watch low high n (e + 1) (e ∷ gone) us rest z in
      let R : World → Type 0 = λ x. Goes breaks watch low high x (c + 1) (c ∷ gone) us rest z in
      let go = one_go breaks watch low high m (c + 1) (c ∷ gone) ts us more rest y z one.world goes (subst R (sym one.worlds) (subst Q same goes')) in (
        ap (λ (e : ℕ). e ∷ ts) (sym same) ∙ ap (λ (cs : List ℕ). d ∷ cs) go.0,
        record {
          texts = ap (λ (t : Turn). ended_text c t ++ more) one.answers
              ∙ ap (λ (e : ℕ). ended_text e reply ++ more) (sym same)
              ∙ ap (λ (t : List ℕ). ended_text d reply ++ t) go.1.texts;
          worlds = go.1.worlds;
          world = go.1.world;
        },
      )
  one_go breaks watch low high w «from» gone turns others text other y z world (Done idle) (Changes {c = c} up may takes differs) = absurd
      (idle_not_up w.jobs low high c idle up.works up.above up.within)
  one_go breaks watch low high w «from» gone turns others text other y z world (Changes {c = c} up may takes differs) (Done idle) = absurd
      (idle_not_up w.jobs low high c idle up.works up.above up.within)
  one_go breaks watch low high w «from» gone turns others text other y z world (Stops {c = c} {p = p} up went stands break)
      (Changes {c = d} up' may takes differs) =
      absurd (stops_here breaks w gone c d p world (one_up w.jobs low high «from» c d up up') went stands break may)
  one_go breaks watch low high w «from» gone turns others text other y z world (Changes {c = d} up' may takes differs)
      (Stops {c = c} {p = p} up went stands break) =
      absurd (stops_here breaks w gone c d p world (one_up w.jobs low high «from» c d up up') went stands break may)
  one_go breaks watch low high w «from» gone turns others text other y z world
      (Changes {c = c} {answer = answer} {m = m} up may takes differs) (Changes {c = d} {answer = reply} {m = n} up' may' takes' differs') =
      let same : d ≡ c = one_up w.jobs low high «from» d c up' up in
      let P : ℕ → Type 0 = λ e. TakesTurn w e reply n in
      let one = one_turn law begins replies w c answer reply m n world takes (subst P same takes') in (
        ap (λ (e : ℕ). e ∷ []) (sym same),
        record {
          texts = ap (λ (t : Turn). ended_text c t ++ changed_line c) one.answers ∙ ap (λ (e : ℕ). ended_text e reply ++ changed_line e) (sym same);
          worlds = one.worlds;
          world = one.world;
        },
      )
  one_go breaks watch low high w «from» gone turns others text other y z world
      (Changes {c = c} {answer = answer} {m = m} up may takes differs) (Turns {c = d} {answer = reply} {m = n} up' may' takes' still' goes') =
      let same : d ≡ c = one_up w.jobs low high «from» d c up' up in
      let P : ℕ → Type 0 = λ e. TakesTurn w e reply n in
      let one = one_turn law begins replies w c answer reply m n world takes (subst P same takes') in
      absurd (differs (ap (λ (x : World). watched_values watch x.store) one.worlds ∙ still'))
  one_go breaks watch low high w «from» gone turns others text other y z world
      (Turns {c = c} {answer = answer} {m = m} up may takes still goes) (Changes {c = d} {answer = reply} {m = n} up' may' takes' differs') =
      let same : d ≡ c = one_up w.jobs low high «from» d c up' up in
      let P : ℕ → Type 0 = λ e. TakesTurn w e reply n in
      let one = one_turn law begins replies w c answer reply m n world takes (subst P same takes') in
      absurd (differs' (ap (λ (x : World). watched_values watch x.store) (sym one.worlds) ∙ still))

  one_turns : (w : World) (c n : ℕ) (text other : List ℕ) (y z : World) → IsWorld w → MakesTurns w c n text y → MakesTurns w c n other z → OneGo text other y z
  one_turns w c zero text other y z world a b =
      record { texts = a.0 ∙ sym b.0; worlds = a.1 ∙ sym b.1; world = subst (λ (v : World). IsWorld v) (sym a.1) world }
  one_turns w c (suc n) text other y z world a b =
      let so_far = one_turns w c n a.1 b.1 a.0 b.0 world a.3 b.3 in
      let P : World → Type 0 = λ v. TakesTurn v c b.2 z in
      let one = one_turn law begins replies a.0 c a.2 b.2 y z so_far.world a.4 (subst P (sym so_far.worlds) b.4) in
      record {
        texts = a.5 ∙ ap (λ (t : List ℕ). t ++ ended_text c a.2) so_far.texts ∙ ap (λ (t : Turn). b.1 ++ ended_text c t) one.answers ∙ sym b.5;
        worlds = one.worlds;
        world = one.world;
      }

  one_schedule : (w : World) (runs : List (ℕ × ℕ)) (text other : List ℕ) (y z : World) → IsWorld w → MakesRuns w runs text y → MakesRuns w
      runs other z → OneGo text other y z
  one_schedule w [] text other y z world a b =
      record { texts = a.0 ∙ sym b.0; worlds = a.1 ∙ sym b.1; world = subst (λ (v : World). IsWorld v) (sym a.1) world }
  one_schedule w (run ∷ runs) text other y z world a b =
      let first = one_turns w run.0 run.1 a.1 b.1 a.0 b.0 world a.3 b.3 in
      let P : World → Type 0 = λ v. MakesRuns v runs b.2 z in
      let rest = one_schedule a.0 runs a.2 b.2 y z first.world a.4 (subst P (sym first.worlds) b.4) in
      record {
        texts = a.5 ∙ ap (λ (t : List ℕ). t ++ a.2) first.texts ∙ ap (λ (t : List ℕ). b.1 ++ t) rest.texts ∙ sym b.5;
        worlds = rest.worlds;
        world = rest.world;
      }

  -- ---- turns made again
  record OneRecall (past other : Option Past) (y z : World) : Type 0 where
    pasts : past ≡ other
    worlds : y ≡ z
    world : IsWorld y
    sound : IsSoundPast past

  sound_after : (b : Bool) (w : World) (answer : Turn) (old : Option Past) → IsWorld w → IsSoundPast old → IsSoundPast
      (if b then Some (record { before = w; answer = answer }) else old)
  sound_after true w answer old world sound = world
  sound_after false w answer old world sound = sound

  one_recall : (k : Kind) (c : ℕ) (w : World) (old : Option Past) (turns : List ℕ) (past other : Option Past) (y z : World) → IsWorld w → IsSoundPast old
      → Recalls k c w old turns past y → Recalls k c w old turns other z → OneRecall past other y z
  one_recall k c w old [] past other y z world sound a b = record {
    pasts = a.0 ∙ sym b.0;
    worlds = a.1 ∙ sym b.1;
    world = subst (λ (v : World). IsWorld v) (sym a.1) world;
    sound = subst (λ (p : Option Past). IsSoundPast p) (sym a.0) sound;
  }
  one_recall k c w old (d ∷ turns) past other y z world sound a b =
      let one = one_turn law begins replies w d a.0 b.0 a.1 b.1 world a.2 b.2 in
      let P : World → Type 0 = λ m. Recalls k c m (past_after k c w d b.0 old) turns other z in
      let Q : Turn → Type 0 = λ answer. Recalls k c a.1 (past_after k c w d answer old) turns other z in
      one_recall k c a.1 (past_after k c w d a.0 old) turns past other y z one.world (sound_after ((d == c) && is_of k a.0) w a.0 old world sound) a.3
      (subst Q (sym one.answers) (subst P (sym one.worlds) b.3))

  one_last : (c : ℕ) (past : Option Past) (w : World) (text other : List ℕ) → IsWorld w → IsSoundPast past → IsLastText c past w.jobs text →
      IsLastText c past w.jobs other → text ≡ other
  one_last c None w text other world sound a b = one_where w world c text other a b
  one_last c (Some past) w text other world sound a b =
      a.2 ∙ ap (λ (t : List ℕ). ended_text c past.answer ++ t) (one_stand_text past.before sound c a.0 b.0 a.1 b.1) ∙ sym b.2

  same_again : (k : Kind) (c : ℕ) (x y : Scene) (past : Option Past) (m : World) → IsFresh x.first → IsCourse x → Recalls k c x.first None
      x.turns past m → y ≡ record x { world = m } → y ≡ x
  same_again k c x y past m fresh course again is =
      let first = fresh_world law begins replies x.first fresh in
      is ∙ ap (λ (w : World). record x { world = w })
      (one_run law begins replies x.turns x.first m x.world first (recalls_run k c x.first None x.turns past m again) course)

  pub recalls_change_nothing : RecallsChangeNothing
  recalls_change_nothing x y (Some c) text fresh course (inl (has, a)) = same_again kind.Ends c x y a.0 a.1 fresh course a.2 a.4
  recalls_change_nothing x y (Some c) text fresh course (inr (has, inl off)) = off.1
  recalls_change_nothing x y (Some c) text fresh course (inr (has, inr a)) = same_again kind.Works c x y a.0 a.1 fresh course a.2 a.4
  recalls_change_nothing x y None text fresh course (inl f) = absurd f
  recalls_change_nothing x y None text fresh course (inr f) = absurd f

  -- ---- a command, and a line
  record OneEnd (text other : List ℕ) (y z : Scene) : Type 0 where
    texts : text ≡ other
    scenes : y ≡ z
    world : IsWorld y.world
    first : IsWorld y.first

  -- a question has one answer
  one_answer_to : (x : Scene) (order : Order) (text other : List ℕ) → IsWorld x.world → KeysHaveOwnValues x.world.store → Answers x order
      text → Answers x order other → text ≡ other
  one_answer_to x (Registers (Some c)) text other world own a b = one_registers x.world world c text other a.1 b.1
  one_answer_to x (Registers None) text other world own a b = absurd a
  one_answer_to x (Where (Some c)) text other world own a b = one_where x.world world c text other a.1 b.1
  one_answer_to x (Where None) text other world own a b = absurd a
  one_answer_to x (Memory (Some c) at n) text other world own a b = one_memory x.world world c at n text other a.1 b.1
  one_answer_to x (Memory None at n) text other world own a b = absurd a
  one_answer_to x (Map name) text other world own a b =
      let same = one_name x.names.maps name a.0 b.0 a.1 b.1 in
      let P : ℕ → Type 0 = λ m. IsTableText x.world.store x.names.maps m other in
      one_table x.world.store x.names.maps a.0 text other a.2 (subst P (sym same) b.2)
  one_answer_to x (Keys name) text other world own a b =
      let same = one_name x.names.maps name a.0 b.0 a.1 b.1 in
      let P : ℕ → Type 0 = λ m. AreKeysOf x.world.store m other in
      one_table_keys x.world.store a.0 text other a.2 (subst P (sym same) b.2)
  one_answer_to x Schedule text other world own a b = a ∙ sym b
  one_answer_to x Maps text other world own a b = a ∙ sym b
  one_answer_to x Variables text other world own a b = a ∙ sym b
  one_answer_to x (Number name) text other world own a b =
      let both : Some a.0 ≡ Some b.0 = sym a.1 ∙ b.1 in
      let same : a.0 ≡ b.0 = cc in
      a.2 ∙ ap (λ (v : Variable). number_text v (fixed_of x.world.store v.array 0 0)) same ∙ sym b.2
  one_answer_to x Jobs text other world own a b = a ∙ sym b
  one_answer_to x (Watch name word) text other world own a b = absurd a
  one_answer_to x (WatchVariable name) text other world own a b = absurd a
  one_answer_to x Unwatch text other world own a b = absurd a
  one_answer_to x (Mark n) text other world own a b = a ∙ sym b
  one_answer_to x Help text other world own a b = a ∙ sym b
  one_answer_to x (Held (Some c)) text other world own a b = one_held_text x.world world own x.names.maps c text other a.1 b.1
  one_answer_to x (Nearby (Some c)) text other world own a b = one_nearby x.world world begins c text other a.1 b.1
  one_answer_to x (Held None) text other world own a b = absurd a
  one_answer_to x (Nearby None) text other world own a b = absurd a
  one_answer_to x (Back n) text other world own a b = absurd a
  one_answer_to x (GoTo c p) text other world own a b = absurd a
  one_answer_to x (Break c p) text other world own a b = absurd a
  one_answer_to x (Delete c p) text other world own a b = absurd a
  one_answer_to x (Step c) text other world own a b = absurd a
  one_answer_to x (Show c) text other world own a b = absurd a
  one_answer_to x (Last c) text other world own a b = absurd a
  one_answer_to x (StepTimes c n) text other world own a b = absurd a
  one_answer_to x (Steps runs) text other world own a b = absurd a
  one_answer_to x Go text other world own a b = absurd a

  asked : (x y z : Scene) (order : Order) (text other : List ℕ) → IsWorld x.world → IsWorld x.first → KeysHaveOwnValues x.world.store →
      Answers x order text × (y ≡ x) → Answers x order other × (z ≡ x) → OneEnd text other y z
  asked x y z order text other world first own a b = record {
    texts = one_answer_to x order text other world own a.0 b.0;
    scenes = a.1 ∙ sym b.1;
    world = subst (λ (s : Scene). IsWorld s.world) (sym a.1) world;
    first = subst (λ (s : Scene). IsWorld s.first) (sym a.1) first;
  }

  went_alike : (x y z : Scene) (turns others text other : List ℕ) (m n : World) → IsWorld x.first → (turns ≡ others) × OneGo text other m n
      → y ≡ behind x turns m → z ≡ behind x others n → OneEnd text other y z
  went_alike x y z turns others text other m n first both a b = record {
    texts = both.1.texts;
    scenes = a ∙ ap (λ (w : World). behind x turns w) both.1.worlds ∙ ap (λ (cs : List ℕ). behind x cs n) both.0 ∙ sym b;
    world = subst (λ (s : Scene). IsWorld s.world) (sym a) both.1.world;
    first = subst (λ (s : Scene). IsWorld s.first) (sym a) first;
  }

  one_follow : (x y z : Scene) (order : Order) (text other : List ℕ) → IsWorld x.world → IsWorld x.first → KeysHaveOwnValues x.world.store →
      CarriesOut x order text y → CarriesOut x order other z → OneEnd text other y z
  one_follow x y z (Break (Some c) (Some p)) text other world first own a b = record {
    texts = a.1.1 ∙ sym b.1.1;
    scenes = a.1.2 ∙ sym b.1.2;
    world = subst (λ (s : Scene). IsWorld s.world) (sym a.1.2) world;
    first = subst (λ (s : Scene). IsWorld s.first) (sym a.1.2) first;
  }
  one_follow x y z (Delete (Some c) (Some p)) text other world first own a b = record {
    texts = a.1.1 ∙ sym b.1.1;
    scenes = a.1.2 ∙ sym b.1.2;
    world = subst (λ (s : Scene). IsWorld s.world) (sym a.1.2) world;
    first = subst (λ (s : Scene). IsWorld s.first) (sym a.1.2) first;
  }
  one_follow x y z (Delete (Some c) None) text other world first own a b = absurd a
  one_follow x y z (Delete None p) text other world first own a b = absurd a
  one_follow x y z (Break (Some c) None) text other world first own a b = absurd a
  one_follow x y z (Break None p) text other world first own a b = absurd a
  one_follow x y z (Watch name word) text other world first own a b =
      let map : a.0 ≡ b.0 = one_name x.names.maps name a.0 b.0 a.3 b.3 in
      let both : Some (a.1, a.2) ≡ Some (b.1, b.2) = sym a.4 ∙ ap (λ (m : ℕ). chosen_in x.world.store.shape m word) map ∙ b.4 in
      let same : (a.1, a.2) ≡ (b.1, b.2) = cc in
      record {
        texts = a.5 ∙ ap (λ (c : Chosen). watch_line name c.1) same ∙ sym b.5;
        scenes = a.6 ∙ ap (λ (c : Chosen). record x { watch = Some c.0 }) same ∙ sym b.6;
        world = subst (λ (s : Scene). IsWorld s.world) (sym a.6) world;
        first = subst (λ (s : Scene). IsWorld s.first) (sym a.6) first;
      }
  one_follow x y z (WatchVariable name) text other world first own a b =
      let both : Some a.0 ≡ Some b.0 = sym a.1 ∙ b.1 in
      let same : a.0 ≡ b.0 = cc in
      record {
        texts = a.2 ∙ ap (λ (v : Variable). variable_watch_line v.name) same ∙ sym b.2;
        scenes = a.3 ∙ ap (λ (v : Variable). record x { watch = Some (variable_watched v) }) same ∙ sym b.3;
        world = subst (λ (s : Scene). IsWorld s.world) (sym a.3) world;
        first = subst (λ (s : Scene). IsWorld s.first) (sym a.3) first;
      }
  one_follow x y z Unwatch text other world first own a b = record {
    texts = a.0 ∙ sym b.0;
    scenes = a.1 ∙ sym b.1;
    world = subst (λ (s : Scene). IsWorld s.world) (sym a.1) world;
    first = subst (λ (s : Scene). IsWorld s.first) (sym a.1) first;
  }
  one_follow x y z (Step (Some c)) text other world first own (has, a) (had, b) =
      let one = one_turn law begins replies x.world c a.0 b.0 a.1 b.1 world a.3 b.3 in
      let P : World → Type 0 = λ w. IsWhere w.jobs c b.2 in
      let place = one_where a.1 one.world c a.2 b.2 a.4 (subst P (sym one.worlds) b.4) in
      record {
        texts = a.5 ∙ ap (λ (t : Turn). ended_text c t ++ a.2) one.answers ∙ ap (λ (t : List ℕ). ended_text c b.0 ++ t) place ∙ sym b.5;
        scenes = a.6 ∙ ap (λ (w : World). behind x (c ∷ []) w) one.worlds ∙ sym b.6;
        world = subst (λ (s : Scene). IsWorld s.world) (sym a.6) one.world;
        first = subst (λ (s : Scene). IsWorld s.first) (sym a.6) first;
      }
  one_follow x y z (StepTimes (Some c) n) text other world first own (has, a) (had, b) =
      let one = one_turns x.world c n a.1 b.1 a.0 b.0 world a.3 b.3 in
      let P : World → Type 0 = λ w. IsWhere w.jobs c b.2 in
      let place = one_where a.0 one.world c a.2 b.2 a.4 (subst P (sym one.worlds) b.4) in
      record {
        texts = a.5 ∙ ap (λ (t : List ℕ). t ++ a.2) one.texts ∙ ap (λ (t : List ℕ). b.1 ++ t) place ∙ sym b.5;
        scenes = a.6 ∙ ap (λ (w : World). behind x (replicate n c) w) one.worlds ∙ sym b.6;
        world = subst (λ (s : Scene). IsWorld s.world) (sym a.6) one.world;
        first = subst (λ (s : Scene). IsWorld s.first) (sym a.6) first;
      }
  one_follow x y z (Steps runs) text other world first own (has, a) (had, b) =
      let one = one_schedule x.world runs a.1 b.1 a.0 b.0 world a.3 b.3 in
      let P : World → Type 0 = λ w. IsWhere w.jobs (last_cpu runs) b.2 in
      let place = one_where a.0 one.world (last_cpu runs) a.2 b.2 a.4 (subst P (sym one.worlds) b.4) in
      record {
        texts = a.5 ∙ ap (λ (t : List ℕ). t ++ a.2) one.texts ∙ ap (λ (t : List ℕ). b.1 ++ t) place ∙ sym b.5;
        scenes = a.6 ∙ ap (λ (w : World). behind x (unrolled runs) w) one.worlds ∙ sym b.6;
        world = subst (λ (s : Scene). IsWorld s.world) (sym a.6) one.world;
        first = subst (λ (s : Scene). IsWorld s.first) (sym a.6) first;
      }
  one_follow x y z (StepTimes None n) text other world first own a b = absurd a
  one_follow x y z (Step None) text other world first own a b = absurd a
  one_follow x y z (Show None) text other world first own a b = absurd a
  one_follow x y z (Last None) text other world first own a b = absurd a
  one_follow x y z Go text other world first own a b =
      let both = one_go x.breaks x.watch 0 x.world.store.shape.cpus x.world 0 [] a.1 b.1 text other a.0 b.0 world a.2 b.2 in
      went_alike x y z a.1 b.1 text other a.0 b.0 first both a.3 b.3
  one_follow x y z (GoTo (Some c) (Some p)) text other world first own (has, a) (had, b) =
      let u = a.1 in
      let v = b.1 in
      let both = one_go (record { cpu = c; pc = p } ∷ []) x.watch c (c + 1) x.world c [] u.1 v.1 text other u.0 v.0 world u.2 v.2 in
      went_alike x y z u.1 v.1 text other u.0 v.0 first both u.3 v.3
  one_follow x y z (GoTo (Some c) None) text other world first own a b = absurd a
  one_follow x y z (GoTo None p) text other world first own a b = absurd a
  one_follow x y z (Back n) text other world first own a b =
      let back = turns_before x.turns n in
      let u = a.1 in
      let v = b.1 in
      let one : u.0 ≡ v.0 = one_run law begins replies back x.first u.0 v.0 first u.1 v.1 in
      let there : IsWorld u.0 = runs_world law begins replies back x.first u.0 first u.1 in
      let P : World → Type 0 = λ w. IsWhere w.jobs (cpu_before x.turns n) other in
      record {
        texts = one_where u.0 there (cpu_before x.turns n) text other u.2 (subst P (sym one) v.2);
        scenes = u.3 ∙ ap (λ (w : World). undone x n w) one ∙ sym v.3;
        world = subst (λ (s : Scene). IsWorld s.world) (sym u.3) there;
        first = subst (λ (s : Scene). IsWorld s.first) (sym u.3) first;
      }
  one_follow x y z (Last (Some c)) text other world first own (has, a) (had, b) =
      let one = one_recall kind.Ends c x.first None x.turns a.0 b.0 a.1 b.1 first tt a.2 b.2 in
      let P : World → Type 0 = λ w. IsLastText c a.0 w.jobs other in
      let Q : Option Past → Type 0 = λ p. IsLastText c p b.1.jobs other in
      record {
        texts = one_last c a.0 a.1 text other one.world one.sound a.3 (subst P (sym one.worlds) (subst Q (sym one.pasts) b.3));
        scenes = a.4 ∙ ap (λ (w : World). record x { world = w }) one.worlds ∙ sym b.4;
        world = subst (λ (s : Scene). IsWorld s.world) (sym a.4) one.world;
        first = subst (λ (s : Scene). IsWorld s.first) (sym a.4) first;
      }
  one_follow x y z (Show (Some c)) text other world first own (has, inl a) (had, inl b) = record {
    texts = one_off x.world.jobs c text other a.0 b.0;
    scenes = a.1 ∙ sym b.1;
    world = subst (λ (s : Scene). IsWorld s.world) (sym a.1) world;
    first = subst (λ (s : Scene). IsWorld s.first) (sym a.1) first;
  }
  one_follow x y z (Show (Some c)) text other world first own (has, inl a) (had, inr b) = absurd
      (off_free x.world.jobs c text a.0 b.3.0 b.3.1 b.3.2 b.3.3 b.3.6)
  one_follow x y z (Show (Some c)) text other world first own (has, inr a) (had, inl b) = absurd
      (off_free x.world.jobs c other b.0 a.3.0 a.3.1 a.3.2 a.3.3 a.3.6)
  one_follow x y z (Show (Some c)) text other world first own (has, inr a) (had, inr b) =
      let one = one_recall kind.Works c x.first None x.turns a.0 b.0 a.1 b.1 first tt a.2 b.2 in
      let Q : Option Past → Type 0 = λ p. IsShownText c x.names p x.world other in
      record {
        texts = one_shown_text x.world world own c x.names a.0 text other one.sound a.3 (subst Q (sym one.pasts) b.3);
        scenes = a.4 ∙ ap (λ (w : World). record x { world = w }) one.worlds ∙ sym b.4;
        world = subst (λ (s : Scene). IsWorld s.world) (sym a.4) one.world;
        first = subst (λ (s : Scene). IsWorld s.first) (sym a.4) first;
      }
  one_follow x y z Help text other world first own a b = asked x y z Help text other world first own a b
  one_follow x y z (Held c) text other world first own a b = asked x y z (Held c) text other world first own a b
  one_follow x y z (Nearby c) text other world first own a b = asked x y z (Nearby c) text other world first own a b
  one_follow x y z Maps text other world first own a b = asked x y z Maps text other world first own a b
  one_follow x y z Variables text other world first own a b = asked x y z Variables text other world first own a b
  one_follow x y z (Number name) text other world first own a b = asked x y z (Number name) text other world first own a b
  one_follow x y z Jobs text other world first own a b = asked x y z Jobs text other world first own a b
  one_follow x y z (Mark n) text other world first own a b = asked x y z (Mark n) text other world first own a b
  one_follow x y z (Registers c) text other world first own a b = asked x y z (Registers c) text other world first own a b
  one_follow x y z (Where c) text other world first own a b = asked x y z (Where c) text other world first own a b
  one_follow x y z (Memory c at n) text other world first own a b = asked x y z (Memory c at n) text other world first own a b
  one_follow x y z (Map name) text other world first own a b = asked x y z (Map name) text other world first own a b
  one_follow x y z (Keys name) text other world first own a b = asked x y z (Keys name) text other world first own a b
  one_follow x y z Schedule text other world first own a b = asked x y z Schedule text other world first own a b

  one_line : (x y z : Scene) (fields : List (List ℕ)) (text other : List ℕ) → IsWorld x.world → IsWorld x.first → KeysHaveOwnValues
      x.world.store → Obeys x fields text y → Obeys x fields other z → OneEnd text other y z
  one_line x y z [] text other world first own a b = record {
    texts = a.0 ∙ sym b.0;
    scenes = a.1 ∙ sym b.1;
    world = subst (λ (s : Scene). IsWorld s.world) (sym a.1) world;
    first = subst (λ (s : Scene). IsWorld s.first) (sym a.1) first;
  }
  one_line x y z (f ∷ fs) text other world first own a b =
      let P : Order → Type 0 = λ order. CarriesOut x order other z in
      one_follow x y z a.0 text other world first own a.2 (subst P (same_order (f ∷ fs) b.0 a.0 b.1 a.1) b.2)

  -- ---- a script
  record OneAnswer (answer other : Answer) (y z : Scene) : Type 0 where
    answers : answer ≡ other
    scenes : y ≡ z
    world : IsWorld y.world
    first : IsWorld y.first

  one_answer : (x y z : Scene) (line : List ℕ) (answer other : Answer) → IsWorld x.world → IsWorld x.first → KeysHaveOwnValues x.world.store
      → AnswersLine x line answer y → AnswersLine x line other z
      → answer ≢ Err error.OutOfMemory → other ≢ Err error.OutOfMemory → OneAnswer answer other y z
  one_answer x y z line (Ok text) (Ok other) world first own a b n m =
      let one = one_line x y z (fields_of line) text other world first own a b in
      record { answers = ap (λ (t : List ℕ). Ok t) one.texts; scenes = one.scenes; world = one.world; first = one.first }
  one_answer x y z line (Ok text) (Err e) world first own a b n m = absurd
      (line_refused x y (fields_of line) text e a (λ is. m (ap (λ (f : DebugError). Err f) is)) b.0)
  one_answer x y z line (Err e) (Ok text) world first own a b n m = absurd
      (line_refused x z (fields_of line) text e b (λ is. n (ap (λ (f : DebugError). Err f) is)) a.0)
  one_answer x y z line (Err e) (Err f) world first own a b n m =
      let same = one_reason x.world.store.shape.cpus x.world.programs x.world.store.shape x.names (Some (length x.turns)) (fields_of line) e
      f (λ is. n (ap (λ (g : DebugError). Err g) is)) (λ is. m (ap (λ (g : DebugError). Err g) is)) a.0 b.0 in
      record {
        answers = ap (λ (g : DebugError). Err g) same;
        scenes = a.1 ∙ sym b.1;
        world = subst (λ (s : Scene). IsWorld s.world) (sym a.1) world;
        first = subst (λ (s : Scene). IsWorld s.first) (sym a.1) first;
      }

  one_script : (x y z : Scene) (lines : List (List ℕ)) (answers others : List Answer) → IsWorld x.world → IsWorld x.first → AreOwn x →
      RunsScript x lines answers y → RunsScript x lines others z
      → HadMemory answers → HadMemory others → (answers ≡ others) × (y ≡ z)
  one_script x y z [] [] [] world first own a b n m = (refl, a ∙ sym b)
  one_script x y z [] [] (c ∷ cs) world first own a b n m = absurd b
  one_script x y z [] (c ∷ cs) others world first own a b n m = absurd a
  one_script x y z (l ∷ ls) [] others world first own a b n m = absurd a
  one_script x y z (l ∷ ls) (c ∷ cs) [] world first own a b n m = absurd b
  one_script x y z (l ∷ ls) (c ∷ cs) (d ∷ ds) world first own a b n m =
      let one = one_answer x a.0 b.0 l c d world first own.world.1 a.1 b.1 n.0 m.0 in
      let P : Scene → Type 0 = λ s. RunsScript s ls ds z in
      let rest = one_script a.0 y z ls cs ds one.world one.first (answer_keeps x a.0 l c own a.1) a.2 (subst P (sym one.scenes) b.2) n.1 m.1 in
      (ap (λ (e : Answer). e ∷ cs) one.answers ∙ ap (λ (es : List Answer). d ∷ es) rest.0, rest.1)

  pub scripts_are_determined : ScriptsAreDetermined
  scripts_are_determined x y z lines answers others now before a b n m =
      let own : AreOwn x = record { world = (now.fresh.store, now.own); first = (before.fresh.store, before.own) } in
      one_script x y z lines answers others (fresh_world law begins replies x.world now.fresh) (fresh_world law begins replies x.first before.fresh) own a b n m
