-- What follows from the definitions of commands and scripts: any order of turns is spelled by
-- `step` commands, questions change nothing, and a script has one list of answers.
use Rattle.std.specs.Prelude.{◌≡◌, ◌≢◌, ℕ, ◌≤◌, true, List, [], ◌∷◌, ◌++◌, Option, ◌⊎◌, All, Err, codes, map}
use Rattle.std.specs.List.{list_all}
use Rattle.std.specs.Fmt.{decimal}
use Rattle.bpf_shared.specs.Store.{Plain, Finds}
use Rattle.bpf_machine.specs.Laws.{IsFresh}
use Rattle.bpf_machine.specs.Schedule.{World, RunsSchedule, unrolled}
use Rattle.bpf_debug.specs.declared.error.DebugError.TheVariants as error
use Rattle.bpf_debug.specs.Command.{Order, Break, Delete, Step, StepTimes, Steps, Go, Registers, Where, Memory, Map, Keys, Schedule, GoTo}
use Rattle.bpf_debug.specs.Command.{Maps, Variables, Number, Jobs, Mark, Back, Help, Held, Nearby, Last, Show, Watch, WatchVariable}
use Rattle.bpf_debug.specs.Command.{Unwatch, is_short}
use Rattle.bpf_debug.specs.Course.{runs_of}
use Rattle.bpf_debug.specs.Session.{Scene, IsCpu, IsCourse, CarriesOut, behind}
use Rattle.bpf_debug.specs.Script.{Answer, RunsScript}

-- ---- turns

abbrev pub step_line : ℕ → List ℕ
step_line c = codes "step " ++ decimal c

-- a schedule of the machine's CPUs is spelled by a `step` command a turn: all are answered, and
-- they leave what the schedule leaves
abbrev pub StepsSpellSchedules : Type 0
StepsSpellSchedules =
    (x : Scene) (schedule : List ℕ) (z : World) → x.world.store.shape.cpus ≤ 16
    → All (IsCpu x) schedule → RunsSchedule x.world schedule z → (answers : List Answer)
    × RunsScript x (map step_line schedule) answers (behind x schedule z)

-- a `steps` of a schedule leaves what the script of its `step` commands, one a turn, leaves
abbrev pub SchedulesAreSteps : Type 0
SchedulesAreSteps =
    (x y : Scene) (runs : List (ℕ × ℕ)) (text : List ℕ) → x.world.store.shape.cpus ≤ 16
    → CarriesOut x (Steps runs) text y → (answers : List Answer)
    × RunsScript x (map step_line (unrolled runs)) answers y

-- the turns of a scene lead from its first machine to its own, and so they do after any script
abbrev pub ScriptsMakeTurns : Type 0
ScriptsMakeTurns =
    (x y : Scene) (lines : List (List ℕ)) (answers : List Answer) → RunsScript x lines answers y
    → IsCourse x → IsCourse y × (y.first ≡ x.first)

-- run lengths determine their turns, and `steps` takes them: no run is longer than one may be
abbrev pub RunsTellTurns : Type 0
RunsTellTurns =
    (turns : List ℕ) → (unrolled (runs_of turns) ≡ turns)
    × (list_all is_short (runs_of turns) ≡ true)

-- what the beginning of a script is answered is the beginning of what it is answered
abbrev pub BeginningsComeFirst : Type 0
BeginningsComeFirst =
    (x y : Scene) (lines more : List (List ℕ)) (answers : List Answer)
    → RunsScript x (lines ++ more) answers y → (m : Scene) × (first : List Answer)
    × (others : List Answer) × (answers ≡ first ++ others) × RunsScript x lines first m
    × RunsScript m more others y

-- ---- questions

abbrev pub IsQuestion : Order → Type 0
IsQuestion (Registers c) = Unit {0}
IsQuestion (Where c) = Unit {0}
IsQuestion (Memory c at n) = Unit {0}
IsQuestion (Map name) = Unit {0}
IsQuestion (Keys name) = Unit {0}
IsQuestion Schedule = Unit {0}
IsQuestion Maps = Unit {0}
IsQuestion Variables = Unit {0}
IsQuestion (Number name) = Unit {0}
IsQuestion Jobs = Unit {0}
IsQuestion (Mark n) = Unit {0}
IsQuestion Help = Unit {0}
IsQuestion (Held c) = Unit {0}
IsQuestion (Nearby c) = Unit {0}
IsQuestion (Back n) = ⊥
IsQuestion (Delete c p) = ⊥
IsQuestion (Break c p) = ⊥
IsQuestion (Watch name word) = ⊥
IsQuestion (WatchVariable name) = ⊥
IsQuestion Unwatch = ⊥
IsQuestion (Step c) = ⊥
IsQuestion (Show c) = ⊥
IsQuestion (Last c) = ⊥
IsQuestion (StepTimes c n) = ⊥
IsQuestion (Steps runs) = ⊥
IsQuestion Go = ⊥
IsQuestion (GoTo c p) = ⊥

-- a question changes nothing; a breakpoint makes no turn, and leaves the machine, and so does a watch
abbrev pub QuestionsChangeNothing : Type 0
QuestionsChangeNothing =
    ((x y : Scene) (order : Order) (text : List ℕ) → IsQuestion order → CarriesOut x order text y
    → y ≡ x)
    × ((x y : Scene) (c p : Option ℕ) (text : List ℕ) → CarriesOut x (Break c p) text y
    → (y.turns ≡ x.turns) × (y.world ≡ x.world))
    × ((x y : Scene) (c p : Option ℕ) (text : List ℕ) → CarriesOut x (Delete c p) text y
    → (y.turns ≡ x.turns) × (y.world ≡ x.world))
    × ((x y : Scene) (name word text : List ℕ)
    → CarriesOut x (Watch name word) text y ⊎ CarriesOut x (WatchVariable name) text y
    ⊎ CarriesOut x Unwatch text y → (y.turns ≡ x.turns) × (y.world ≡ x.world))

-- over a machine that was made by the scene's turns of one whose jobs all wait, what makes the turns
-- again changes nothing either
abbrev pub RecallsChangeNothing : Type 0
RecallsChangeNothing =
    (x y : Scene) (c : Option ℕ) (text : List ℕ) → IsFresh x.first → IsCourse x
    → CarriesOut x (Last c) text y ⊎ CarriesOut x (Show c) text y → y ≡ x

-- ---- one list of answers

-- memory was refused for none of them
abbrev pub HadMemory : List Answer → Type 0
HadMemory [] = Unit {0}
HadMemory (answer ∷ answers) = (answer ≢ Err error.OutOfMemory) × HadMemory answers

-- no two keys lead to one value: so it is in a store as made, and calls keep it so
abbrev pub KeysHaveOwnValues : Plain → Type 0
KeysHaveOwnValues s =
    (m n v : ℕ) (key other : List ℕ) → Finds s m key v → Finds s n other v → key ≡ other

-- what a script may begin with: all jobs wait, and each value has one key at most
pub record IsNew (w : World) : Type 0 where
  pub fresh : IsFresh w
  pub own : KeysHaveOwnValues w.store

-- over such a machine, that was such a one before its first turn, a script has one list of answers,
-- and leaves one machine, with the same breakpoints
abbrev pub ScriptsAreDetermined : Type 0
ScriptsAreDetermined =
    (x y z : Scene) (lines : List (List ℕ)) (answers others : List Answer) → IsNew x.world
    → IsNew x.first → RunsScript x lines answers y → RunsScript x lines others z
    → HadMemory answers → HadMemory others → (answers ≡ others) × (y ≡ z)
