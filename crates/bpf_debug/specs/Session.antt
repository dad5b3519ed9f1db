-- What commands do: the turns that each makes, what it answers, and why one is refused (our own
-- choice).
use Rattle.std.specs.Prelude.{◌≡◌, ℕ, ◌+◌, ◌<◌, ◌≤◌, replicate, Bool, true, false, nat_lt, if◌then◌else◌, ◌⊎◌, List, [], ◌∷◌, ◌++◌, Option}
use Rattle.std.specs.Prelude.{Some, None, length, slice_get}
use Rattle.std.specs.List.{list_all}
use Rattle.bpf_names.specs.Names.{Names, Variable, variable_named}
use Rattle.bpf_plain.specs.PlainStore.{shape_of}
use Rattle.bpf_shared.specs.Shape.{Shape}
use Rattle.bpf_loader.specs.Loaded.{Loaded}
use Rattle.bpf_loader.specs.Places.{IsStart}
use Rattle.bpf_machine.specs.declared.machine.Turn.{Turn}
use Rattle.bpf_machine.specs.Schedule.{World, TakesTurn, RunsSchedule, unrolled}
use Rattle.bpf_machine.specs.Machine.{MachineState, Shows}
use Rattle.bpf_debug.specs.declared.breakpoint.Breakpoint.{Breakpoint}
use Rattle.bpf_debug.specs.declared.error.DebugError.{DebugError}
use Rattle.bpf_debug.specs.declared.error.DebugError.TheVariants as error
use Rattle.bpf_debug.specs.declared.recall.Kind.TheVariants as kind
use Rattle.bpf_debug.specs.Command.{Order, Break, Delete, Step, StepTimes, Steps, Go, Registers, Where, Memory, Map, Keys, Schedule, GoTo}
use Rattle.bpf_debug.specs.Command.{Maps, Variables, Number, Jobs, Mark, Back, Help, Held, Nearby, Last, Show, Watch, WatchVariable}
use Rattle.bpf_debug.specs.Command.{Unwatch, order_of}
use Rattle.bpf_debug.specs.Answer.{IsOff, IsWhere, IsRegisters, ended_text, break_line, deleted_line, variable_watch_line, watch_line, unwatched_line}
use Rattle.bpf_debug.specs.Turns.{MakesTurns, MakesRuns, last_cpu}
use Rattle.bpf_debug.specs.Course.{AreFewer, IsKept, count_of, course_line, cpu_before, turns_before}
use Rattle.bpf_debug.specs.Go.{Goes, has_break, without_break}
use Rattle.bpf_debug.specs.Watch.{Watched, chosen_in, variable_watched}
use Rattle.bpf_jobs.specs.Printed.{variable_lines}
use Rattle.bpf_debug.specs.Told.{store_lines, told_jobs, mark_line}
use Rattle.bpf_debug.specs.Help.{help_text}
use Rattle.bpf_debug.specs.Held.{IsHeldText}
use Rattle.bpf_debug.specs.Nearby.{IsNearbyText}
use Rattle.bpf_debug.specs.Recall.{Past, Recalls, IsLastText}
use Rattle.bpf_debug.specs.Show.{IsShownText}
use Rattle.bpf_debug.specs.Read.{IsMemoryText, IsNamed, IsNoName, IsNumberText, IsTableText, AreKeysOf}

-- what callers see of a session: its machine, the same before the first turn, the names of the maps
-- by their numbers, the breakpoints, the value that is watched, and the turns made so far in run
-- lengths, where there was room for them
pub record SessionState : Type 0 where
  pub machine : MachineState
  pub first : MachineState
  pub names : Names
  pub breaks : List Breakpoint
  pub watch : Option Watched
  pub course : Option (List (ℕ × ℕ))

-- a plain machine with those, that before the first turn, and the turns that were made since
pub record Scene : Type 0 where
  pub world : World
  pub names : Names
  pub breaks : List Breakpoint
  pub watch : Option Watched
  pub first : World
  pub turns : List ℕ

pub record IsShown (s : SessionState) (x : Scene) : Type 0 where
  pub world : Shows s.machine x.world
  pub first : Shows s.first x.first
  pub names : x.names ≡ s.names
  pub breaks : x.breaks ≡ s.breaks
  pub watch : x.watch ≡ s.watch
  pub turns : IsKept s.course x.turns

-- the turns lead from the first machine to this one
abbrev pub IsCourse : Scene → Type 0
IsCourse x = RunsSchedule x.first x.turns x.world

-- the scene after some turns more, which lead to this machine
abbrev pub behind : Scene → List ℕ → World → Scene
behind x turns w = record x { world = w; turns = x.turns ++ turns }

-- the first machine with all turns but the last n
abbrev pub undone : Scene → ℕ → World → Scene
undone x n w = record x { world = w; turns = turns_before x.turns n }

-- some program has an instruction that begins at the pc
abbrev pub IsPc : List Loaded → ℕ → Type 0
IsPc programs p =
    (k : ℕ) × (program : Loaded) × (slice_get programs k ≡ Some program)
    × IsStart program.instructions p

-- these and one more, each once
abbrev pub with_break : List Breakpoint → ℕ → ℕ → List Breakpoint
with_break breaks c p =
    if has_break breaks c p then breaks else breaks ++ record { cpu = c; pc = p } ∷ []

-- ---- what a command does: what it answers, and what is there after it, with its turns

abbrev pub SetsBreak : Scene → ℕ → ℕ → List ℕ → Scene → Type 0
SetsBreak x c p text y =
    IsPc x.world.programs p × (text ≡ break_line c p)
    × (y ≡ record x { breaks = with_break x.breaks c p })

abbrev pub DeletesBreak : Scene → ℕ → ℕ → List ℕ → Scene → Type 0
DeletesBreak x c p text y =
    IsPc x.world.programs p × (text ≡ deleted_line c p)
    × (y ≡ record x { breaks = without_break x.breaks c p })

-- the word says a key of the first map of its name, or an index of the array; one thing is watched at
-- a time
abbrev pub SetsWatch : Scene → List ℕ → List ℕ → List ℕ → Scene → Type 0
SetsWatch x name word text y =
    (m : ℕ) × (w : Watched) × (key : List ℕ) × IsNamed x.names.maps name m
    × (chosen_in x.world.store.shape m word ≡ Some (w, key)) × (text ≡ watch_line name key)
    × (y ≡ record x { watch = Some w })

-- a variable's bytes
abbrev pub WatchesVariable : Scene → List ℕ → List ℕ → Scene → Type 0
WatchesVariable x name text y =
    (v : Variable) × (variable_named name x.names.variables ≡ Some v)
    × (text ≡ variable_watch_line v.name) × (y ≡ record x { watch = Some (variable_watched v) })

abbrev pub StepsCpu : Scene → ℕ → List ℕ → Scene → Type 0
StepsCpu x c text y =
    (answer : Turn) × (m : World) × (where_text : List ℕ) × TakesTurn x.world c answer m
    × IsWhere m.jobs c where_text × (text ≡ ended_text c answer ++ where_text)
    × (y ≡ behind x (c ∷ []) m)

abbrev pub StepsTimes : Scene → ℕ → ℕ → List ℕ → Scene → Type 0
StepsTimes x c n text y =
    (m : World) × (before : List ℕ) × (where_text : List ℕ) × MakesTurns x.world c n before m
    × IsWhere m.jobs c where_text × (text ≡ before ++ where_text)
    × (y ≡ behind x (replicate n c) m)

-- a schedule's turns
abbrev pub StepsRuns : Scene → List (ℕ × ℕ) → List ℕ → Scene → Type 0
StepsRuns x runs text y =
    (m : World) × (before : List ℕ) × (where_text : List ℕ) × MakesRuns x.world runs before m
    × IsWhere m.jobs (last_cpu runs) where_text × (text ≡ before ++ where_text)
    × (y ≡ behind x (unrolled runs) m)

-- rounds of all CPUs, up to a breakpoint or to a turn that changes the watched value
abbrev pub RunsOn : Scene → List ℕ → Scene → Type 0
RunsOn x text y =
    (m : World) × (turns : List ℕ)
    × Goes x.breaks x.watch 0 x.world.store.shape.cpus x.world 0 [] turns text m
    × (y ≡ behind x turns m)

-- the same of one CPU alone, up to one pc, whatever the breakpoints are
abbrev pub RunsTo : Scene → ℕ → ℕ → List ℕ → Scene → Type 0
RunsTo x c p text y =
    IsPc x.world.programs p × ((m : World) × (turns : List ℕ)
    × Goes (record { cpu = c; pc = p } ∷ []) x.watch c (c + 1) x.world c [] turns text m
    × (y ≡ behind x turns m))

-- the last turns are undone, this many, and where the CPU of the first of them is again
abbrev pub GoesBack : Scene → ℕ → List ℕ → Scene → Type 0
GoesBack x n text y =
    (n ≤ length x.turns) × ((m : World) × RunsSchedule x.first (turns_before x.turns n) m
    × IsWhere m.jobs (cpu_before x.turns n) text × (y ≡ undone x n m))

-- the turns are made again, and what the last of the CPU's that ended a job left is printed
abbrev pub TellsLast : Scene → ℕ → List ℕ → Scene → Type 0
TellsLast x c text y =
    (past : Option Past) × (m : World) × Recalls kind.Ends c x.first None x.turns past m
    × IsLastText c past m.jobs text × (y ≡ record x { world = m })

-- the same, and what the last of the CPU's changed is printed
abbrev pub ShowsTurn : Scene → ℕ → List ℕ → Scene → Type 0
ShowsTurn x c text y =
    (past : Option Past) × (m : World) × Recalls kind.Works c x.first None x.turns past m
    × IsShownText c x.names past x.world text × (y ≡ record x { world = m })

-- of a CPU with a job in hand, or where it is
abbrev pub ShowsCpu : Scene → ℕ → List ℕ → Scene → Type 0
ShowsCpu x c text y = (IsOff x.world.jobs c text × (y ≡ x)) ⊎ ShowsTurn x c text y

abbrev pub IsCpu : Scene → ℕ → Type 0
IsCpu x c = c < x.world.store.shape.cpus

-- each CPU of a schedule is one of this many
abbrev pub are_cpus : ℕ → List (ℕ × ℕ) → Bool
are_cpus cpus runs = list_all (λ run. nat_lt run.0 cpus) runs

-- what a question is answered: it makes no turn and changes nothing
abbrev pub Answers : Scene → Order → List ℕ → Type 0
Answers x (Registers (Some c)) text = IsCpu x c × IsRegisters x.world.jobs c text
Answers x (Where (Some c)) text = IsCpu x c × IsWhere x.world.jobs c text
Answers x (Memory (Some c) at n) text =
    IsCpu x c × IsMemoryText x.world.store x.world.jobs c at n text
Answers x (Held (Some c)) text =
    IsCpu x c × IsHeldText x.names.maps x.world.store x.world.jobs c text
Answers x (Nearby (Some c)) text =
    IsCpu x c × IsNearbyText x.world.programs x.world.jobs c text
Answers x (Map name) text =
    (m : ℕ) × IsNamed x.names.maps name m × IsTableText x.world.store x.names.maps m text
Answers x (Keys name) text = (m : ℕ) × IsNamed x.names.maps name m × AreKeysOf x.world.store m text
Answers x Schedule text = text ≡ course_line x.turns
Answers x Maps text = text ≡ store_lines x.names x.world.store.shape
Answers x Variables text = text ≡ variable_lines x.world.store x.names.variables (length x.names.variables)
Answers x (Number name) text =
    (v : Variable) × (variable_named name x.names.variables ≡ Some v)
    × IsNumberText x.world.store v text
Answers x Jobs text = text ≡ told_jobs (length x.world.jobs) x.world.jobs
Answers x (Mark n) text = text ≡ mark_line n
Answers x Help text = text ≡ help_text
Answers x order text = ⊥

-- each order with its text
abbrev pub CarriesOut : Scene → Order → List ℕ → Scene → Type 0
CarriesOut x (Break (Some c) (Some p)) text y = IsCpu x c × SetsBreak x c p text y
CarriesOut x (Delete (Some c) (Some p)) text y = IsCpu x c × DeletesBreak x c p text y
CarriesOut x (Watch name word) text y = SetsWatch x name word text y
CarriesOut x (WatchVariable name) text y = WatchesVariable x name text y
CarriesOut x Unwatch text y = (text ≡ unwatched_line) × (y ≡ record x { watch = None })
CarriesOut x (Step (Some c)) text y = IsCpu x c × StepsCpu x c text y
CarriesOut x (StepTimes (Some c) n) text y = IsCpu x c × StepsTimes x c n text y
CarriesOut x (Steps runs) text y =
    (are_cpus x.world.store.shape.cpus runs ≡ true) × StepsRuns x runs text y
CarriesOut x Go text y = RunsOn x text y
CarriesOut x (GoTo (Some c) (Some p)) text y = IsCpu x c × RunsTo x c p text y
CarriesOut x (Back n) text y = GoesBack x n text y
CarriesOut x (Last (Some c)) text y = IsCpu x c × TellsLast x c text y
CarriesOut x (Show (Some c)) text y = IsCpu x c × ShowsCpu x c text y
CarriesOut x (Break c p) text y = ⊥
CarriesOut x (Delete c p) text y = ⊥
CarriesOut x (Step None) text y = ⊥
CarriesOut x (Show None) text y = ⊥
CarriesOut x (Last None) text y = ⊥
CarriesOut x (StepTimes None n) text y = ⊥
CarriesOut x (GoTo c p) text y = ⊥
CarriesOut x order text y = Answers x order text × (y ≡ x)

-- a line without a word does and answers nothing
abbrev pub Obeys : Scene → List (List ℕ) → List ℕ → Scene → Type 0
Obeys x [] text y = (text ≡ []) × (y ≡ x)
Obeys x (field ∷ fields) text y =
    (order : Order) × (order_of (field ∷ fields) ≡ Some order) × CarriesOut x order text y

-- ---- what a session does with one

-- from each scene that the session showed, the order is followed, to one that it shows now
abbrev pub Leaves : SessionState → Order → List ℕ → SessionState → Type 0
Leaves s order text t =
    (x : Scene) → IsShown s x → (y : Scene) × CarriesOut x order text y × IsShown t y

-- the same of a line; the turns then lead from the first machine to that one
abbrev pub LeavesLine : SessionState → List (List ℕ) → List ℕ → SessionState → Type 0
LeavesLine s fields text t =
    (x : Scene) → IsShown s x → (y : Scene) × Obeys x fields text y × (IsCourse x → IsCourse y)
    × IsShown t y

-- ---- refusals: G4 is tested first, then G1; of a machine with this many CPUs, these programs, a store
-- of this shape, these names, and this many turns, where they are kept

-- no CPU has this number
abbrev pub IsNoCpu : ℕ → Option ℕ → Type 0
IsNoCpu cpus None = Unit {0}
IsNoCpu cpus (Some c) = nat_lt c cpus ≡ false

-- no program has an instruction that begins there
abbrev pub IsNoPc : List Loaded → Option ℕ → Type 0
IsNoPc programs None = Unit {0}
IsNoPc programs (Some p) = IsPc programs p → ⊥

abbrev pub NamesNoCpu : ℕ → Order → Type 0
NamesNoCpu cpus (Break c p) = IsNoCpu cpus c
NamesNoCpu cpus (Delete c p) = IsNoCpu cpus c
NamesNoCpu cpus (Step c) = IsNoCpu cpus c
NamesNoCpu cpus (Show c) = IsNoCpu cpus c
NamesNoCpu cpus (Last c) = IsNoCpu cpus c
NamesNoCpu cpus (StepTimes c n) = IsNoCpu cpus c
NamesNoCpu cpus (Steps runs) = are_cpus cpus runs ≡ false
NamesNoCpu cpus Go = ⊥
NamesNoCpu cpus (Registers c) = IsNoCpu cpus c
NamesNoCpu cpus (Where c) = IsNoCpu cpus c
NamesNoCpu cpus (Memory c at n) = IsNoCpu cpus c
NamesNoCpu cpus (Map name) = ⊥
NamesNoCpu cpus (Keys name) = ⊥
NamesNoCpu cpus Schedule = ⊥
NamesNoCpu cpus (GoTo c p) = IsNoCpu cpus c
NamesNoCpu cpus Maps = ⊥
NamesNoCpu cpus Variables = ⊥
NamesNoCpu cpus (Number name) = ⊥
NamesNoCpu cpus Jobs = ⊥
NamesNoCpu cpus (Mark n) = ⊥
NamesNoCpu cpus (Back n) = ⊥
NamesNoCpu cpus Help = ⊥
NamesNoCpu cpus (Held c) = IsNoCpu cpus c
NamesNoCpu cpus (Nearby c) = IsNoCpu cpus c
NamesNoCpu cpus (Watch name word) = ⊥
NamesNoCpu cpus (WatchVariable name) = ⊥
NamesNoCpu cpus Unwatch = ⊥

abbrev pub NamesNoPc : ℕ → List Loaded → Order → Type 0
NamesNoPc cpus programs (Break c p) = (IsNoCpu cpus c → ⊥) × IsNoPc programs p
NamesNoPc cpus programs (Delete c p) = (IsNoCpu cpus c → ⊥) × IsNoPc programs p
NamesNoPc cpus programs (GoTo c p) = (IsNoCpu cpus c → ⊥) × IsNoPc programs p
NamesNoPc cpus programs order = ⊥

-- no map and no array has the name, or no variable
abbrev pub NamesNothing : Names → Order → Type 0
NamesNothing names (Map name) = IsNoName names.maps name
NamesNothing names (Keys name) = IsNoName names.maps name
NamesNothing names (Watch name word) = IsNoName names.maps name
NamesNothing names (Number name) = variable_named name names.variables ≡ None
NamesNothing names (WatchVariable name) = variable_named name names.variables ≡ None
NamesNothing names order = ⊥

-- there are not this many turns, or the word is no key of the map and no index of the array
abbrev pub HasBadOperand : Shape → Names → Option ℕ → Order → Type 0
HasBadOperand h names count (Back n) = AreFewer count n
HasBadOperand h names count (Watch name word) =
    (m : ℕ) × IsNamed names.maps name m × (chosen_in h m word ≡ None)
HasBadOperand h names count order = ⊥

-- why an order is refused
abbrev pub RefusesOrder
    : ℕ → List Loaded → Shape → Names → Option ℕ → Order → DebugError → Type 0
RefusesOrder cpus programs h names count order error.NoCpu = NamesNoCpu cpus order
RefusesOrder cpus programs h names count order error.NoPc = NamesNoPc cpus programs order
RefusesOrder cpus programs h names count order error.NoMap = NamesNothing names order
RefusesOrder cpus programs h names count order error.BadCommand = ⊥
RefusesOrder cpus programs h names count order error.OutOfMemory = Unit {0}
RefusesOrder cpus programs h names count order error.BadOperand = HasBadOperand h names count order

-- the same of what a session shows
abbrev pub RefusesHere : SessionState → Order → DebugError → Type 0
RefusesHere s order e =
    RefusesOrder (length s.machine.store.maps.runs) s.machine.programs (shape_of s.machine.store)
    s.names (count_of s.course) order e

-- why a line is refused; out of memory may take the place of any answer
abbrev pub RefusesFields
    : ℕ → List Loaded → Shape → Names → Option ℕ → List (List ℕ) → DebugError → Type 0
RefusesFields cpus programs h names count fields error.BadCommand =
    (fields ≡ [] → ⊥) × (order_of fields ≡ None)
RefusesFields cpus programs h names count fields error.OutOfMemory = Unit {0}
RefusesFields cpus programs h names count fields e = (order : Order) × (order_of fields ≡ Some order)
    × RefusesOrder cpus programs h names count order e

-- the same of a scene
abbrev pub IsLineRefused : Scene → List (List ℕ) → DebugError → Type 0
IsLineRefused x fields e =
    RefusesFields x.world.store.shape.cpus x.world.programs x.world.store.shape x.names
    (Some (length x.turns)) fields e

-- from each scene that the session shows, the line is refused
abbrev pub RefusesLine : SessionState → List (List ℕ) → DebugError → Type 0
RefusesLine s fields e = (x : Scene) → IsShown s x → IsLineRefused x fields e
