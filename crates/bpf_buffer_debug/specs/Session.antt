-- What commands do on CPUs with store buffers: the moves that each makes, what it answers, and why one is
-- refused (our own choice). What is the same without store buffers is cited.
use Rattle.std.specs.Prelude.{◌≡◌, ℕ, ◌+◌, ◌<◌, ◌≤◌, Bool, true, false, nat_lt, ◌⊎◌, List, [], ◌∷◌, ◌++◌, Option, Some, None, codes, length, map}
use Rattle.std.specs.List.{list_all}
use Rattle.bpf_names.specs.Names.{Names}
use Rattle.bpf_schedule.specs.Moves.{all_moves_text}
use Rattle.bpf_plain.specs.PlainStore.{shape_of}
use Rattle.bpf_machine.specs.Schedule.{unrolled}
use Rattle.bpf_x86.specs.Machine.{X86, FlushOf}
use Rattle.bpf_buffering.specs.Search.{BufferedState, ShowsX86, move_of}
use Rattle.bpf_flushes.specs.Moves.{Makes, MakesAll}
use Rattle.bpf_debug.specs.declared.breakpoint.Breakpoint.{Breakpoint}
use Rattle.bpf_debug.specs.declared.error.DebugError.{DebugError}
use Rattle.bpf_debug.specs.declared.error.DebugError.TheVariants as error
use Rattle.bpf_debug.specs.declared.recall.Kind.TheVariants as kind
use Rattle.bpf_debug.specs.Answer.{IsOff, IsWhere, break_line, deleted_line}
use Rattle.bpf_debug.specs.Command as plain
use Rattle.bpf_debug.specs.Command.{Break, Delete, Step, StepTimes, Steps, Go, GoTo, Back, Memory, Held, Schedule, Last, Show, Watch}
use Rattle.bpf_debug.specs.Command.{WatchVariable, Unwatch, Registers, Where, Map, Keys, Maps, Variables, Number, Jobs, Mark, Nearby, Help}
use Rattle.bpf_debug.specs.Course.{IsKept, count_of, cpu_before, runs_of, turns_before}
use Rattle.bpf_debug.specs.Go.{without_break}
use Rattle.bpf_debug.specs.Session as plain_session
use Rattle.bpf_debug.specs.Session.{IsPc, with_break}
use Rattle.bpf_debug.specs.Recall.{IsLastText, Past}
use Rattle.bpf_debug.specs.Watch.{Watched}
use Rattle.bpf_buffer_debug.specs.Command.{Order, Plain, Flush, Buffer, order_of}
use Rattle.bpf_buffer_debug.specs.Go.{Goes}
use Rattle.bpf_buffer_debug.specs.Help.{help_text}
use Rattle.bpf_buffer_debug.specs.Moves.{TellsMoves, all_moves, cpu_of, last_cpu}
use Rattle.bpf_buffer_debug.specs.Recall.{Recalls}
use Rattle.bpf_buffer_debug.specs.Seeing.{IsSeenHeld, IsSeenMemory, IsSeenShown}
use Rattle.bpf_buffer_debug.specs.Waiting.{buffer_text, flush_text}

-- what callers see of a session: its machine, the same before the first move, the names, the
-- breakpoints, the value that is watched, the moves made so far in run lengths, where there was room for
-- them, and whether memory ran out in the middle of a move, so that the machine is of no more use
pub record SessionState : Type 0 where
  pub machine : BufferedState
  pub first : BufferedState
  pub names : Names
  pub breaks : List Breakpoint
  pub watch : Option Watched
  pub course : Option (List (ℕ × ℕ))
  pub lost : Bool

-- an x86 machine with those, that before the first move, and the moves that were made since, as schedules
-- number them
pub record Scene : Type 0 where
  pub here : X86
  pub names : Names
  pub breaks : List Breakpoint
  pub watch : Option Watched
  pub first : X86
  pub moves : List ℕ

pub record IsShown (s : SessionState) (x : Scene) : Type 0 where
  pub kept : s.lost ≡ false
  pub here : ShowsX86 s.machine x.here
  pub first : ShowsX86 s.first x.first
  pub names : x.names ≡ s.names
  pub breaks : x.breaks ≡ s.breaks
  pub watch : x.watch ≡ s.watch
  pub moves : IsKept s.course x.moves

-- the moves lead from the first machine to this one
abbrev pub IsCourse : Scene → Type 0
IsCourse x = MakesAll x.first (map move_of x.moves) x.here

-- the scene after some moves more, which lead to this machine
abbrev pub behind : Scene → List ℕ → X86 → Scene
behind x moves z = record x { here = z; moves = x.moves ++ moves }

-- the first machine with all moves but the last n
abbrev pub undone : Scene → ℕ → X86 → Scene
undone x n z = record x { here = z; moves = turns_before x.moves n }

-- the same without the buffers: a scene of the debugger without them
abbrev pub unbuffered : Scene → plain_session.Scene
unbuffered x = record {
  world = x.here.world;
  names = x.names;
  breaks = x.breaks;
  watch = x.watch;
  first = x.first.world;
  turns = x.moves;
}

abbrev pub IsCpu : Scene → ℕ → Type 0
IsCpu x c = c < x.here.world.store.shape.cpus

-- ---- what a command does: what it answers, and what is there after it, with its moves

abbrev pub SetsBreak : Scene → ℕ → ℕ → List ℕ → Scene → Type 0
SetsBreak x c p text y =
    IsPc x.here.world.programs p × (text ≡ break_line c p)
    × (y ≡ record x { breaks = with_break x.breaks c p })

abbrev pub DeletesBreak : Scene → ℕ → ℕ → List ℕ → Scene → Type 0
DeletesBreak x c p text y =
    IsPc x.here.world.programs p × (text ≡ deleted_line c p)
    × (y ≡ record x { breaks = without_break x.breaks c p })

-- what is watched is what would be without store buffers, and nothing else changes
abbrev pub SetsWatch : Scene → plain.Order → List ℕ → Scene → Type 0
SetsWatch x order text y =
    (watch : Option Watched) × (y ≡ record x { watch = watch })
    × plain_session.CarriesOut (unbuffered x) order text (unbuffered y)

-- a schedule's moves, and where the CPU of the last of them is then
abbrev pub StepsRuns : Scene → List (ℕ × ℕ) → List ℕ → Scene → Type 0
StepsRuns x runs text y =
    (m : X86) × (before : List ℕ) × (where_text : List ℕ)
    × TellsMoves x.here (all_moves runs) before m
    × IsWhere m.world.jobs (last_cpu runs) where_text × (text ≡ before ++ where_text)
    × (y ≡ behind x (unrolled runs) m)

-- a flush; where nothing waits it changes nothing
abbrev pub FlushesCpu : Scene → ℕ → List ℕ → Scene → Type 0
FlushesCpu x c text y =
    (m : X86) × Makes x.here (FlushOf c) m
    × (text ≡ flush_text x.names.maps c (x.here.buffers c)) × (y ≡ behind x ((128 + c) ∷ []) m)

-- rounds of all CPUs, up to a breakpoint or to a turn or a flush that changes the watched value
abbrev pub RunsOn : Scene → List ℕ → Scene → Type 0
RunsOn x text y =
    (m : X86) × (moves : List ℕ)
    × Goes x.breaks x.watch true 0 x.here.world.store.shape.cpus x.here 0 [] moves text m
    × (y ≡ behind x moves m)

-- the same by turns of one CPU alone, up to one pc, whatever the breakpoints are
abbrev pub RunsTo : Scene → ℕ → ℕ → List ℕ → Scene → Type 0
RunsTo x c p text y =
    IsPc x.here.world.programs p × ((m : X86) × (moves : List ℕ)
    × Goes (record { cpu = c; pc = p } ∷ []) x.watch false c (c + 1) x.here c [] moves text m
    × (y ≡ behind x moves m))

-- the last moves are undone, this many, and where the CPU of the first of them is again
abbrev pub GoesBack : Scene → ℕ → List ℕ → Scene → Type 0
GoesBack x n text y =
    (n ≤ length x.moves) × ((m : X86) × MakesAll x.first (map move_of (turns_before x.moves n)) m
    × IsWhere m.world.jobs (cpu_of (cpu_before x.moves n)) text × (y ≡ undone x n m))

-- the moves are made again, and what the last of the CPU's turns that ended a job left is printed
abbrev pub TellsLast : Scene → ℕ → List ℕ → Scene → Type 0
TellsLast x c text y =
    (past : Option Past) × (m : X86)
    × Recalls kind.Ends c x.first None (map move_of x.moves) past m
    × IsLastText c past m.world.jobs text × (y ≡ record x { here = m })

-- the same, and what the last of the CPU's turns changed is printed, as it sees memory
abbrev pub ShowsTurn : Scene → ℕ → List ℕ → Scene → Type 0
ShowsTurn x c text y =
    (past : Option Past) × (m : X86)
    × Recalls kind.Works c x.first None (map move_of x.moves) past m
    × IsSeenShown x.names x.here c past text × (y ≡ record x { here = m })

-- of a CPU with a job in hand, or where it is
abbrev pub ShowsCpu : Scene → ℕ → List ℕ → Scene → Type 0
ShowsCpu x c text y = (IsOff x.here.world.jobs c text × (y ≡ x)) ⊎ ShowsTurn x c text y

-- each move of a schedule is of one of this many CPUs
abbrev pub are_cpus : ℕ → List (ℕ × ℕ) → Bool
are_cpus cpus runs = list_all (λ run. nat_lt (cpu_of run.0) cpus) runs

-- the moves so far, as the command that makes them
abbrev pub course_line : List ℕ → List ℕ
course_line moves =
    codes "steps" ++ all_moves_text (length (runs_of moves)) (runs_of moves) ++ codes "\n"

-- what a question is answered: it makes no move and changes nothing. Bytes and held values are shown
-- as the CPU sees them, all else as it is in memory
abbrev pub Answers : Scene → plain.Order → List ℕ → Type 0
Answers x (Memory (Some c) at n) text = IsCpu x c × IsSeenMemory x.here c at n text
Answers x (Held (Some c)) text = IsCpu x c × IsSeenHeld x.names.maps x.here c text
Answers x Schedule text = text ≡ course_line x.moves
Answers x Help text = text ≡ help_text
Answers x order text = plain_session.Answers (unbuffered x) order text

-- each order with its text
abbrev pub CarriesOut : Scene → Order → List ℕ → Scene → Type 0
CarriesOut x (Plain (Break (Some c) (Some p))) text y = IsCpu x c × SetsBreak x c p text y
CarriesOut x (Plain (Delete (Some c) (Some p))) text y = IsCpu x c × DeletesBreak x c p text y
CarriesOut x (Plain (Step (Some c))) text y = IsCpu x c × StepsRuns x ((c, 1) ∷ []) text y
CarriesOut x (Plain (StepTimes (Some c) n)) text y = IsCpu x c × StepsRuns x ((c, n) ∷ []) text y
CarriesOut x (Plain (Steps runs)) text y =
    (are_cpus x.here.world.store.shape.cpus runs ≡ true) × StepsRuns x runs text y
CarriesOut x (Plain Go) text y = RunsOn x text y
CarriesOut x (Plain (GoTo (Some c) (Some p))) text y = IsCpu x c × RunsTo x c p text y
CarriesOut x (Plain (Back n)) text y = GoesBack x n text y
CarriesOut x (Plain (Last (Some c))) text y = IsCpu x c × TellsLast x c text y
CarriesOut x (Plain (Show (Some c))) text y = IsCpu x c × ShowsCpu x c text y
CarriesOut x (Plain (Watch name word)) text y = SetsWatch x (Watch name word) text y
CarriesOut x (Plain (WatchVariable name)) text y = SetsWatch x (WatchVariable name) text y
CarriesOut x (Plain Unwatch) text y = SetsWatch x Unwatch text y
CarriesOut x (Plain order) text y = Answers x order text × (y ≡ x)
CarriesOut x (Flush (Some c)) text y = IsCpu x c × FlushesCpu x c text y
CarriesOut x (Flush None) text y = ⊥
CarriesOut x (Buffer (Some c)) text y =
    IsCpu x c × (text ≡ buffer_text x.names.maps c (x.here.buffers c)) × (y ≡ x)
CarriesOut x (Buffer None) text y = ⊥

-- a line without a word does and answers nothing
abbrev pub Obeys : Scene → List (List ℕ) → List ℕ → Scene → Type 0
Obeys x [] text y = (text ≡ []) × (y ≡ x)
Obeys x (field ∷ fields) text y =
    (order : Order) × (order_of (field ∷ fields) ≡ Some order) × CarriesOut x order text y

-- ---- what a session does with one

-- from each scene that the session showed, the order is followed, to one that it shows now
abbrev pub Leaves : SessionState → Order → List ℕ → SessionState → Type 0
Leaves s order text t =
    (x : Scene) → IsShown s x → (y : Scene) × CarriesOut x order text y × IsShown t y

-- the same of a line; the moves then lead from the first machine to that one
abbrev pub LeavesLine : SessionState → List (List ℕ) → List ℕ → SessionState → Type 0
LeavesLine s fields text t =
    (x : Scene) → IsShown s x → (y : Scene) × Obeys x fields text y × (IsCourse x → IsCourse y)
    × IsShown t y

-- ---- refusals

-- the order without what is of the CPUs' buffers alone: moves of a CPU are its turns
abbrev pub turns_of : List (ℕ × ℕ) → List (ℕ × ℕ)
turns_of runs = map (λ run. (cpu_of run.0, run.1)) runs

abbrev pub refusable : Order → plain.Order
refusable (Plain (Steps runs)) = Steps (turns_of runs)
refusable (Plain order) = order
refusable (Flush c) = Where c
refusable (Buffer c) = Where c

-- it is refused as without store buffers; of what a session shows
abbrev pub RefusesHere : SessionState → Order → DebugError → Type 0
RefusesHere s order e =
    plain_session.RefusesOrder (length s.machine.machine.store.maps.runs) s.machine.machine.programs
    (shape_of s.machine.machine.store) s.names (count_of s.course) (refusable order) e

-- the same of a scene
abbrev pub IsRefused : Scene → Order → DebugError → Type 0
IsRefused x order e =
    plain_session.RefusesOrder x.here.world.store.shape.cpus x.here.world.programs
    x.here.world.store.shape x.names (Some (length x.moves)) (refusable order) e

-- a line is refused that says no command, or whose order is
abbrev pub IsLineRefused : Scene → List (List ℕ) → DebugError → Type 0
IsLineRefused x fields error.BadCommand = (fields ≡ [] → ⊥) × (order_of fields ≡ None)
IsLineRefused x fields error.OutOfMemory = Unit {0}
IsLineRefused x fields e =
    (order : Order) × (order_of fields ≡ Some order) × IsRefused x order e

abbrev pub RefusesLine : SessionState → List (List ℕ) → DebugError → Type 0
RefusesLine s fields e = (x : Scene) → IsShown s x → IsLineRefused x fields e

-- a session after a refusal is as it was, unless memory ran out in the middle of a move
abbrev pub Stays : SessionState → DebugError → SessionState → Type 0
Stays s e t = (t ≡ s) ⊎ ((e ≡ error.OutOfMemory) × (t.lost ≡ true))
