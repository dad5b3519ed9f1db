-- How many events of a kind a program's run has at most.
use Rattle.std.specs.Prelude.{◌≡◌, ℕ, ◌+◌, ◌≤◌, ◌==◌, Bool, true, false, not, ◌&&◌, ◌||◌, if◌then◌else◌, List, [], ◌∷◌, Option, Some, None, slice_get}
use Rattle.bpf_shared.specs.Shape.{Shape}
use Rattle.bpf_insn.specs.declared.instruction.Insn.{Insn}
use Rattle.bpf_insn.specs.declared.instruction.Insn.TheVariants.{CallHelper}
use Rattle.bpf_shared.specs.declared.events.Event.{Event}
use Rattle.bpf_shared.specs.declared.events.Event.TheVariants.{Update, Delete}
use Rattle.bpf_loader.specs.Loaded.{Loaded}
use Rattle.bpf_loader.specs.Places.{Begins}
use Rattle.bpf_helpers.specs.Calls.{update_number, delete_number, map_value}
use Rattle.bpf_cpu.specs.declared.cpu.Cpu.{Cpu}
use Rattle.bpf_cpu.specs.declared.input.Input.{Input}
use Rattle.bpf_cpu.specs.declared.outcome.Outcome.{Outcome}
use Rattle.bpf_cpu.specs.State.{start}
use Rattle.bpf_cpu.specs.Task.{Task}
use Rattle.bpf_cpu.specs.Step.{MakesSteps}
use Rattle.bpf_threads.specs.declared.counting.Kind.{Kind}
use Rattle.bpf_threads.specs.declared.counting.Kind.TheVariants.{Updates, Removals}
use Rattle.bpf_threads.specs.declared.counting.Counted.{Counted}
use Rattle.bpf_threads.specs.declared.spot.Spot.{Spot}

-- ---- events

-- whether an update with these flags may take a value out of its map: with BPF_NOEXIST (1) it may not
abbrev pub may_replace : ℕ → Bool
may_replace flags = not (flags == 1)

-- whether an event is one of the map's that are counted: each update, or each deletion and each update
-- that may replace
abbrev pub is_counted : Kind → Event → ℕ → Bool
is_counted Updates (Update n key bytes flags answer) m = n == m
is_counted Updates e m = false
is_counted Removals (Update n key bytes flags answer) m = (n == m) && may_replace flags
is_counted Removals (Delete n key answer) m = n == m
is_counted Removals e m = false

abbrev pub one_if : Bool → ℕ
one_if b = if b then 1 else 0

-- how many of these are
abbrev pub how_many : Counted → List Event → ℕ
how_many q [] = 0
how_many q (e ∷ es) = one_if (is_counted q.kind e q.map) + how_many q es

-- ---- runs

-- however a store answers, a run of the program has at most n
abbrev pub HasAtMost : Counted → Loaded → ℕ → Type 0
HasAtMost q program most =
    (shape : Shape) (number steps : ℕ) (input : Input) (events : List Event)
    (end : Outcome) (last : Cpu)
    → MakesSteps shape program steps (start number input) events end last
    → how_many q events ≤ most

-- so it is of each program that has a number here
abbrev pub AreBounds : Counted → List Loaded → List (Option ℕ) → Type 0
AreBounds q programs bounds = (k most : ℕ) (program : Loaded) → slice_get programs k ≡ Some program
    → slice_get bounds k ≡ Some (Some most) → HasAtMost q program most

-- what the jobs' programs have sums to this
abbrev pub AddUp : List (Option ℕ) → List Task → ℕ → Type 0
AddUp bounds [] n = n ≡ 0
AddUp bounds (job ∷ jobs) n = (most : ℕ) × (rest : ℕ)
    × (slice_get bounds job.program ≡ Some (Some most)) × AddUp bounds jobs rest × (n ≡ most + rest)

-- all runs of the jobs together have at most n
abbrev pub HaveAtMost : Counted → List Loaded → List Task → ℕ → Type 0
HaveAtMost q programs jobs n = (bounds : List (Option ℕ)) × AreBounds q programs bounds
    × AddUp bounds jobs n

-- ---- a chart's spots

-- the map may be this one: its number isn't known, or is that
abbrev pub may_be : Option ℕ → ℕ → Bool
may_be None m = true
may_be (Some x) m = x == map_value m

-- the flags may let the update replace
abbrev pub may_replace_by : Option ℕ → Bool
may_replace_by None = true
may_replace_by (Some flags) = may_replace flags

-- whether a helper's call may be counted
abbrev pub is_counted_call : Kind → ℕ → Option ℕ → Bool
is_counted_call Updates number flags = number == update_number
is_counted_call Removals number flags =
    (number == delete_number) || ((number == update_number) && may_replace_by flags)

abbrev pub known_in : Option (Option ℕ) → Option ℕ
known_in None = None
known_in (Some x) = x

-- what the register of this number is known to hold at a spot
abbrev pub known_at : Spot → ℕ → Option ℕ
known_at p n = known_in (slice_get p.known n)

-- how many counted events an instruction at the spot has at most
abbrev pub weight : Counted → Spot → Insn → ℕ
weight q p (CallHelper number) =
    one_if (is_counted_call q.kind number (known_at p 4) && may_be (known_at p 1) q.map)
weight q p i = 0

-- from the spot of this number on there are at most n
abbrev pub HasNumber : List (Option ℕ) → ℕ → ℕ → Type 0
HasNumber most i n = slice_get most i ≡ Some (Some n)

-- a way leads nowhere, or to a spot with a number, which with this one is no more than that
abbrev pub LeavesEnough : List (Option ℕ) → Option ℕ → ℕ → ℕ → Type 0
LeavesEnough most None own n = Unit {0}
LeavesEnough most (Some j) own n = (m : ℕ) × HasNumber most j m × (own + m ≤ n)

-- a spot has n itself, and no more than the rest where each way leads
abbrev pub FallsBy : Spot → List (Option ℕ) → ℕ → ℕ → Type 0
FallsBy p most own n = (own ≤ n) × LeavesEnough most p.next own n × LeavesEnough most p.jump own n

abbrev pub FallsFrom : Counted → Loaded → Spot → List (Option ℕ) → ℕ → Type 0
FallsFrom q program p most n = (insn : Insn) → Begins program.instructions p.pc insn
    → FallsBy p most (weight q p insn) n

-- each number is at least that of each spot that comes next with what the spot itself has
abbrev pub FallsAlong : Counted → Loaded → List Spot → List (Option ℕ) → ℕ → Type 0
FallsAlong q program spots most i = (p : Spot) (n : ℕ) → slice_get spots i ≡ Some p → HasNumber most i n
    → FallsFrom q program p most n

abbrev pub AreAllBounds : Counted → Loaded → List Spot → List (Option ℕ) → Type 0
AreAllBounds q program spots most = (i : ℕ) → FallsAlong q program spots most i
