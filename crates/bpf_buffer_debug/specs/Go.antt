-- What `go` does: rounds over CPUs in rising order, for each that has work a turn and then a flush, up
-- to a breakpoint, or to a turn or a flush that changes a watched value (our own choice). A CPU without
-- work has nothing that waits.
use Rattle.std.specs.Prelude.{◌≡◌, ℕ, ◌+◌, Bool, true, false, ◌⊎◌, List, [], ◌∷◌, ◌++◌, codes, Option}
use Rattle.std.specs.Fmt.{decimal}
use Rattle.bpf_cpu.specs.Task.{Task}
use Rattle.bpf_machine.specs.declared.machine.Turn.{Turn}
use Rattle.bpf_x86.specs.Machine.{X86, FlushOf, Moves, TakesTurn}
use Rattle.bpf_debug.specs.declared.breakpoint.Breakpoint.{Breakpoint}
use Rattle.bpf_debug.specs.Answer.{changed_line, ended_text, stop_line}
use Rattle.bpf_debug.specs.Go.{AreIdle, IsUp, StandsAt, has_break, has_gone}
use Rattle.bpf_debug.specs.Watch.{Watched, watched_values}

-- after a turn of the CPU: a flush, as schedules number it, or none where nothing waits or where it
-- isn't asked for
abbrev pub Flushes : Bool → X86 → ℕ → List ℕ → X86 → Type 0
Flushes false x c moves z = (moves ≡ []) × (z ≡ x)
Flushes true x c moves z =
    ((x.buffers c ≡ []) × (moves ≡ []) × (z ≡ x))
    ⊎ (Moves x (FlushOf c) z × (moves ≡ (128 + c) ∷ []))

-- the CPU has made no turn among these, or isn't at a breakpoint of its
abbrev pub MayTurn : List Breakpoint → List ℕ → List Task → ℕ → Type 0
MayTurn breaks gone jobs c =
    (has_gone gone c ≡ false) ⊎ ((p : ℕ) × StandsAt jobs c p × (has_break breaks c p ≡ false))

-- what is watched in memory, where stores that wait are not yet
abbrev pub memory_values : Option Watched → X86 → List (Option (List ℕ))
memory_values watch x = watched_values watch x.world.store

-- it was changed by a flush of this CPU's buffer
abbrev pub flush_changed_line : ℕ → List ℕ
flush_changed_line c = codes "changed by a flush of " ++ decimal c ++ codes "\n"

-- Of the CPUs from one number on and below another: from this machine, the next number in the round,
-- and the CPUs that have made turns (the last of them first): these moves, this text, and the machine
-- after them.
pub data Goes (breaks : List Breakpoint) (watch : Option Watched) (flushes : Bool) (low high : ℕ)
    : X86 → ℕ → List ℕ → List ℕ → List ℕ → X86 → Type 0
  where
    -- no work is left
    Done : {x : X86} {«from» : ℕ} {gone : List ℕ}
        → AreIdle x.world.jobs low high
        → Goes breaks watch flushes low high x «from» gone [] (codes "done\n") x
    -- the CPU that is up has made a turn, and is at a breakpoint of its
    Stops : {x : X86} {«from» : ℕ} {gone : List ℕ} {c p : ℕ}
        → IsUp x.world.jobs low high «from» c → has_gone gone c ≡ true
        → StandsAt x.world.jobs c p → has_break breaks c p ≡ true
        → Goes breaks watch flushes low high x «from» gone [] (stop_line c p) x
    -- or it makes a turn, which changes the watched value
    Changes : {x : X86} {«from» : ℕ} {gone : List ℕ} {c : ℕ} {answer : Turn} {m : X86}
        → IsUp x.world.jobs low high «from» c → MayTurn breaks gone x.world.jobs c
        → TakesTurn x c answer m → (memory_values watch m ≡ memory_values watch x → ⊥)
        → Goes breaks watch flushes low high x «from» gone (c ∷ [])
        (ended_text c answer ++ changed_line c) m
    -- or one that doesn't, and the flush after it does
    FlushChanges : {x : X86} {«from» : ℕ} {gone : List ℕ} {c : ℕ} {answer : Turn} {m y : X86}
        (flush : List ℕ)
        → IsUp x.world.jobs low high «from» c → MayTurn breaks gone x.world.jobs c
        → TakesTurn x c answer m → memory_values watch m ≡ memory_values watch x
        → Flushes flushes m c flush y → (memory_values watch y ≡ memory_values watch m → ⊥)
        → Goes breaks watch flushes low high x «from» gone (c ∷ flush)
        (ended_text c answer ++ flush_changed_line c) y
    -- or neither does
    Turns : {x : X86} {«from» : ℕ} {gone : List ℕ} {c : ℕ} {answer : Turn} {m y : X86}
        (flush : List ℕ) {moves text : List ℕ} {z : X86}
        → IsUp x.world.jobs low high «from» c → MayTurn breaks gone x.world.jobs c
        → TakesTurn x c answer m → memory_values watch m ≡ memory_values watch x
        → Flushes flushes m c flush y → memory_values watch y ≡ memory_values watch m
        → Goes breaks watch flushes low high y (c + 1) (c ∷ gone) moves text z
        → Goes breaks watch flushes low high x «from» gone (c ∷ (flush ++ moves))
        (ended_text c answer ++ text) z
