-- What `go` does: rounds over CPUs in rising order, one turn for each that has work, up to a
-- breakpoint or to a turn that changes a watched value (our own choice).
use Rattle.std.specs.Prelude.{◌≡◌, ℕ, ◌+◌, ◌<◌, ◌≤◌, Bool, true, false, ◌==◌, ◌&&◌, ◌⊎◌, List, [], ◌∷◌, ◌++◌, codes, filter, not, Option}
use Rattle.std.specs.List.{list_any}
use Rattle.bpf_cpu.specs.declared.cpu.Cpu.{Cpu}
use Rattle.bpf_machine.specs.declared.machine.Turn.{Turn}
use Rattle.bpf_cpu.specs.Task.{Task, InHand}
use Rattle.bpf_machine.specs.Hands.{IsAt, IsFree, NoneWaits}
use Rattle.bpf_machine.specs.Schedule.{World, TakesTurn}
use Rattle.bpf_machine.specs.Work.{IsNext}
use Rattle.bpf_debug.specs.declared.breakpoint.Breakpoint.{Breakpoint}
use Rattle.bpf_debug.specs.Answer.{ended_text, changed_line, stop_line}
use Rattle.bpf_debug.specs.Watch.{Watched, watched_values}

-- ---- who is next

abbrev pub HasWork : List Task → ℕ → Type 0
HasWork jobs c =
    ((j : ℕ) × (task : Task) × (state : Cpu) × (left : ℕ) × IsAt jobs c j task (InHand state left))
    ⊎ ((j : ℕ) × IsNext jobs c j)

-- no CPU has work of those from a number on and below another
abbrev pub AreIdle : List Task → ℕ → ℕ → Type 0
AreIdle jobs «from» to =
    (c : ℕ) → «from» ≤ c → c < to → IsFree jobs c × NoneWaits jobs c

-- of the CPUs from one number on and below another the first with work, from a number on, and then
-- from the first of them on: a new round
pub record IsUp (jobs : List Task) (low high «from» c : ℕ) : Type 0 where
  pub above : low ≤ c
  pub within : c < high
  pub works : HasWork jobs c
  pub first : ((«from» ≤ c) × AreIdle jobs «from» c)
      ⊎ ((c < «from») × AreIdle jobs «from» high × AreIdle jobs low c)

-- ---- breakpoints

-- the pc of the CPU's next instruction: a job about to begin is at pc 0
abbrev pub StandsAt : List Task → ℕ → ℕ → Type 0
StandsAt jobs c p =
    ((j : ℕ) × (task : Task) × (state : Cpu) × (left : ℕ) × IsAt jobs c j task (InHand state left)
    × (p ≡ state.pc))
    ⊎ ((j : ℕ) × IsNext jobs c j × (p ≡ 0))

abbrev pub is_break : ℕ → ℕ → Breakpoint → Bool
is_break c p b = (b.cpu == c) && (b.pc == p)

abbrev pub has_break : List Breakpoint → ℕ → ℕ → Bool
has_break breaks c p = list_any (is_break c p) breaks

-- those but this one
abbrev pub without_break : List Breakpoint → ℕ → ℕ → List Breakpoint
without_break breaks c p = filter (λ b. not (is_break c p b)) breaks

-- whether the CPU has made a turn among these
abbrev pub has_gone : List ℕ → ℕ → Bool
has_gone turns c = list_any (λ d. d == c) turns

-- ---- all turns of a `go`

-- Of the CPUs from one number on and below another: from this world, the next number in the round,
-- and the CPUs that have made turns (the last of them first): these turns, this text, and the world
-- after them.
pub data Goes (breaks : List Breakpoint) (watch : Option Watched) (low high : ℕ)
    : World → ℕ → List ℕ → List ℕ → List ℕ → World → Type 0
  where
    -- no work is left
    Done : {w : World} {«from» : ℕ} {gone : List ℕ}
        → AreIdle w.jobs low high → Goes breaks watch low high w «from» gone [] (codes "done\n") w
    -- the CPU that is up has made a turn, and is at a breakpoint of its
    Stops : {w : World} {«from» : ℕ} {gone : List ℕ} {c p : ℕ}
        → IsUp w.jobs low high «from» c → has_gone gone c ≡ true
        → StandsAt w.jobs c p → has_break breaks c p ≡ true
        → Goes breaks watch low high w «from» gone [] (stop_line c p) w
    -- or it makes a turn, which changes the watched value
    Changes : {w : World} {«from» : ℕ} {gone : List ℕ} {c : ℕ} {answer : Turn} {m : World}
        → IsUp w.jobs low high «from» c
        → (has_gone gone c ≡ false)
        ⊎ ((p : ℕ) × StandsAt w.jobs c p × (has_break breaks c p ≡ false))
        → TakesTurn w c answer m
        → (watched_values watch m.store ≡ watched_values watch w.store → ⊥)
        → Goes breaks watch low high w «from» gone (c ∷ [])
        (ended_text c answer ++ changed_line c) m
    -- or one that doesn't
    Turns : {w : World} {«from» : ℕ} {gone : List ℕ} {c : ℕ} {answer : Turn} {m : World}
        {turns text : List ℕ} {z : World}
        → IsUp w.jobs low high «from» c
        → (has_gone gone c ≡ false)
        ⊎ ((p : ℕ) × StandsAt w.jobs c p × (has_break breaks c p ≡ false))
        → TakesTurn w c answer m → watched_values watch m.store ≡ watched_values watch w.store
        → Goes breaks watch low high m (c + 1) (c ∷ gone) turns text z
        → Goes breaks watch low high w «from» gone (c ∷ turns) (ended_text c answer ++ text) z
