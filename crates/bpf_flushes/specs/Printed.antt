-- What is printed of jobs that are run on CPUs with store buffers.
use Rattle.std.specs.Prelude.{◌≡◌, ℕ, Bool, List}
use Rattle.bpf_names.specs.Names.{Names}
use Rattle.bpf_machine.specs.Laws.{IsFresh}
use Rattle.bpf_machine.specs.Rounds.{HaveEnded}
use Rattle.bpf_machine.specs.Schedule.{World, unrolled}
use Rattle.bpf_x86.specs.Machine.{X86, Move, RunsMoves, drained}
use Rattle.bpf_jobs.specs.Printed.{Tells}
use Rattle.bpf_flushes.specs.Moves.{RunsWithBuffers}

-- the moves of a schedule, each with how often it is made, and rounds after them lead to a last
-- machine, of which this is printed
abbrev pub IsReportWithBuffers : World → List (ℕ × ℕ) → Names → Bool → List ℕ → Bool → Type 0
IsReportWithBuffers w runs names maps text stopped =
    (z : X86) × RunsWithBuffers w (unrolled runs) z
    × Tells z.world.store z.world.jobs names maps text stopped

-- of jobs that all wait one such report is printed
abbrev pub ReportsWithBuffersAreDetermined : Type 0
ReportsWithBuffersAreDetermined =
    (w : World) (runs : List (ℕ × ℕ)) (names : Names) (maps : Bool) (text other : List ℕ)
    (stopped halted : Bool) → IsFresh w → IsReportWithBuffers w runs names maps text stopped
    → IsReportWithBuffers w runs names maps other halted → (text ≡ other) × (stopped ≡ halted)

-- moves of the x86 machine lead to the last machine, all jobs have ended there, and nothing waits
abbrev pub LastsAreReached : Type 0
LastsAreReached = (w : World) (schedule : List ℕ) (z : X86) → RunsWithBuffers w schedule z
    → ((moves : List Move) × RunsMoves (drained w) moves z) × HaveEnded z.world.jobs
    × (z ≡ drained z.world)
