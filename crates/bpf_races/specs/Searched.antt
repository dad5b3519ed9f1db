-- Searches whose kept machines are gone through.
use Rattle.std.specs.Prelude.{ℕ, List}
use Rattle.bpf_machine.specs.Schedule.{World, RunsSchedule}
use Rattle.bpf_machine.specs.Machine.{MachineState, Shows}
use Rattle.bpf_explore.specs.Album.{IsShownAt}

-- the schedule leads from what the first kept machine shows to what this machine shows
abbrev pub IsLedTo : List MachineState → List ℕ → MachineState → Type 0
IsLedTo kept schedule m = (w : World) → IsShownAt kept 0 w
    → (z : World) × RunsSchedule w schedule z × Shows m z
