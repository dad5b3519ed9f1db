-- What CPUs' next steps touch of values.
use Rattle.std.specs.Prelude.{◌≡◌, ℕ, List, Some}
use Rattle.bpf_shared.specs.declared.events.Event.{Event}
use Rattle.bpf_machine.specs.declared.machine.Stand.{Stand}
use Rattle.bpf_machine.specs.Schedule.{World}
use Rattle.bpf_machine.specs.Machine.{MachineState, Shows}
use Rattle.bpf_machine.specs.Race.{HasNext}
use Rattle.bpf_races.specs.declared.access.Access.{Access}
use Rattle.bpf_races.specs.Touch.{access_of, IsAmong}

-- where a CPU is, and what its next step touches
pub record NextStep : Type 0 where
  pub here : Stand
  pub accesses : List Access

-- it is there where its next step has an event at values, and that touches this
pub record IsNext (w : World) (next : NextStep) : Type 0 where
  pub each : (a : Access) → IsAmong next.accesses a
      → (event : Event) × HasNext w next.here event × (access_of event ≡ Some a)
  pub all : (here : Stand) (event : Event) (a : Access) → here.cpu ≡ next.here.cpu
      → HasNext w here event → access_of event ≡ Some a
      → (here ≡ next.here) × IsAmong next.accesses a

-- so it is in each world that the machine shows
abbrev pub IsNextIn : MachineState → NextStep → Type 0
IsNextIn m next = (w : World) → Shows m w → IsNext w next
