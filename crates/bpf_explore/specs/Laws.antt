-- What follows for the answers.
use Rattle.std.specs.Prelude.{◌≡◌, ℕ, Bool, List, Some, slice_get}
use Rattle.bpf_shared.specs.Store.{Plain}
use Rattle.bpf_shared.specs.Sound.{IsSoundStore}
use Rattle.bpf_names.specs.Names.{Names}
use Rattle.bpf_plain.specs.PlainStore.{StandsFor}
use Rattle.bpf_machine.specs.Schedule.{World}
use Rattle.bpf_machine.specs.Rounds.{HaveEnded}
use Rattle.bpf_machine.specs.Machine.{MachineState}
use Rattle.bpf_jobs.specs.Printed.{Tells}
use Rattle.bpf_explore.specs.Album.{BeginsAt}
use Rattle.bpf_explore.specs.Outcomes.{Found, HaveAll}
use Rattle.bpf_explore.specs.Search.{ShowsEnds}

-- what is printed of a machine is one of the answers
abbrev pub IsAnswered : Names → Bool → List Found → MachineState → Type 0
IsAnswered names maps answers m =
    (i : ℕ) × (found : Found) × (slice_get answers i ≡ Some found)
    × ((s : Plain) → IsSoundStore s → StandsFor m.store s
    → Tells s m.jobs names maps found.text found.stopped)

-- where kept machines show each end, and what is printed of each of them that has no work is an answer,
-- no outcome is left out
abbrev pub CoverTellsAll : Type 0
CoverTellsAll =
    (kept : List MachineState) (w : World) (names : Names) (maps : Bool)
    (answers : List Found) → ShowsEnds kept → BeginsAt kept w
    → ((i : ℕ) (m : MachineState) → slice_get kept i ≡ Some m → HaveEnded m.jobs
    → IsAnswered names maps answers m)
    → HaveAll w names maps answers
