-- What worker threads print is one of what turns lead to.
use Rattle.std.specs.Prelude.{◌≡◌, ◌<◌, ◌^◌, false, [], length}
use Rattle.bpf_shared.specs.Shape.{IsShape}
use Rattle.bpf_file.specs.File.{File, shape_of}
use Rattle.bpf_machine.specs.Laws.{IsFresh}
use Rattle.bpf_machine.specs.Schedule.{World}
use Rattle.bpf_jobs.specs.Printed.{first_world}
use Rattle.bpf_workers.specs.Printed.{Asked, Printed, IsWorkersReport}
use Rattle.bpf_explore.specs.Outcomes.{IsOutcome}
use Rattle.bpf_agreement.specs.Arrays.{HasArraysAlone}
use Rattle.bpf_agreement.specs.Calm.{StepsAreCalm}

-- the file's machine before the first turn
abbrev pub machine_of : File → World
machine_of f = first_world (shape_of f) f.pairs f.programs f.jobs

-- where the file has arrays alone, and each call is one event, or one CPU has all jobs: what workers
-- print without lists of keys is an outcome, so some order of turns leads to a machine of which the same
-- is printed
abbrev pub WorkersPrintOutcomes : Type 0
WorkersPrintOutcomes = (f : File) (asked : Asked) (printed : Printed)
    → HasArraysAlone (shape_of f) f.programs f.jobs → asked.keys ≡ false
    → IsWorkersReport f asked printed
    → IsOutcome (machine_of f) f.names asked.maps printed.text printed.stopped

-- the same, where no map has a pair at first, and each step that turns reach is one event at most, and
-- asks for no change of a hash map
abbrev pub CalmWorkersPrintOutcomes : Type 0
CalmWorkersPrintOutcomes = (f : File) (asked : Asked) (printed : Printed)
    → IsShape (shape_of f) → f.pairs ≡ [] → length f.jobs < 2 ^ 62 → IsFresh (machine_of f)
    → StepsAreCalm (machine_of f) → asked.keys ≡ false → IsWorkersReport f asked printed
    → IsOutcome (machine_of f) f.names asked.maps printed.text printed.stopped
