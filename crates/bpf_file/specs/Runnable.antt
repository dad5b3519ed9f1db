-- What every run file has of what a machine asks of its jobs and programs.
use Rattle.std.specs.Prelude.{◌≡◌, ℕ, ◌<◌, ◌≤◌, All, length}
use Rattle.bpf_pairs.specs.Pairs.{ArePairs}
use Rattle.bpf_cpu.specs.Input.{IsShort}
use Rattle.bpf_cpu.specs.Task.{Task, Stage, Waiting}
use Rattle.bpf_file.specs.File.{File, named_by}

-- it waits, with a context of at most 4,096 bytes
abbrev pub WaitsShort : Stage → Type 0
WaitsShort (Waiting input) = IsShort input
WaitsShort stage = ⊥

-- a job for this many CPUs, of one of this many programs, that waits
pub record IsJobFor (cpus programs : ℕ) (task : Task) : Type 0 where
  pub cpu : task.cpu < cpus
  pub program : task.program < programs
  pub stage : WaitsShort task.stage

-- of what a text says
pub record CanRun (f : File) : Type 0 where
  pub jobs : All (IsJobFor f.cpus (length f.programs)) f.jobs
  pub named : All (λ program. program.named ≡ named_by f) f.programs
  pub pairs : ArePairs f.maps f.pairs
