-- Jobs over arrays alone, whose calls nobody else's events divide.
use Rattle.std.specs.Prelude.{◌≡◌, ℕ, ◌^◌, ◌<◌, ◌≤◌, ◌⊎◌, All, List, [], Some, length, slice_get}
use Rattle.bpf_shared.specs.Shape.{Shape, IsShape}
use Rattle.bpf_loader.specs.Loaded.{Loaded}
use Rattle.bpf_cpu.specs.Input.{IsShort}
use Rattle.bpf_cpu.specs.declared.input.Input.{Input}
use Rattle.bpf_cpu.specs.Task.{Task, Waiting}
use Rattle.bpf_threads.specs.Threads.{AreOnOneCpu, IsReadWhole}

pub record HasArraysAlone (h : Shape) (programs : List Loaded) (tasks : List Task) : Type 0 where
  pub shape : IsShape h
  -- there is no hash map
  pub maps : h.maps ≡ []
  -- each job waits
  pub waits : (j : ℕ) (task : Task) → slice_get tasks j ≡ Some task
      → (input : Input) × (task.stage ≡ Waiting input) × (IsShort input)
  -- they are so few that no CPU's run counter reaches its end
  pub few : length tasks < 2 ^ 62
  -- one CPU has all; or no call of theirs has a key or a value among those of arrays, nor copies a
  -- value in parts. So it is where `explore` leaves out its line on keys and values that threads see in
  -- part
  pub whole : AreOnOneCpu tasks ⊎ All (IsReadWhole h programs) tasks
