-- Whether runs may have made the stores that wait, job by job and CPU by CPU.
use Rattle.std.specs.Prelude.{◌≡◌, ◌<◌, ◌≤◌, ◌-◌, ◌⊎◌, ℕ, false, All, List, [], length, slice_index_or}
use Rattle.bpf_shared.specs.Shape.{Shape, IsWithin}
use Rattle.bpf_shared.specs.declared.shapes.ArrayShape.{ArrayShape}
use Rattle.bpf_cpu.specs.declared.cpu.Cpu.{Cpu}
use Rattle.bpf_cpu.specs.Task.{Task, InHand}
use Rattle.bpf_buffering.specs.declared.waiting.Stored.{Stored}
use Rattle.bpf_buffer_expand.specs.State.{HasStored, MayHaveStored}

-- the n bytes from an address on are in a value of this array, which may be written and begins there
abbrev pub IsInArray : ℕ → ArrayShape → ℕ → ℕ → ℕ → Type 0
IsInArray cpus array start a n =
    (array.frozen ≡ false) × (start ≤ a) × IsWithin cpus array (a - start) n

-- the job is in the CPU's hand, and its run may have made these
abbrev pub HasMade : Shape → Task → ℕ → List Stored → Type 0
HasMade h task c es = (state : Cpu) × (left : ℕ) × (task.cpu ≡ c) × (task.stage ≡ InHand state left)
    × All (MayHaveStored h state.held) es

-- nothing waits of the CPU, or what its run may have stored
abbrev pub FitsCpu : Shape → List Task → ℕ → List Stored → Type 0
FitsCpu h jobs c es = (es ≡ []) ⊎ HasStored h jobs c es

abbrev pub FitAll : Shape → List Task → List (List Stored) → Type 0
FitAll h jobs buffers = (c : ℕ) → c < length buffers → FitsCpu h jobs c (slice_index_or buffers c [])
