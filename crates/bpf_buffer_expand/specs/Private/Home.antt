-- The parts of an expander fit each other.
use Rattle.std.specs.Prelude.{◌≡◌, ℕ, ◌++◌, List, None, Some, length, slice_get}
use Rattle.bpf_shared.specs.Shape.{Shape}
use Rattle.bpf_plain.specs.PlainStore.{IsSavedAs}
use Rattle.bpf_cpu.specs.Task.{Task}
use Rattle.bpf_machine.specs.Parts.{CanStand}
use Rattle.bpf_machine.specs.Saved.{jobs_saved, AreLater, FitsBytes}
use Rattle.bpf_buffering.specs.declared.waiting.Stored.{Stored}
use Rattle.bpf_buffering.specs.Search.{BufferedState}
use Rattle.bpf_explore.specs.Stores.{IsOfShape}
use Rattle.bpf_expand.specs.State.{Host}
use Rattle.bpf_buffer_expand.specs.Saved.{buffers_saved}
use Rattle.bpf_buffer_expand.specs.State.{AreBuffers}
use Rattle.bpf_buffer_expand.specs.Private.Room.{IsRoom}
use Rattle.bpf_buffer_expand.specs.declared.room.Room.{Room}

-- a machine and room of this shape, with as many jobs
pub record IsHome (h : Shape) (m : BufferedState) (r : Room) : Type 0 where
  pub shape : IsOfShape h m.machine.store
  pub lists : m.machine.lists ≡ None
  pub room : IsRoom h r
  pub count : length m.machine.jobs ≡ length r.first.items

-- the machine is of the host, and fits into bytes, with what waits
pub record IsFit (h : Host) (m : BufferedState) (waiting : List (List Stored)) : Type 0 where
  pub later : AreLater h.jobs m.machine.jobs
  pub fit : (j : ℕ) (task : Task) → slice_get m.machine.jobs j ≡ Some task → FitsBytes task.stage
  pub stands : CanStand m.machine
  pub buffers : AreBuffers h.shape m.machine.jobs waiting

-- the machine is saved as these bytes, with what waits
abbrev pub IsSavedWith : BufferedState → List (List Stored) → List ℕ → Type 0
IsSavedWith m waiting bytes = (store : List ℕ) × IsSavedAs m.machine.store store
    × (bytes ≡ jobs_saved m.machine.jobs ++ (buffers_saved waiting ++ store))
