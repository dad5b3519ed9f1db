-- What is kept of a machine before its first turn, and the machine that it is made again of.
use Rattle.std.specs.Prelude.{◌≡◌, ℕ, ◌<◌, List, None, All, length, nat_lt}
use Rattle.bpf_shared.specs.Shape.{Shape}
use Rattle.bpf_plain.specs.PlainStore.{Contents, shape_of, has_cpu}
use Rattle.bpf_plain.specs.Alike.{IsSameShape}
use Rattle.bpf_loader.specs.Loaded.{Loaded}
use Rattle.bpf_cpu.specs.Task.{Task}
use Rattle.bpf_machine.specs.Machine.{MachineState, Shows}
use Rattle.bpf_machine.specs.Schedule.{World}
use Rattle.bpf_machine.specs.Parts.{CanStand, made_of}

-- its store, its jobs as they stood, and their numbers
pub record OriginState : Type 0 where
  pub store : Contents
  pub jobs : List Task
  pub numbers : List ℕ

-- the machine that is made again of them, with these programs
abbrev pub first_of : OriginState → List Loaded → MachineState
first_of o programs = made_of o.store programs o.jobs o.numbers

-- a machine of these programs can become it again, and it shows a plain machine
pub record CanRewind (o : OriginState) (m : MachineState) : Type 0 where
  pub lists : m.lists ≡ None
  pub shape : IsSameShape o.store m.store
  pub within : All (λ n. n < length o.jobs) o.numbers
  pub stands : CanStand (first_of o m.programs)
  pub shown : (w : World) × Shows (first_of o m.programs) w

-- the store has the maps and CPUs of this shape
abbrev pub IsOfShape : Shape → Contents → Type 0
IsOfShape h p = (shape_of p ≡ h) × ((c : ℕ) → has_cpu p c ≡ nat_lt c h.cpus)
