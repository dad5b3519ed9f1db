-- Which step a CPU is about to make.
use Rattle.std.specs.Prelude.{◌≡◌, ℕ, ◌⊎◌}
use Rattle.bpf_shared.specs.declared.events.Event.TheVariants.{Begin}
use Rattle.bpf_shared.specs.Store.{Plain}
use Rattle.bpf_shared.specs.Choice.{PlainlyAllowed}
use Rattle.bpf_cpu.specs.declared.input.Input.{Input}
use Rattle.bpf_cpu.specs.declared.cpu.Cpu.{Cpu}
use Rattle.bpf_cpu.specs.State.{start}
use Rattle.bpf_cpu.specs.Task.{Task, Waiting, InHand}
use Rattle.bpf_machine.specs.Hands.{IsAt, IsFree, NoneWaitsBelow}
use Rattle.bpf_machine.specs.Schedule.{World}

-- the CPU has none in hand, and this is its lowest job that waits: its run begins, and leaves this
-- store and this state
pub record BeginsWith (w : World) (c j : ℕ) (task : Task) (state : Cpu) (left : ℕ) (s : Plain)
    : Type 0 where
  pub free : IsFree w.jobs c
  pub input : Input
  pub at : IsAt w.jobs c j task (Waiting input)
  pub lowest : NoneWaitsBelow w.jobs c j
  pub begun : PlainlyAllowed w.store c Begin s
  pub fresh : state ≡ start c input
  pub budget : left ≡ task.budget

-- the CPU's next turn is a step of the j-th job, from this state and with this many steps left, over
-- this store: the job is in hand, or it begins
abbrev pub IsNextStep : World → ℕ → ℕ → Task → Cpu → ℕ → Plain → Type 0
IsNextStep w c j task state left s =
    (IsAt w.jobs c j task (InHand state left) × (s ≡ w.store))
    ⊎ BeginsWith w c j task state left s
