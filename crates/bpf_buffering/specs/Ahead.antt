-- Turns of the x86 machine that no other CPU sees: they can be made before all moves up to them. So a
-- search need keep no machine between a move and such turns after it.
use Rattle.std.specs.Prelude.{◌≡◌, ℕ, zero, suc, List, ◌⊎◌, Some, slice_get}
use Rattle.bpf_shared.specs.declared.events.Event.{Event}
use Rattle.bpf_loader.specs.Loaded.{Loaded}
use Rattle.bpf_cpu.specs.declared.cpu.Cpu.{Cpu}
use Rattle.bpf_cpu.specs.declared.outcome.Progress.TheVariants.{On}
use Rattle.bpf_cpu.specs.Step.{Step}
use Rattle.bpf_cpu.specs.Task.{Task, InHand}
use Rattle.bpf_machine.specs.Hands.{IsAt, with_stage}
use Rattle.bpf_machine.specs.Laws.{IsFresh}
use Rattle.bpf_machine.specs.Rounds.{HaveEnded}
use Rattle.bpf_machine.specs.Schedule.{World}
use Rattle.bpf_x86.specs.Buffers.{Buffered, CallsAll}
use Rattle.bpf_x86.specs.Forwarding.{AreStores}
use Rattle.bpf_x86.specs.Machine.{X86, Move, Moves, RunsMoves, buffered, drained}
use Rattle.bpf_buffering.specs.Search.{BufferedState, ShowsX86, IsShownX86, CannotMove}
use Rattle.bpf_buffering.specs.Alike.{IsKeptAlikeX86}

-- the machine with these stores, and the job in hand in this state with this many steps left
abbrev pub gone_on : X86 → Buffered → ℕ → Task → Cpu → ℕ → X86
gone_on x b j task state left = record {
  world = record x.world {
    store = b.memory;
    jobs = with_stage x.world.jobs j task (InHand state left);
  };
  buffers = b.buffers;
}

-- A TURN THAT IS UNSEEN: a job in hand makes a step and stays in hand, and the step calls nothing but
-- stores to values, which wait in the CPU's own buffer
pub record IsUnseen (x : X86) (c : ℕ) (z : X86) : Type 0 where
  pub job : ℕ
  pub task : Task
  pub old : Cpu
  pub left : ℕ
  pub at : IsAt x.world.jobs c job task (InHand old (suc (suc left)))
  pub program : Loaded
  pub loaded : slice_get x.world.programs task.program ≡ Some program
  pub events : List Event
  pub new : Cpu
  pub step : Step x.world.store.shape program old events On new
  pub stores : AreStores events
  pub after : Buffered
  pub calls : CallsAll (buffered x) c events after
  pub is : z ≡ gone_on x after job task new (suc left)

-- this many of them, all of one CPU
abbrev pub TakesUnseen : ℕ → X86 → ℕ → X86 → Type 0
TakesUnseen zero x c z = z ≡ x
TakesUnseen (suc n) x c z = (y : X86) × IsUnseen x c y × TakesUnseen n y c z

-- this many turns of the CPU that are unseen lead from what the first shows to what the second shows
abbrev pub RunsUnseen : BufferedState → ℕ → ℕ → BufferedState → Type 0
RunsUnseen old c n new =
    (x : X86) → ShowsX86 old x → (z : X86) × TakesUnseen n x c z × ShowsX86 new z

-- ---- what a search keeps
-- the move, and then turns of a CPU that are unseen, lead from what the first shows to what the second shows
abbrev pub MovesAhead : BufferedState → Move → BufferedState → Type 0
MovesAhead old move new = (x : X86) → ShowsX86 old x
    → (y : X86) × (z : X86) × (c : ℕ) × (n : ℕ) × Moves x move y × TakesUnseen n y c z × ShowsX86 new z

-- so each move from each kept machine leads to one that is kept, but for dead registers
abbrev pub IsClosedX86 : List BufferedState → Type 0
IsClosedX86 kept = (i : ℕ) (m : BufferedState) → slice_get kept i ≡ Some m → (move : Move)
    → ((new : BufferedState) × MovesAhead m move new × IsKeptAlikeX86 kept new) ⊎ CannotMove m move

-- THE LAW: a closed list that shows a machine before its first turn, when no job is in hand, shows each
-- machine without work that schedules of moves lead to
abbrev pub AheadSetsCoverX86 : Type 0
AheadSetsCoverX86 = (kept : List BufferedState) (w : World) (moves : List Move) (z : X86)
    → IsClosedX86 kept → IsFresh w → IsShownX86 kept (drained w) → RunsMoves (drained w) moves z
    → HaveEnded z.world.jobs → IsShownX86 kept z
