-- Where no move leads on, all jobs have ended.
use Rattle.std.proofs.Common.{◌≡◌, ◌⊎◌, ℕ, List, [], Some, inl, inr, refl, sym, subst}
use Rattle.std.specs.Prelude.{slice_get}
use Rattle.bpf_cpu.specs.declared.outcome.Outcome.{Outcome}
use Rattle.bpf_cpu.specs.Task.{Stage, Task, Waiting, InHand, Ended}
use Rattle.bpf_machine.specs.Rounds.{HaveEnded}
use Rattle.bpf_x86.specs.Machine.{Move, TurnOf}
use Rattle.bpf_buffering.specs.Search.{BufferedState}
use Rattle.bpf_expand.specs.State.{Host}
use Rattle.bpf_buffer_expand.specs.State.{AreSuccessors, HasNoneIn, HasSuccessor, IsStateOf}
use Rattle.bpf_buffer_expand.proofs.Alike.{jobs_too}

module _ (h : Host) (bytes : List ℕ) where
  -- nothing is found where there is nothing to move
  none_of : (move : Move) → (HasNoneIn h bytes move ⊎ HasSuccessor h bytes [] move) → HasNoneIn h bytes move
  none_of move (inl none) = none
  none_of move (inr (i, s, there, of, more)) = cc

  here_too : (xs ys : List Task) (j : ℕ) (task : Task) → xs ≡ ys → slice_get ys j ≡ Some task → slice_get xs j ≡ Some task
  here_too xs ys j task same at = subst (λ (ts : List Task). slice_get ts j ≡ Some task) (sym same) at

  -- a job of a CPU without work has ended
  has_ended : (m : BufferedState) (j : ℕ) (task : Task) (stage : Stage) → IsStateOf h m bytes → slice_get m.machine.jobs j ≡ Some task → task.stage ≡
      stage → HasNoneIn h bytes (TurnOf task.cpu)
      → (outcome : Outcome) × (task.stage ≡ Ended outcome)
  has_ended m j task (Ended outcome) is at stands idle = (outcome, stands)
  has_ended m j task (InHand state left) is at stands (x, isx, (free, none)) =
      absurd (free j task state left
      (record { listed = here_too x.machine.jobs m.machine.jobs j task (jobs_too h x m bytes isx is) at; of = refl; at = stands }))
  has_ended m j task (Waiting input) is at stands (x, isx, (free, none)) =
      absurd (none j task input
      (record { listed = here_too x.machine.jobs m.machine.jobs j task (jobs_too h x m bytes isx is) at; of = refl; at = stands }))

  -- so where nothing is found all jobs have ended
  pub all_ended : (m : BufferedState) → IsStateOf h m bytes → AreSuccessors h bytes [] → HaveEnded m.machine.jobs
  all_ended m is are j task at = has_ended m j task task.stage is at refl (none_of (TurnOf task.cpu) (are.all (TurnOf task.cpu)))
