use Rattle.std.proofs.Common.{◌<◌, ℕ}
use Rattle.std.specs.Prelude.{◌≡◌, Some, slice_get}
use Rattle.bpf_cpu.specs.Task.{Task}
use Rattle.bpf_machine.specs.Parts.{chosen}
use Rattle.bpf_equal.specs.Groups.{IsJobOf}
use Rattle.bpf_equal.specs.Peers.{Peer}
use Rattle.bpf_equal.proofs.twins.Twins.are_own.Given as goal

abbrev pub invariant-loop-place : goal.invariant-loop-place
invariant-loop-place l = (j : ℕ) (peer : Peer) (task : Task) → j < l.place → slice_get l.self.peers.items j ≡ Some peer
    → slice_get (chosen l.parts l.numbers) j ≡ Some task → IsJobOf peer task
