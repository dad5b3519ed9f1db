use Rattle.std.proofs.Common.{◌≡◌, ℕ, ◌-◌, ◌≤◌, List, length}
use Rattle.bpf_shared.specs.declared.events.Event.{Event}
use Rattle.bpf_shared.specs.Chain.{Chain}
use Rattle.bpf_helpers.specs.Reads.{loads}
use Rattle.bpf_helpers.proofs.Parted.{Begins, IsCutAt}
use Rattle.bpf_helpers.proofs.copying.copy_shared.Given as goal

abbrev pub decreases-loop-done : goal.decreases-loop-done
decreases-loop-done g l = l.count - l.done

abbrev pub invariant-loop-done : goal.invariant-loop-done
invariant-loop-done g l = record {
  within : l.done ≤ l.count;
  cut : IsCutAt l.done (l.count - l.done);
  copied : (bytes : List ℕ) × (events : List Event) × (length bytes ≡ l.done) × Begins loads l.from l.to l.count bytes events
      × Chain g.S.Shared.passes g.S.Shared.serves l.cpu l.initial.shared l.shared events;
  held : g.S.Shared.held l.shared ≡ g.S.Shared.held l.initial.shared;
  running : g.S.Shared.running l.shared ≡ g.S.Shared.running l.initial.shared;
  shapes : g.S.Shared.shapes l.shared ≡ g.S.Shared.shapes l.initial.shared;
}
