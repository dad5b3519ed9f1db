use Rattle.std.proofs.Common.{◌≡◌, ℕ, ◌-◌, ◌≤◌, List, length, take}
use Rattle.bpf_shared.specs.declared.events.Event.{Event}
use Rattle.bpf_shared.specs.Chain.{Chain}
use Rattle.bpf_helpers.specs.Reads.{no_loads}
use Rattle.bpf_helpers.proofs.Parted.{Begins, IsCutAt}
use Rattle.bpf_helpers.proofs.copying.copy_own.Given as goal

abbrev pub decreases-loop-done : goal.decreases-loop-done
decreases-loop-done g l = length l.bytes - l.done

abbrev pub invariant-loop-done : goal.invariant-loop-done
invariant-loop-done g l = record {
  within : l.done ≤ length l.bytes;
  cut : IsCutAt l.done (length l.bytes - l.done);
  events : (from : ℕ) → (events : List Event) × Begins no_loads from l.to (length l.bytes) (take l.done l.bytes) events
      × Chain g.S.Shared.passes g.S.Shared.serves l.cpu l.initial.shared l.shared events;
  held : g.S.Shared.held l.shared ≡ g.S.Shared.held l.initial.shared;
  running : g.S.Shared.running l.shared ≡ g.S.Shared.running l.initial.shared;
  shapes : g.S.Shared.shapes l.shared ≡ g.S.Shared.shapes l.initial.shared;
}
