use Rattle.std.proofs.Common.{◌≡◌, ◌+◌, ◌++◌, ◌%◌, slice_index, take}
use Rattle.bpf_plain.specs.Private.Changes.{changes_from}
use Rattle.bpf_plain.proofs.changes.push_part.Given as goal

abbrev pub invariant-loop-step : goal.invariant-loop-step
invariant-loop-step l = record {
  place : l.place ≡ (l.offset + l.step) % l.stride;
  out : l.out.items ≡ l.fn.out.items ++ changes_from (λ x. slice_index l.first (x % l.stride)) l.offset (take l.step l.part);
}
