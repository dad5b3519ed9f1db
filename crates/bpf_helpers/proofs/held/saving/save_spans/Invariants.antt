use Rattle.std.proofs.Common.{◌≡◌, ◌++◌, take}
use Rattle.std.specs.List.{flat_map}
use Rattle.bpf_helpers.specs.Saved.{span_saved}
use Rattle.bpf_helpers.proofs.held.saving.save_spans.Given as goal

abbrev pub invariant-loop-span : goal.invariant-loop-span
invariant-loop-span l = l.out.items ≡ l.fn.out.items ++ flat_map span_saved (take l.span-index l.spans)
