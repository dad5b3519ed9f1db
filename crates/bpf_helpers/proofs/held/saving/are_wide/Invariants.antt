use Rattle.std.proofs.Common.{take}
use Rattle.std.specs.Prelude.{All}
use Rattle.bpf_helpers.specs.Saved.{IsWide}
use Rattle.bpf_helpers.proofs.held.saving.are_wide.Given as goal

abbrev pub invariant-loop-span : goal.invariant-loop-span
invariant-loop-span l = All IsWide (take l.span-index l.spans)
