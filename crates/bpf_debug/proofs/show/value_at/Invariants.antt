use Rattle.std.proofs.Common.{◌≡◌, drop}
use Rattle.bpf_debug.specs.Show.{value_at}
use Rattle.bpf_debug.proofs.show.value_at.Given as goal

abbrev pub invariant-loop-span : goal.invariant-loop-span
invariant-loop-span l = value_at (drop l.span-index l.held) l.address ≡ value_at l.held l.address
