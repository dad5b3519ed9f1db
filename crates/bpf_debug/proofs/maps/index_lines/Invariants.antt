use Rattle.std.proofs.Common.{◌≡◌}
use Rattle.std.specs.Prelude.{string_bytes}
use Rattle.bpf_debug.specs.Read.{index_lines}
use Rattle.bpf_debug.proofs.maps.index_lines.Given as goal

abbrev pub invariant-loop-index : goal.invariant-loop-index
invariant-loop-index l = string_bytes l.text ≡ index_lines l.index
