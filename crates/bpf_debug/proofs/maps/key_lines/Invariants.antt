use Rattle.std.proofs.Common.{◌≡◌}
use Rattle.std.specs.Prelude.{string_bytes}
use Rattle.bpf_shared.specs.Listing.{listed}
use Rattle.bpf_debug.specs.Read.{key_lines}
use Rattle.bpf_debug.proofs.maps.key_lines.Given as goal

abbrev pub invariant-loop-pair : goal.invariant-loop-pair
invariant-loop-pair l = string_bytes l.text ≡ key_lines l.pair-index (listed l.pairs)
