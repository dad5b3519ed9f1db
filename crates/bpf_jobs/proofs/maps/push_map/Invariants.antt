use Rattle.std.proofs.Common.{◌≡◌, ◌++◌}
use Rattle.std.specs.Prelude.{string_bytes}
use Rattle.bpf_shared.specs.Listing.{listed}
use Rattle.bpf_jobs.specs.Printed.{key_lines}
use Rattle.bpf_jobs.proofs.maps.push_map.Given as goal

abbrev pub invariant-loop-pair : goal.invariant-loop-pair
invariant-loop-pair l = string_bytes l.text ≡ string_bytes l.fn.text ++ key_lines l.name l.pair-index (listed l.pairs)
