use Rattle.std.proofs.Common.{◌≡◌, map}
use Rattle.std.specs.Prelude.{string_bytes}
use Rattle.bpf_plain.specs.PlainStore.{shapes_of}
use Rattle.bpf_debug.specs.Told.{shape_lines}
use Rattle.bpf_debug.proofs.told.shape_lines.Given as goal

abbrev pub invariant-loop-map : goal.invariant-loop-map
invariant-loop-map l =
    string_bytes l.text ≡ shape_lines (map string_bytes l.names) (shapes_of l.store) l.map
