use Rattle.std.proofs.Common.{◌≡◌, length, map}
use Rattle.std.specs.Prelude.{string_bytes}
use Rattle.bpf_plain.specs.PlainStore.{shape_of}
use Rattle.bpf_debug.specs.Told.{array_lines}
use Rattle.bpf_debug.proofs.told.array_lines.Given as goal

abbrev pub invariant-loop-array : goal.invariant-loop-array
invariant-loop-array l =
    string_bytes l.text ≡ array_lines (map string_bytes l.names) (length (shape_of l.store).maps) (shape_of l.store).arrays l.array
