use Rattle.std.proofs.Common.{◌≡◌, length}
use Rattle.std.specs.Prelude.{string_bytes}
use Rattle.bpf_names.specs.Names.{names_of}
use Rattle.bpf_plain.specs.PlainStore.{shape_of}
use Rattle.bpf_debug.specs.Told.{place_lines}
use Rattle.bpf_debug.proofs.told.place_lines.Given as goal

abbrev pub invariant-loop-variable : goal.invariant-loop-variable
invariant-loop-variable l =
    string_bytes l.text ≡ place_lines (names_of l.names).maps (length (shape_of l.store).maps) (names_of l.names).variables l.variable-index
