use Rattle.std.proofs.Common.{map}
use Rattle.std.specs.Prelude.{string_bytes}
use Rattle.bpf_debug.specs.Held.{ShowsHeld}
use Rattle.bpf_debug.proofs.held.held_lines.Given as goal

abbrev pub invariant-loop-span : goal.invariant-loop-span
invariant-loop-span l = ShowsHeld (map string_bytes l.names) l.store l.state l.span-index (string_bytes l.text)
