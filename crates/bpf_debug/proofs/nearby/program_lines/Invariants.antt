use Rattle.std.specs.Prelude.{string_bytes}
use Rattle.bpf_debug.specs.Nearby.{TellsLines, first_shown}
use Rattle.bpf_debug.proofs.nearby.program_lines.Given as goal

abbrev pub invariant-loop-place : goal.invariant-loop-place
invariant-loop-place l = TellsLines l.program l.here (first_shown l.here) l.place (string_bytes l.text)
