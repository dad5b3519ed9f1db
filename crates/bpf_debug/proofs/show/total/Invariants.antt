use Rattle.std.proofs.Common.{◌≡◌, ◌+◌, drop, map}
use Rattle.std.specs.Prelude.{string_bytes}
use Rattle.bpf_debug.specs.Private.Room.{total}
use Rattle.bpf_debug.proofs.show.total.Given as goal

abbrev pub invariant-loop-line : goal.invariant-loop-line
invariant-loop-line l =
    l.sum + total (map string_bytes (drop l.line-index l.lines)) ≡ total (map string_bytes l.lines)
