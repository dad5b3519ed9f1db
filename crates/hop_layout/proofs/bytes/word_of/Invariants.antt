use Rattle.std.specs.Prelude.{◌≡◌, ◌<◌, ◌+◌, ◌*◌, ◌-◌}
use Rattle.bpf_base.specs.Bytes.{little_endian, part}
use Rattle.hop_layout.proofs.Parts.{cap}
use Rattle.hop_layout.proofs.bytes.word_of.Given as goal

abbrev pub invariant-bytes : goal.invariant-bytes
invariant-bytes l = (l.number ≡ little_endian (part l.bytes (8 * l.word + (9 - l.passed)) (l.passed - 1))) × (l.number < cap (l.passed - 1))
