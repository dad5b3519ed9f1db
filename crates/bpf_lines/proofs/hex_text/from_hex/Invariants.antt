use Rattle.std.proofs.Common.{◌≤◌, ◌-◌, drop, length}
use Rattle.bpf_lines.specs.HexText.{digits_of}
use Rattle.bpf_lines.specs.Private.Digits.{IsReadTo}
use Rattle.bpf_lines.proofs.hex_text.from_hex.Given as goal

abbrev pub invariant-bytes : goal.invariant-bytes
invariant-bytes l = record {
  inside : l.at ≤ length l.fn.text;
  read : IsReadTo l.fn.text l.bytes.items (digits_of (drop l.at l.fn.text));
}

abbrev pub decreases-bytes : goal.decreases-bytes
decreases-bytes l = length l.fn.text - l.at
