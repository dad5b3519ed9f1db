use Rattle.std.proofs.Common.{◌≡◌, ◌≤◌, ◌-◌, drop, length}
use Rattle.bpf_lines.specs.HexText.{digits_of}
use Rattle.bpf_lines.proofs.hex_text.look_ahead.Given as goal

abbrev pub invariant-loop-at : goal.invariant-loop-at
invariant-loop-at l = record {
  behind : l.«from» ≤ l.at;
  inside : l.at ≤ length l.text;
  same : digits_of (drop l.«from» l.text) ≡ digits_of (drop l.at l.text);
}

abbrev pub decreases-loop-at : goal.decreases-loop-at
decreases-loop-at l = length l.text - l.at
