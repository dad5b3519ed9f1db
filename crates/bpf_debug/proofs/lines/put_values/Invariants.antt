use Rattle.std.proofs.Common.{◌≡◌, ◌+◌, ◌*◌, ◌≤◌, ◌++◌, drop}
use Rattle.std.specs.Prelude.{string_bytes, string_len, string_capacity}
use Rattle.bpf_debug.specs.Answer.{register_lines}
use Rattle.bpf_debug.proofs.lines.put_values.Given as goal

abbrev pub invariant-loop-number : goal.invariant-loop-number
invariant-loop-number l = record {
  text : string_bytes l.out ++ register_lines l.number (drop l.number l.values) ≡ string_bytes l.fn.out ++ register_lines 0 l.values;
  size : string_len l.out ≤ string_len l.fn.out + 64 * l.number;
  room : string_capacity l.fn.out ≤ string_capacity l.out;
}
