use Rattle.std.proofs.Common.{◌≡◌, ◌+◌, ◌≤◌, ◌++◌, drop, map}
use Rattle.std.specs.Prelude.{string_bytes, string_capacity, string_len}
use Rattle.bpf_debug.specs.Show.{changed_text}
use Rattle.bpf_debug.specs.Private.Room.{total}
use Rattle.bpf_debug.proofs.show.put_changed.Given as goal

abbrev pub invariant-loop-register : goal.invariant-loop-register
invariant-loop-register l = record {
  text : string_bytes l.out ++ changed_text l.before l.register (drop l.register l.now) (map string_bytes (drop l.register l.lines))
      ≡ string_bytes l.fn.out ++ changed_text l.before 0 l.now (map string_bytes l.lines);
  room : string_len l.out + total (map string_bytes (drop l.register l.lines)) ≤ string_capacity l.out;
}
