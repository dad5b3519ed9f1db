use Rattle.std.proofs.Common.{◌+◌, ◌*◌, ◌≤◌}
use Rattle.std.specs.Prelude.{string_bytes, string_len, string_capacity}
use Rattle.bpf_machine.specs.Parts.{IsSameHost}
use Rattle.bpf_machine.specs.Questions.{open_jobs}
use Rattle.bpf_debug.proofs.ManyTurns.{Made}
use Rattle.bpf_debug.proofs.turns.make_turns.Given as goal

abbrev pub invariant-loop : goal.invariant-loop
invariant-loop l = record {
  made : Made l.fn.machine l.cpu (string_bytes l.fn.out) l.machine l.counter (string_bytes l.out);
  same : IsSameHost l.fn.machine l.machine;
  room : string_len l.out + 128 * open_jobs l.machine.jobs + 128 ≤ string_capacity l.out;
}
