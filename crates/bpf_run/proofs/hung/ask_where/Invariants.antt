use Rattle.std.proofs.Common.{string_bytes}
use Rattle.bpf_run.specs.Private.Asking.{AsksWhere}
use Rattle.bpf_run.proofs.hung.ask_where.Given as goal

abbrev pub invariant-loop-cpu : goal.invariant-loop-cpu
invariant-loop-cpu g l = AsksWhere g.R.Respond.answers l.cpu-counter l.fn.debugger (string_bytes l.places) l.debugger
