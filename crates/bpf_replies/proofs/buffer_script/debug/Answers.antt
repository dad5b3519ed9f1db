use Rattle.std.proofs.Common.{◌≡◌, List, Result, String, Global, length, map, subst}
use Rattle.std.specs.Prelude.{◌&&◌}
use Rattle.std.specs.Option.{option_copied}
use Rattle.bpf_lines.specs.Lines.{lines_behind}
use Rattle.bpf_buffering.specs.Search.{BufferedState}
use Rattle.bpf_jobs.specs.Printed.{any_stopped}
use Rattle.bpf_debug.specs.Script.{answer_of}
use Rattle.bpf_debug.specs.declared.error.DebugError.{DebugError}
use Rattle.bpf_replies.specs.Script.{any_refused}
use Rattle.bpf_replies.proofs.BufferReplies.{ended}
use Rattle.bpf_replies.proofs.buffer_script.debug.Goals as goal

pub returns : goal.returns
returns c =
    let T : BufferedState → Type 0 = λ m. c.has_any_stopped.result ≡ any_stopped (length m.machine.jobs) m.machine.jobs in
    let R : List (Result (String Global) DebugError) → Type 0 = λ answers. c.is_refused-refused.result ≡
    (c.args.strict && any_refused (map answer_of answers)) in
    ended c.args.echo c.args.strict c.args.file (lines_behind (option_copied c.args.commands)) c.in_ok-session.session c.run_script.new.session
    (map answer_of c.in_ok-answers.answers.items) c.in_ok-lines.lines c.has_any_stopped.result c.is_refused-refused.result
    c.in_ok-session.ensures c.in_ok-answers.ensures c.in_ok-lines.ensures (subst T c.machine.ensures c.has_any_stopped.ensures)
    (subst R c.deref.ensures.value c.is_refused-refused.ensures)
