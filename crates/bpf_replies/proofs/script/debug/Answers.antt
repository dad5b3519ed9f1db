use Rattle.std.proofs.Common.{◌≡◌, List, Result, String, Global, length, map, sym, subst}
use Rattle.std.specs.Prelude.{◌&&◌}
use Rattle.std.specs.Option.{option_copied}
use Rattle.bpf_lines.specs.Lines.{lines_behind}
use Rattle.bpf_machine.specs.Machine.{MachineState, Shows}
use Rattle.bpf_jobs.specs.Printed.{any_stopped}
use Rattle.bpf_file.specs.File.{file_of}
use Rattle.bpf_debug.specs.Script.{answer_of}
use Rattle.bpf_debug.specs.declared.error.DebugError.{DebugError}
use Rattle.bpf_replies.specs.Script.{any_refused, first_world_of}
use Rattle.bpf_replies.proofs.ScriptReplies.{ended}
use Rattle.bpf_replies.proofs.script.debug.Goals as goal

pub returns : goal.returns
returns c =
    let f = c.args.file in
    let T : MachineState → Type 0 = λ m. c.has_any_stopped.result ≡ any_stopped (length m.jobs) m.jobs in
    let S : MachineState → Type 0 = λ m. Shows m (first_world_of (file_of f)) in
    let made = c.in_ok-session.ensures in
    let R : List (Result (String Global) DebugError) → Type 0 = λ answers. c.is_refused-refused.result ≡
    (c.args.strict && any_refused (map answer_of answers)) in
    ended c.args.echo c.args.strict f (lines_behind (option_copied c.args.commands)) c.in_ok-session.session c.run_script.new.session
    (map answer_of c.in_ok-answers.answers.items)
    c.in_ok-lines.lines c.has_any_stopped.result c.is_refused-refused.result
    made.machine (subst S (sym made.first) made.machine) made.names made.breaks made.watch made.course c.in_ok-answers.ensures.answered
    c.in_ok-lines.ensures (subst T c.machine.ensures c.has_any_stopped.ensures) (subst R c.deref.ensures.value c.is_refused-refused.ensures)
