use Rattle.std.proofs.Common.{ℕ, List, subst, sym}
use Rattle.std.specs.Prelude.{string_bytes, Ok}
use Rattle.bpf_debug.proofs.ScriptLaws.{OneLine, line_done, line_refused}
use Rattle.bpf_debug.proofs.script.answer.Goals as goal

pub returns-in-Ok : goal.returns-in-Ok
returns-in-Ok c =
    let P : List ℕ → Type 0 = λ text. OneLine c.args.session.now c.command_bytes.new.self c.args.line.now (Ok text) in
    subst P (sym c.fitted.ensures)
    (line_done c.args.session.now c.command_bytes.new.self c.args.line.now (string_bytes c.in-Ok.text) c.in-Ok.ensures.answered)

pub returns-in-Err : goal.returns-in-Err
returns-in-Err c =
    line_refused c.args.session.now c.command_bytes.new.self c.args.line.now c.in-Err.error c.in-Err.ensures.refused c.in-Err.ensures.unchanged
