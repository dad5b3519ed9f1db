use Rattle.std.proofs.Common.{ℕ, List, subst, sym}
use Rattle.std.specs.Prelude.{string_bytes, Ok}
use Rattle.bpf_buffer_debug.proofs.ScriptLaws.{OneLine, line_followed, line_refused}
use Rattle.bpf_buffer_debug.proofs.script.answer.Goals as goal

pub returns-in-Ok : goal.returns-in-Ok
returns-in-Ok c =
    let s = c.args.session.now in
    let t = c.command_bytes.new.self in
    let line = c.args.line.now in
    let told = c.in-Ok.ensures in
    let P : List ℕ → Type 0 = λ text. OneLine s t line (Ok text) in
    subst P (sym c.fitted.ensures) (line_followed s t line (string_bytes c.in-Ok.text)
    (λ lost. (let nothing = told.nothing lost in (nothing.0, nothing.1, told.lost lost))) told.answered)

pub returns-in-Err : goal.returns-in-Err
returns-in-Err c =
    let told = c.in-Err.ensures in
    line_refused c.args.session.now c.command_bytes.new.self c.args.line.now c.in-Err.error told.refused told.stays
    (λ lost. (let refused = told.words lost in (refused.0, refused.1, told.lost lost)))
