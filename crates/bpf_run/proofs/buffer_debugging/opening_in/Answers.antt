use Rattle.std.proofs.Common.{◌≡◌, ◌∙◌, ℕ, List, false, true, sym, subst}
use Rattle.std.specs.List.{list_any}
use Rattle.bpf_lines.specs.Lines.{lines_of}
use Rattle.bpf_run.specs.BufferDebugging.{IsBufferOpened}
use Rattle.bpf_replies.specs.Script.{ends_file}
use Rattle.bpf_run.specs.declared.buffer_debugging.Opening.TheVariants as opening
use Rattle.bpf_replies.specs.declared.reply.Reply.TheVariants as reply
use Rattle.bpf_run.proofs.BufferOpened.{opened_refusal, opened_script, opened_talk}
use Rattle.bpf_replies.proofs.Replied.{given}
use Rattle.bpf_run.proofs.buffer_debugging.opening_in.Goals as goal

pub returns-in_err-reply-clause-refused : goal.returns-in_err-reply-clause-refused
returns-in_err-reply-clause-refused c =
    let E : List ℕ → Type 0 = λ input. list_any ends_file (lines_of input) ≡ true in
    let e = c.in_err-reply.field-0.0 in
    given _ (λ why. IsBufferOpened c.args.echo c.args.strict c.args.text.now (opening.Reply (reply.Refused why)))
    c.from_residual-in_err-reply.result e c.from_residual-in_err-reply.ensures.1
    (opened_script c.args.echo c.args.strict c.args.text.now (reply.Refused e)
    (subst E c.as_bytes.ensures.value (sym c.in_ok-ends.ensures ∙ c.if-ends.true)) c.in_err-reply.ensures)

pub returns-then-ends-clause-opened : goal.returns-then-ends-clause-opened
returns-then-ends-clause-opened c =
    let E : List ℕ → Type 0 = λ input. list_any ends_file (lines_of input) ≡ true in
    opened_script c.args.echo c.args.strict c.args.text.now c.in_ok-reply.reply
    (subst E c.as_bytes.ensures.value (sym c.in_ok-ends.ensures ∙ c.if-ends.true)) c.in_ok-reply.ensures

pub returns-in_err-session-clause-refused : goal.returns-in_err-session-clause-refused
returns-in_err-session-clause-refused c =
    let E : List ℕ → Type 0 = λ input. list_any ends_file (lines_of input) ≡ false in
    let e = c.in_err-session.field-0.0 in
    given _ (λ why. IsBufferOpened c.args.echo c.args.strict c.args.text.now (opening.Reply (reply.Refused why)))
    c.from_residual-in_err-session.result e c.from_residual-in_err-session.ensures.1
    (opened_refusal c.args.echo c.args.strict c.args.text.now e (subst E c.as_bytes.ensures.value
    (sym c.in_ok-ends.ensures ∙ c.if-ends.false)) c.in_err-session.ensures.refused)

pub returns-clause-opened : goal.returns-clause-opened
returns-clause-opened c =
    let E : List ℕ → Type 0 = λ input. list_any ends_file (lines_of input) ≡ false in
    let opened = c.in_ok-session.ensures.opened in
    opened_talk c.args.echo c.args.strict c.args.text.now c.in_ok-session.session opened.0
    (subst E c.as_bytes.ensures.value (sym c.in_ok-ends.ensures ∙ c.if-ends.false)) opened.1 opened.2
