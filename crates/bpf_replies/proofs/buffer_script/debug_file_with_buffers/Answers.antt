use Rattle.std.proofs.Common.{List, ℕ, subst}
use Rattle.std.specs.Option.{option_copied}
use Rattle.bpf_lines.specs.Lines.{lines_behind}
use Rattle.bpf_replies.specs.Refusals.{file_refusal}
use Rattle.bpf_replies.specs.Script.{IsCut}
use Rattle.bpf_replies.specs.BufferScript.{IsBufferScriptOfFile}
use Rattle.bpf_replies.specs.declared.reply.Reply.TheVariants as reply
use Rattle.bpf_replies.proofs.Replied.{given}
use Rattle.bpf_replies.proofs.BufferReplies.{of_file, of_no_file}
use Rattle.bpf_replies.proofs.buffer_script.debug_file_with_buffers.Goals as goal

pub returns-in_err-file : goal.returns-in_err-file
returns-in_err-file c =
    let parts = c.in_ok-parts.parts in
    let commands = lines_behind (option_copied parts.commands) in
    let C : List ℕ → Type 0 = λ input. IsCut input parts.file.now commands in
    let e = c.in_err-file.field-0.0 in
    given _ (λ why. IsBufferScriptOfFile c.args.echo c.args.strict c.args.input.now (reply.Refused why)) c.from_residual-in_err-file.result
    (file_refusal e) c.from_residual-in_err-file.ensures.1
    (of_no_file c.args.echo c.args.strict c.args.input.now parts.file.now commands e
    (subst C c.as_bytes.ensures.value c.in_ok-parts.ensures) c.in_err-file.ensures.refused)

pub returns : goal.returns
returns c =
    let parts = c.in_ok-parts.parts in
    let commands = lines_behind (option_copied parts.commands) in
    let C : List ℕ → Type 0 = λ input. IsCut input parts.file.now commands in
    of_file c.args.echo c.args.strict c.args.input.now parts.file.now commands c.in_ok-file.file c.in_ok-reply.reply
    (subst C c.as_bytes.ensures.value c.in_ok-parts.ensures) c.in_ok-file.ensures.said c.in_ok-reply.ensures
