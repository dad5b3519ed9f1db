use Rattle.std.proofs.Common.{ℕ, List, subst}
use Rattle.bpf_replies.specs.Refusals.{file_refusal}
use Rattle.bpf_replies.specs.Running.{RefusesFile}
use Rattle.bpf_replies.proofs.Replied.{given, not_read}
use Rattle.bpf_replies.proofs.running.file_in.Goals as goal

pub returns-in_err-file-clause-refused : goal.returns-in_err-file-clause-refused
returns-in_err-file-clause-refused c =
    let e = c.in_err-file.field-0.0 in
    let refused = not_read c.as_bytes.result.now e c.in_err-file.ensures.refused in
    given _ (RefusesFile c.args.text.now) c.from_residual.result (file_refusal e) c.from_residual.ensures.1
    (subst (λ (bytes : List ℕ). RefusesFile bytes (file_refusal e)) c.as_bytes.ensures.value refused)
