use Rattle.std.proofs.lemmas.Result.{IfOk-weaker}
use Rattle.bpf_json.proofs.objects.object_of.Goals as goal

pub returns : goal.returns
returns c =
    let line = c.in_ok-line_of.field-0 in
    IfOk-weaker c.object.result _ _ (λ object made. (line, c.in_ok-line_of.ensures.right, c.in_ok-line_of.ensures.plain, made)) c.object.ensures
