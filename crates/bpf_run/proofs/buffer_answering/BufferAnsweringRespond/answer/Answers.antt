use Rattle.std.proofs.Common.{refl}
use Rattle.bpf_debug.specs.Script.{answer_of}
use Rattle.bpf_run.proofs.Talked.{refused_as}
use Rattle.bpf_run.proofs.buffer_answering.BufferAnsweringRespond.answer.Goals as goal

pub returns : goal.returns
returns c = λ x shown.
    let one = c.answer.ensures x shown in
    (one.0, (answer_of c.answer.result, one.1, refl, refused_as c.answer.result c.is_err.result c.is_err.ensures.value), one.2)
