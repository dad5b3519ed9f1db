use Rattle.std.proofs.lemmas.Result.{IfOk-weaker}
use Rattle.bpf_buffer_expand.proofs.Telling.{no_buffer_at}
use Rattle.bpf_buffer_expand.proofs.buffers.read_buffer.Goals as goal

pub returns-clause-none : goal.returns-clause-none
returns-clause-none c =
    IfOk-weaker c.read_all.result _ _ (λ o none. no_buffer_at o c.args.bytes.now c.in-Some.rest.now c.in-Some.count c.in-Some.ensures.word
    c.in-Some.ensures.some none)
    c.read_all.ensures.none
