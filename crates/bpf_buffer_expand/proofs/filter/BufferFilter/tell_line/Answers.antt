use Rattle.std.proofs.lemmas.Result.{IfOk-weaker}
use Rattle.bpf_plain.proofs.Options.{at_some}
use Rattle.bpf_buffer_expand.proofs.Answered.{no_line}
use Rattle.bpf_buffer_expand.proofs.filter.BufferFilter.tell_line.Goals as goal

pub returns-in-Some-clause-none : goal.returns-in-Some-clause-none
returns-in-Some-clause-none c =
    IfOk-weaker c.tell.result _ _ (λ o none. no_line c.tell.new.self.host c.args.line.now c.in-Some.bytes.items c.deref.result.now c.requires
    (at_some _ _ _ c.in-Some.is c.in_ok-bytes.ensures.some) c.deref.ensures.value o none) c.tell.ensures.none
