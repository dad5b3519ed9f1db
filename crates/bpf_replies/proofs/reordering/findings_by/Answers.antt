use Rattle.std.proofs.Common.{Bool, sym, subst}
use Rattle.std.specs.Prelude.{IfOk}
use Rattle.bpf_replies.specs.Reordering.{AreFindingsIn}
use Rattle.bpf_replies.proofs.reordering.findings_by.Goals as goal

pub returns-then-sought-clause-found : goal.returns-then-sought-clause-found
returns-then-sought-clause-found g c =
    let o = c.args.sought.search.now in
    subst (λ (x86 : Bool). IfOk c.findings_with_buffers.result (AreFindingsIn x86 o.patient o.limit c.args.text.now))
    (sym c.if-sought.true) c.findings_with_buffers.ensures.found

pub returns-else-sought-clause-found : goal.returns-else-sought-clause-found
returns-else-sought-clause-found g c =
    let o = c.args.sought.search.now in
    subst (λ (x86 : Bool). IfOk c.findings_in.result (AreFindingsIn x86 o.patient o.limit c.args.text.now))
    (sym c.if-sought.false) c.findings_in.ensures.found
