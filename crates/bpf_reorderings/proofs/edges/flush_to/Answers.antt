use Rattle.std.proofs.Common.{◌≡◌, ℕ, Some, sym, ap, subst, arith}
use Rattle.bpf_reorderings.specs.Private.Edges.{FlushLeads}
use Rattle.bpf_reorderings.proofs.Marking.{flush_there, none_added}
use Rattle.bpf_reorderings.proofs.edges.flush_to.Goals as goal

pub returns-in_default-clause-same : goal.returns-in_default-clause-same
returns-in_default-clause-same c = none_added c.args.explorer.now.kept c.flush.new.self.kept c.flush.ensures.extends (omega arith)

pub returns-in_default-clause-leads : goal.returns-in_default-clause-leads
returns-in_default-clause-leads c =
    let old = c.args.explorer.now.kept in
    let same = none_added old c.flush.new.self.kept c.flush.ensures.extends (omega arith) in
    let here = flush_there c.args.explorer.now.patient old c.flush.new.self.kept c.args.place c.args.cpu c.in_ok-flushed.flushed same c.requires.patient
    c.requires.place c.in_ok-flushed.ensures.moved in
    subst (FlushLeads old c.args.place c.args.cpu) c.in_default.is here

pub returns-clause-same : goal.returns-clause-same
returns-clause-same c = none_added c.args.explorer.now.kept c.flush.new.self.kept c.flush.ensures.extends (omega arith)

pub returns-clause-leads : goal.returns-clause-leads
returns-clause-leads c =
    let old = c.args.explorer.now.kept in
    let same = none_added old c.flush.new.self.kept c.flush.ensures.extends (omega arith) in
    let here = flush_there c.args.explorer.now.patient old c.flush.new.self.kept c.args.place c.args.cpu c.in_ok-flushed.flushed same c.requires.patient
    c.requires.place c.in_ok-flushed.ensures.moved in
    let some : Some c.in-Some.to ≡ Some c.in_ok-number.number = ap (λ (n : ℕ). Some n) (sym c.in_ok-number.ensures) in
    subst (FlushLeads old c.args.place c.args.cpu) some (subst (FlushLeads old c.args.place c.args.cpu) c.in-Some.is here)
