use Rattle.std.proofs.Common.{sym, inl, inr, ◌∙◌}
use Rattle.bpf_plain.specs.Shows.{ShowsNoByte}
use Rattle.bpf_debug.specs.Read.{ReadsNoByte}
use Rattle.bpf_debug.proofs.GoLaws.{none_weaker}
use Rattle.bpf_debug.proofs.reading.byte.Goals as goal

pub returns-then-may_reach-clause-none : goal.returns-then-may_reach-clause-none
returns-then-may_reach-clause-none c =
    let own = sym c.own_byte.ensures ∙ c.in_default.is in
    none_weaker (ShowsNoByte c.args.store.now c.args.address) (ReadsNoByte c.args.store.now c.args.state.now c.args.address)
    c.peek.result (λ none s so stands. (own, inr (none s so stands))) c.peek.ensures.none

pub returns-else-may_reach-clause-none : goal.returns-else-may_reach-clause-none
returns-else-may_reach-clause-none c = λ s so stands. (sym c.own_byte.ensures ∙ c.in_default.is, inl (c.may_reach.ensures.no c.if-may_reach.false s so stands))
