use Rattle.std.proofs.Common.{◌≡◌, ◌∙◌, ◌&&◌, Bool, true, false, ap, sym, subst}
use Rattle.bpf_shared.specs.Passage.{same_span}
use Rattle.bpf_hash.specs.Private.Contents.{holds, span_at, IsStore}
use Rattle.bpf_hash.proofs.Holding.{holds_nothing, holds_there, value_span}
use Rattle.bpf_hash.proofs.store.HashStore.holds.Goals as goal

pub returns-then-holds_element-clause-holds : goal.returns-then-holds_element-clause-holds
returns-then-holds_element-clause-holds c =
    let p = c.args.self.now in
    let is : IsStore p = subst IsStore c.self.view_is c.self.invariant in
    let r = c.in-Some.reach in
    let held : holds p c.args.cpu r.map r.element ≡ true = sym c.holds_element.ensures ∙ c.if-holds_element.true in
    c.is_span.ensures ∙ (ap (λ (b : Bool). b && same_span c.args.span (span_at p r.map r.element)) (sym held) ∙ holds_there p is c.args.cpu
    c.args.span r c.in-Some.ensures.found)

pub returns-then-holds_element-clause-value : goal.returns-then-holds_element-clause-value
returns-then-holds_element-clause-value c is_held =
    let p = c.args.self.now in
    let is : IsStore p = subst IsStore c.self.view_is c.self.invariant in
    let r = c.in-Some.reach in
    let held : holds p c.args.cpu r.map r.element ≡ true = sym c.holds_element.ensures ∙ c.if-holds_element.true in
    let same = c.is_span.ensures ∙ (ap (λ (b : Bool). b && same_span c.args.span (span_at p r.map r.element)) (sym held) ∙ holds_there p is
    c.args.cpu c.args.span r c.in-Some.ensures.found) in
    value_span p is c.args.cpu c.args.span (sym same ∙ is_held)

pub returns-else-holds_element-clause-holds : goal.returns-else-holds_element-clause-holds
returns-else-holds_element-clause-holds c =
    let p = c.args.self.now in
    let is : IsStore p = subst IsStore c.self.view_is c.self.invariant in
    let r = c.in-Some.reach in
    let idle : holds p c.args.cpu r.map r.element ≡ false = sym c.holds_element.ensures ∙ c.if-holds_element.false in
    c.if-holds_element.false ∙ (ap (λ (b : Bool). b && same_span c.args.span (span_at p r.map r.element)) (sym idle) ∙ holds_there p is
    c.args.cpu c.args.span r c.in-Some.ensures.found)

pub returns-in-None-clause-holds : goal.returns-in-None-clause-holds
returns-in-None-clause-holds c =
    let p = c.args.self.now in
    let is : IsStore p = subst IsStore c.self.view_is c.self.invariant in
    holds_nothing p is c.args.cpu c.args.span c.in-None.ensures.none
