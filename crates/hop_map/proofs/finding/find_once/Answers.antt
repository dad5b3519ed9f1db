use Rattle.std.proofs.Common.{Option, sym, subst, ◌∙◌}
use Rattle.bpf_shared.specs.declared.events.Span.{Span}
use Rattle.hop_map.specs.declared.finding.Tried.{Tried}
use Rattle.hop_map.specs.Finding.{Looked}
use Rattle.hop_map.specs.Private.Finding.{TryEnds}
use Rattle.hop_map.proofs.finding.find_once.Goals as goal

pub returns-in-Some-clause-ends : goal.returns-in-Some-clause-ends
returns-in-Some-clause-ends c =
    let a = c.args.table.now.about in
    let m = c.args.map in
    let key = c.args.key.now in
    let l = c.args.lane.known in
    let y = c.try_once-lane.result.0.known in
    let e = subst (λ (t : Tried). TryEnds a l m key t y) c.in-Read.is c.try_once-lane.ensures.ends in
    (subst (λ (o : Option Span). Looked a l m key o y) (sym c.span_of.ensures ∙ c.in-Some.is) e.0, e.1)

pub returns-in-None-clause-ends : goal.returns-in-None-clause-ends
returns-in-None-clause-ends c =
    let a = c.args.table.now.about in
    let m = c.args.map in
    let key = c.args.key.now in
    let l = c.args.lane.known in
    let y = c.try_once-lane.result.0.known in
    let e = subst (λ (t : Tried). TryEnds a l m key t y) c.in-Read.is c.try_once-lane.ensures.ends in
    (subst (λ (o : Option Span). Looked a l m key o y) (sym c.span_of.ensures ∙ c.in-None.is) e.0, e.1)

pub returns-in-Disturbed-clause-ends : goal.returns-in-Disturbed-clause-ends
returns-in-Disturbed-clause-ends c =
    let a = c.args.table.now.about in
    let m = c.args.map in
    let key = c.args.key.now in
    subst (λ (t : Tried). TryEnds a c.args.lane.known m key t c.try_once-lane.result.0.known) c.in-Disturbed.is c.try_once-lane.ensures.ends
