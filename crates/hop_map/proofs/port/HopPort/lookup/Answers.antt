use Rattle.std.proofs.Common.{◌≡◌, Option, IfSome, ap, refl, true, sym, subst, ◌∙◌}
use Rattle.bpf_shared.specs.declared.events.Event.TheVariants.{Lookup}
use Rattle.bpf_shared.specs.declared.events.Span.{Span}
use Rattle.bpf_shared.specs.Shape.{IsShape, IsElementSpan, IsValueSpan}
use Rattle.hop_layout.specs.declared.about.About.{About}
use Rattle.hop_words.specs.declared.known.Known.{Known}
use Rattle.hop_words.specs.Kinds.{found_span}
use Rattle.hop_map.specs.Noting.{CallNotes}
use Rattle.hop_map.specs.Port.{Port, PortDoes, runs, IsPortOf}
use Rattle.hop_map.proofs.Spans.{found_in_range}
use Rattle.hop_map.proofs.Ports.{still_runs, port_with, port_is, looked_fits, looked_lies}
use Rattle.hop_map.proofs.port.HopPort.lookup.Goals as goal

pub returns-clause-fits : goal.returns-clause-fits
returns-clause-fits g c =
    let i = c.self.inside in
    let s = c.in-Some.lane in
    let p = port_with s i.arenas.items i.batches.items i.spilled in
    let t = c.args.table.now in
    let is : p ≡ c.args.self.now = sym (port_is i c.take.result s c.take.ensures.value c.in-Some.is) ∙ c.self.view_is in
    let r = c.locate-lane in
    looked_fits t p r.result.0.table r.result.0.known c.args.map c.args.key.now (found_span t.about c.args.map r.result.1)
    (subst (IsPortOf t) (sym is) c.requires.fits) r.ensures.table r.ensures.found.0

pub returns-clause-in_run : goal.returns-clause-in_run
returns-clause-in_run g c =
    let i = c.self.inside in
    let s = c.in-Some.lane in
    let p = port_with s i.arenas.items i.batches.items i.spilled in
    let is : p ≡ c.args.self.now = sym (port_is i c.take.result s c.take.ensures.value c.in-Some.is) ∙ c.self.view_is in
    let a = c.args.table.now.about in
    let r = c.locate-lane in
    let looked = r.ensures.found.0 in
    still_runs a p.known r.result.0.known (Lookup c.args.map c.args.key.now (found_span a c.args.map r.result.1)) looked.seen
    (ap (λ (k : Known). k.cpu) looked.after) refl (subst (λ (q : Port). runs q ≡ true) (sym is) c.requires.in_run)

pub returns-clause-found : goal.returns-clause-found
returns-clause-found g c =
    let i = c.self.inside in
    let s = c.in-Some.lane in
    let p = port_with s i.arenas.items i.batches.items i.spilled in
    let t = c.args.table.now in
    let is : p ≡ c.args.self.now = sym (port_is i c.take.result s c.take.ensures.value c.in-Some.is) ∙ c.self.view_is in
    let r = c.locate-lane in
    let looked = r.ensures.found.0 in
    let l = r.result.0 in
    let q = port_with l i.arenas.items i.batches.items i.spilled in
    let does : PortDoes t.about p (Lookup c.args.map c.args.key.now (found_span t.about c.args.map r.result.1)) q = record {
      table = r.ensures.table ∙ sym (subst (IsPortOf t) (sym is) c.requires.fits).table;
      cpu = ap (λ (k : Known). k.cpu) looked.after;
      seen = looked.seen;
    } in
    subst (λ (o : Option Span). PortDoes t.about c.args.self.now (Lookup c.args.map c.args.key.now o) q) (sym c.span_of.ensures)
    (subst (λ (x : Port). PortDoes t.about x (Lookup c.args.map c.args.key.now (found_span t.about c.args.map r.result.1)) q) is does)

pub returns-clause-spares : goal.returns-clause-spares
returns-clause-spares g c =
    let i = c.self.inside in
    let s = c.in-Some.lane in
    let p = port_with s i.arenas.items i.batches.items i.spilled in
    let a = c.args.table.now.about in
    let is : p ≡ c.args.self.now = sym (port_is i c.take.result s c.take.ensures.value c.in-Some.is) ∙ c.self.view_is in
    let r = c.locate-lane in
    subst (λ (x : Port). CallNotes a (Lookup c.args.map c.args.key.now c.span_of.result) x.known r.result.0.known) is
    (subst (λ (o : Option Span). CallNotes a (Lookup c.args.map c.args.key.now o) s.known r.result.0.known) (sym c.span_of.ensures) r.ensures.found.1)

pub returns-clause-element : goal.returns-clause-element
returns-clause-element g c =
    let s = c.in-Some.lane in
    let a = c.args.table.now.about in
    let r = c.locate-lane in
    subst (λ (o : Option Span). IfSome o (IsElementSpan a.shape.maps c.args.map)) (sym c.span_of.ensures)
    (looked_lies a s.known r.result.0.known c.args.map c.args.key.now (found_span a c.args.map r.result.1) r.ensures.found.0)

pub returns-clause-in_range : goal.returns-clause-in_range
returns-clause-in_range g c =
    let s = c.in-Some.lane in
    let r = c.locate-lane in
    let a = c.args.table.now.about in
    let o = found_span a c.args.map r.result.1 in
    subst (λ (p : Option Span). IfSome p IsValueSpan) (sym c.span_of.ensures)
    (found_in_range a.shape c.args.map o (subst (λ (x : About). IsShape x.shape) c.about.ensures c.maps-maps.ensures.in_range)
    (looked_lies a s.known r.result.0.known c.args.map c.args.key.now o r.ensures.found.0))
