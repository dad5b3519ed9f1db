use Rattle.std.proofs.Common.{◌≡◌, true, subst}
use Rattle.bpf_shared.specs.declared.events.Event.TheVariants.{Lookup}
use Rattle.bpf_shared.specs.declared.events.Span.{Span}
use Rattle.bpf_shared.specs.Shape.{AreMaps, IsElement, IsShape}
use Rattle.hop_layout.specs.declared.about.About.{About}
use Rattle.hop_cpu.specs.Serving.{Serving, serves_span}
use Rattle.hop_cpu.proofs.Calling.{called, found_held, with_port}
use Rattle.hop_cpu.proofs.Elements.{holds_elements, shape_maps}
use Rattle.hop_cpu.proofs.cpu.HopCpuShared.lookup.Goals as goal

pub returns-clause-found : goal.returns-clause-found
returns-clause-found g c = called c.args.self.now c.self.inside.table.now c.self.inside.port c.self.view_is c.args._cpu c.requires.serves
    c.lookup.new.self (Lookup c.args.map c.args.key.now c.lookup.result) c.lookup.ensures.found c.lookup.ensures.spares

pub returns-clause-held : goal.returns-clause-held
returns-clause-held g c = found_held c.args.self.now c.self.inside.table.now c.self.inside.port c.self.view_is c.args._cpu c.requires.serves
    c.lookup.new.self c.args.map c.args.key.now c.lookup.result c.lookup.ensures.found

pub returns-clause-maps : goal.returns-clause-maps
returns-clause-maps g c =
    let shaped = subst (λ (x : About). IsShape x.shape) c.about.ensures c.maps-maps.ensures.in_range in
    subst (λ (x : Serving). AreMaps x.table.about.shape.maps) c.self.view_is (shape_maps c.self.inside.table.now.about.shape shaped)

pub returns-clause-elements : goal.returns-clause-elements
returns-clause-elements g c =
    let t = c.self.inside.table.now in
    let q = c.lookup.new.self in
    subst (λ (x : Serving). (p : Span) → serves_span (with_port t q) c.args._cpu p ≡ true → IsElement x.table.about.shape.maps p) c.self.view_is
    (holds_elements t q c.args._cpu c.lookup.ensures.fits)
