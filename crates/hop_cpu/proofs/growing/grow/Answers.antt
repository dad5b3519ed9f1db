use Rattle.std.proofs.Common.{ℕ, slice_get, ap, sym, ◌∙◌}
use Rattle.std.proofs.lemmas.Bool.{not-false}
use Rattle.bpf_shared.specs.declared.shapes.MapShape.{MapShape}
use Rattle.hop_layout.proofs.Maps.{map_of, map_is}
use Rattle.hop_cpu.proofs.Grown.{grows_none, grows_split, was_false, none_some}
use Rattle.hop_cpu.proofs.growing.grow.Goals as goal

pub returns-in_default-clause-grows : goal.returns-in_default-clause-grows
returns-in_default-clause-grows g c = grows_none c.args.table.now.about c.args.map c.args.port.now (λ s there grow.
    let at = ap (λ (n : ℕ). slice_get c.args.table.now.about.shape.maps n) c.from.ensures in
    none_some (sym c.in_default.is ∙ (c.shape.ensures.shape ∙ (at ∙ map_is c.args.table.now.about.shape c.args.map c.requires.map))))

pub returns-then-not-shape-clause-grows : goal.returns-then-not-shape-clause-grows
returns-then-not-shape-clause-grows g c =
    let is = (map_of c.args.table.now.about.shape c.args.map c.in-Some.shape
    (sym (c.shape.ensures.shape ∙ ap (λ (n : ℕ). slice_get c.args.table.now.about.shape.maps n) c.from.ensures) ∙ c.in-Some.is)).1 in
    grows_none c.args.table.now.about c.args.map c.args.port.now
    (λ s there grow. was_false c.in-Some.shape.grow c.if-not-shape.true (sym (ap (λ (s : MapShape). s.grow) is) ∙ grow))

pub returns-in_default-spilled-clause-grows : goal.returns-in_default-spilled-clause-grows
returns-in_default-spilled-clause-grows g c = grows_none c.args.table.now.about c.args.map c.args.port.now
    (λ s there grow. none_some (sym c.in_default-spilled.is ∙ (c.spilled.ensures.spilled ∙ there)))

pub returns-clause-grows : goal.returns-clause-grows
returns-clause-grows g c =
    let is = (map_of c.args.table.now.about.shape c.args.map c.in-Some.shape
    (sym (c.shape.ensures.shape ∙ ap (λ (n : ℕ). slice_get c.args.table.now.about.shape.maps n) c.from.ensures) ∙ c.in-Some.is)).1 in
    grows_split c.args.table.now.about c.args.map c.in-Some-spilled.segment c.args.port.now c.split-growth.new.self c.split-growth.result
    (sym c.spilled.ensures.spilled ∙ c.in-Some-spilled.is) (ap (λ (s : MapShape). s.grow) is ∙ not-false c.in-Some.shape.grow
    c.if-not-shape.false) c.split-growth.ensures.else_same c.split-growth.ensures.ends
