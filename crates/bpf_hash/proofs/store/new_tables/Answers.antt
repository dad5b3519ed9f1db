use Rattle.std.proofs.Common.{◌≡◌, ◌+◌, ◌<◌, List, ◌++◌, ◌∷◌, [], length, map, take, get_or, sym, ap, subst, ◌∙◌}
use Rattle.std.proofs.lemmas.List.{take_more}
use Rattle.bpf_shared.specs.declared.shapes.MapShape.{MapShape}
use Rattle.bpf_hash.specs.Private.Rows.{Rows, no_rows, shape_of, IsBlank, IsTable}
use Rattle.bpf_hash.proofs.Making.{blank_push, shapes_push, tables_push}
use Rattle.bpf_hash.proofs.store.new_tables.Goals as goal

pub loop-map-preserved : goal.loop-map-preserved
loop-map-preserved c =
    let i = c.loop-map.invariant in
    let t = c.in_ok-new.field-0 in
    let e : c.push.new.self.items ≡ c.loop-map.tables.items ++ t ∷ [] = c.in_ok-push.ensures.items in
    let shapes : map shape_of (c.loop-map.tables.items ++ t ∷ []) ≡ take (c.loop-map.map-index + 1) c.args.maps.now = shapes_push
    c.loop-map.tables.items t ∙ (ap (λ (l : List MapShape). l ++ t.shape ∷ []) i.shapes
    ∙ (ap (λ (h : MapShape). take c.loop-map.map-index c.args.maps.now ++ h ∷ []) c.in_ok-new.ensures.shape.0 ∙ sym
    (take_more c.args.maps.now c.loop-map.map-index _ c.loop-map-test.true))) in
    record {
      shapes = ap (map shape_of) e ∙ shapes;
      blank = λ m. subst (λ (ts : List Rows). IsBlank (get_or ts m no_rows)) (sym e) (blank_push c.loop-map.tables.items t i.blank c.in_ok-new.ensures.blank m);
      tables = λ m. subst (λ (ts : List Rows). m < length ts → IsTable (get_or ts m no_rows) × ((get_or ts m no_rows).cpus ≡ c.args.cpus))
          (sym e) (tables_push c.loop-map.tables.items t c.args.cpus i.tables c.in_ok-new.ensures.table c.in_ok-new.ensures.shape.1 m);
    }
