use Rattle.std.proofs.Common.{◌≡◌, ◌∙◌, ◌+◌, ◌<◌, ℕ, List, [], get_or, length, map, ap, subst, String, Global}
use Rattle.std.specs.Prelude.{slice_index_or, string_bytes}
use Rattle.bpf_shared.specs.declared.shapes.MapShape.{MapShape}
use Rattle.bpf_shared.specs.Shape.{Shape}
use Rattle.bpf_names.specs.declared.names.Variable.{Variable}
use Rattle.bpf_names.specs.Names.{Names, names_of}
use Rattle.bpf_plain.specs.PlainStore.{shape_of}
use Rattle.bpf_debug.proofs.ToldLaws.{one_place_more}
use Rattle.bpf_debug.proofs.told.place_lines.Goals as goal

pub loop-variable-preserved : goal.loop-variable-preserved
loop-variable-preserved c =
    let names : Names = names_of c.args.names.now in
    let vs = c.args.names.now.variables.items in
    let v = c.variable-item.result in
    let at = c.loop-variable.variable-index in
    let maps = length (shape_of c.args.store.now).maps in
    let count : length c.maps-maps.result.now ≡ maps = ap (λ (ms : List MapShape). length ms) c.maps-maps.ensures.maps ∙ ap
    (λ (h : Shape). length h.maps) c.store_shape.ensures in
    let array = c.name_at-array.result.now in
    let named : array ≡ slice_index_or names.maps (maps + v.array) [] =
    c.name_at-array.ensures
    ∙ ap (λ (ns : List (String Global)). slice_index_or (map (λ n. string_bytes n) ns) (length c.maps-maps.result.now + c.from.result) []) c.deref.ensures.value
    ∙ ap (λ (k : ℕ). slice_index_or names.maps (length c.maps-maps.result.now + k) []) c.from.ensures
    ∙ ap (λ (n : ℕ). slice_index_or names.maps (n + v.array) []) count
    in
    let inside : at < length vs = subst (λ (xs : List Variable). at < length xs) c.deref-variable-items.ensures.value c.loop-variable-test.true in
    let is : v ≡ get_or vs at v = subst (λ (xs : List Variable). v ≡ get_or xs at v) c.deref-variable-items.ensures.value c.variable-item.is in
    one_place_more (string_bytes c.loop-variable.text) (string_bytes c.push_place.new.text) array names.maps maps vs at v inside is named
    c.loop-variable.invariant c.in_ok-push_place.ensures
