use Rattle.std.proofs.Common.{◌≡◌, ℕ, ◌+◌, ◌<◌, Bool, false, List, [], ◌∷◌, ◌++◌, length, slice_index_or, sym, ap, subst, ◌∙◌, arith}
use Rattle.std.proofs.lemmas.List.{get_or_read}
use Rattle.bpf_shared.specs.declared.shapes.MapShape.{MapShape}
use Rattle.bpf_hash.specs.Private.Rows.{Rows, IsTable, IsLinked}
use Rattle.bpf_hash.specs.Private.Pairs.{AreKeysBelow}
use Rattle.bpf_hash.proofs.KeyRows.{keys_none, keys_room, keys_more, key_size}
use Rattle.bpf_hash.proofs.table.Table.list_keys.Goals as goal

pub elements-init : goal.elements-init
elements-init c = record {
  shape = c.clear.ensures.shape;
  below = subst (AreKeysBelow c.args.self.now 0) (sym c.clear.ensures.keys)
      (keys_none c.args.self.now);
}

pub add-requires-clause-size : goal.add-requires-clause-size
add-requires-clause-size c =
    let t = c.args.self.now in
    let i = c.elements.element in
    let is : IsTable t = subst IsTable c.self.view_is c.self.invariant.0 in
    let marks : c.self.inside.linked.items ≡ t.linked = ap (λ (r : Rows). r.linked) c.self.view_is in
    let inside : i < length c.self.inside.linked.items = omega (arith, c.elements-test.true, c.len-element-end.ensures, c.self.inside.linked.ok.0) in
    let there : i < length t.linked = subst (λ (l : List Bool). i < length l) marks inside in
    let read : c.index.result.now ≡ slice_index_or t.linked i false = get_or_read c.self.inside.linked.items i c.index.result.now inside
    c.index.ensures false ∙ ap (λ (l : List Bool). slice_index_or l i false) marks in
    let v = c.elements.invariant in
    ap length c.key.ensures ∙ (key_size t is i there ∙ ap (λ (h : MapShape). h.key) (sym (v.shape ∙ c.requires.shape)))

pub add-requires-clause-room : goal.add-requires-clause-room
add-requires-clause-room c =
    let t = c.args.self.now in
    let i = c.elements.element in
    let is : IsTable t = subst IsTable c.self.view_is c.self.invariant.0 in
    let marks : c.self.inside.linked.items ≡ t.linked = ap (λ (r : Rows). r.linked) c.self.view_is in
    let inside : i < length c.self.inside.linked.items = omega (arith, c.elements-test.true, c.len-element-end.ensures, c.self.inside.linked.ok.0) in
    let there : i < length t.linked = subst (λ (l : List Bool). i < length l) marks inside in
    let read : c.index.result.now ≡ slice_index_or t.linked i false = get_or_read c.self.inside.linked.items i c.index.result.now inside
    c.index.ensures false ∙ ap (λ (l : List Bool). slice_index_or l i false) marks in
    let v = c.elements.invariant in
    let linked : IsLinked t i = sym read ∙ c.if-not-index.false in
    subst (λ (h : MapShape). length c.elements.list.keys < h.max) (sym (v.shape ∙ c.requires.shape))
    (keys_room t i c.elements.list.keys v.below there is linked)

pub elements-preserved : goal.elements-preserved
elements-preserved c =
    let t = c.args.self.now in
    let i = c.elements.element in
    let is : IsTable t = subst IsTable c.self.view_is c.self.invariant.0 in
    let marks : c.self.inside.linked.items ≡ t.linked = ap (λ (r : Rows). r.linked) c.self.view_is in
    let inside : i < length c.self.inside.linked.items = omega (arith, c.elements-test.true, c.len-element-end.ensures, c.self.inside.linked.ok.0) in
    let there : i < length t.linked = subst (λ (l : List Bool). i < length l) marks inside in
    let read : c.index.result.now ≡ slice_index_or t.linked i false = get_or_read c.self.inside.linked.items i c.index.result.now inside
    c.index.ensures false ∙ ap (λ (l : List Bool). slice_index_or l i false) marks in
    let v = c.elements.invariant in
    let linked : IsLinked t i = sym read ∙ c.if-not-index.false in
    record {
      shape = c.add.ensures.shape ∙ v.shape;
      below = subst (AreKeysBelow t (i + 1)) (sym (c.add.ensures.keys ∙ ap (λ (k : List ℕ). c.elements.list.keys ++ k ∷ []) c.key.ensures))
          (keys_more t i c.elements.list.keys v.below there is linked);
    }
