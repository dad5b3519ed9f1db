use Rattle.std.proofs.Common.{◌≡◌, ◌<◌, Bool, true, false, IsTrue, List, length, slice_index_or, inl, sym, ap, subst, ◌∙◌, arith}
use Rattle.std.proofs.lemmas.List.{get_or_read}
use Rattle.bpf_hash.specs.Private.Rows.{Rows, IsTable}
use Rattle.bpf_hash.proofs.table.Table.is_taken.Goals as goal

pub returns-then-index : goal.returns-then-index
returns-then-index c =
    let t = c.args.self.now in
    let e = c.args.element in
    let is : IsTable t = subst IsTable c.self.view_is c.self.invariant.0 in
    let marks : c.self.inside.linked.items ≡ t.linked = ap (λ (r : Rows). r.linked) c.self.view_is in
    let inside : e < length c.self.inside.linked.items = subst (λ (l : List Bool). e < length l) (sym marks) (omega (arith, is.linked, c.requires.element)) in
    let mark : slice_index_or t.linked e false ≡ true = ap (λ (l : List Bool). slice_index_or l e false) (sym marks) ∙
    (sym (get_or_read c.self.inside.linked.items e c.index.result.now inside c.index.ensures false) ∙ c.if-index.true) in
    let yes : IsTrue c.index.result.now = c.if-index.true in
    (λ h. inl mark, λ h. yes)
