use Rattle.std.proofs.Common.{◌≡◌, Bool, true, false, List, length, slice_index_or, inl, inr, sym, ap, subst, ◌∙◌, arith}
use Rattle.bpf_hash.specs.Private.Rows.{Rows, IsTable, IsTakenRow}
use Rattle.bpf_shared.proofs.Puts.{equal_or_not}
use Rattle.std.proofs.lemmas.Bool.{cases_lt}
use Rattle.bpf_hash.proofs.table.Table.lowest_free.Goals as goal

pub loop-element-preserved : goal.loop-element-preserved
loop-element-preserved c i l =
    let is : IsTable c.args.self.now = subst IsTable c.self.view_is c.self.invariant.0 in
    let marks : c.deref.result.now ≡ c.args.self.now.linked = c.deref.ensures.value ∙ ap (λ (r : Rows). r.linked) c.self.view_is in
    elim (cases_lt i c.loop-element.element) [
      | inl below ↦ c.loop-element.invariant i below
      | inr from ↦ elim (equal_or_not i c.loop-element.element) [
        | inl e ↦ subst (IsTakenRow c.args.runs.now c.args.self.now) (sym e) (c.is_taken.ensures.0 c.if-not-is_taken.false)
        | inr ne ↦
            let n : i ≡ c.loop-element.element → ⊥ = ne in
            inl (subst (λ (ms : List Bool). slice_index_or ms i false ≡ true) marks (c.past_marked-element.ensures.marked i (omega arith) l))
      ]
    ]

pub returns-clause-none : goal.returns-clause-none
returns-clause-none c i l =
    let is : IsTable c.args.self.now = subst IsTable c.self.view_is c.self.invariant.0 in
    let marks : length c.self.inside.linked.items ≡ length c.args.self.now.linked = ap (λ (r : Rows). length r.linked) c.self.view_is in
    c.loop-element.invariant i (omega (arith, is.linked, marks))
