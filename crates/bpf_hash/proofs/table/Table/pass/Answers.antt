use Rattle.std.proofs.Common.{◌≡◌, List, length, inl, inr, sym, ap, subst, ◌∙◌, arith}
use Rattle.std.proofs.lemmas.Bool.{cases_lt}
use Rattle.std.proofs.lemmas.List.{with_items_is}
use Rattle.bpf_hash.specs.declared.runs.Runs.{Runs}
use Rattle.bpf_hash.specs.declared.table.Table.TheInside.{Inside}
use Rattle.bpf_hash.specs.Private.Rows.{Rows, ArePassed, IsTakenRow}
use Rattle.bpf_hash.proofs.table.Table.pass.Goals as goal

abbrev rows_of : Inside → Rows
rows_of x = record {
  shape = x.shape;
  cpus = x.cpus;
  linked = x.linked.items;
  keys = x.keys.items;
  values = x.values.items;
  looked_up = x.looked_up.items;
  left = x.left.items;
}

pub see-requires : goal.see-requires
see-requires c = ap (length {A = Runs}) c.deref_mut.ensures.value ∙ (c.self.invariant.3 ∙ (ap (λ (r : Rows). r.cpus) c.self.view_is ∙ sym c.requires.runs))

pub invariant_of-self : goal.invariant_of-self
invariant_of-self c =
    let n = c.args.element in
    let runs = c.args.runs.now in
    let inside = c.self.inside in
    let old = c.self.invariant in
    let cpus : inside.cpus ≡ c.args.self.now.cpus = ap (λ (r : Rows). r.cpus) c.self.view_is in
    let Passed : List Runs → Type 0 = λ s. (length s ≡ inside.cpus) × ArePassed s (rows_of inside) n in
    let now : Passed c.see.new.seen = elim c.see.ensures [
      | inl these ↦ subst Passed (sym these) (
        c.requires.runs ∙ sym cpus,
        λ i l. subst (λ (r : Rows). IsTakenRow runs r i)
            (sym c.self.view_is) (c.requires.taken i l),
      )
      | inr still ↦ subst Passed (sym (still.0 ∙ c.deref_mut.ensures.value)) (
        old.3,
        λ i l. elim (cases_lt i inside.filled) [
          | inl below ↦ inl (old.2 i below)
          | inr from ↦ old.4 i (omega (arith, l, from, still.1, c.max.ensures))
        ],
      )
    ] in
    let written = with_items_is inside.seen c.see.new.seen (omega (arith, inside.seen.ok.0, now.0, old.3)) in
    let both : Passed _ = subst Passed (sym written) now in
    (old.0, old.1, old.2, both.0, both.1)
