use Rattle.std.proofs.Common.{◌≡◌, ◌∙◌, ℕ, ◌≤◌, Bool, List, length, sym, ap, subst, arith}
use Rattle.std.specs.List.{count_by}
use Rattle.bpf_shared.specs.declared.shapes.MapShape.{MapShape}
use Rattle.bpf_shared.specs.Shape.{IsMapShape, elements}
use Rattle.bpf_hash.specs.Private.Rows.{Rows}
use Rattle.bpf_hash.specs.Private.Chains.{Links}
use Rattle.bpf_hash.specs.Private.Index.{IsIndexed}
use Rattle.bpf_hash.specs.Private.Normal.{IsSavedRows, IsFilled}
use Rattle.bpf_hash.specs.Private.Sized.{AreSized, AreApart, IsReadTable}
use Rattle.bpf_hash.proofs.Filling.{rows_are, filled_indexed, index_there}
use Rattle.bpf_hash.proofs.Sizing.{sized_table}
use Rattle.bpf_hash.proofs.Options.{at_some, at_none}
use Rattle.bpf_hash.proofs.table.Table.restored.Goals as goal

-- the table that is made of what was read, where the index was given these marks and keys
module _ (shape : MapShape) (cpus n : ℕ) (linked marks : List Bool) (keys others values held left : List ℕ) where
  abbrev rows : ℕ → Rows
  rows k = record { shape = shape; cpus = k; linked = linked; keys = keys; values = values; looked_up = held; left = left }

  module _ (n_is : n ≡ cpus) (marks_are : marks ≡ linked) (others_are : others ≡ keys) (is : IsMapShape shape) (few : cpus ≤ 16)
      (sized : AreSized shape n (elements shape) linked keys values held left) (count : count_by (λ b. b) marks ≤ shape.max)
      (apart : AreApart shape.key marks others (length marks)) where
    table : IsReadTable cpus (rows cpus)
    table =
        sized_table shape cpus linked keys values held left is few
        (subst (λ (k : ℕ). AreSized shape k (elements shape) linked keys values held left) n_is sized)
        (subst (λ (ms : List Bool). count_by (λ b. b) ms ≤ shape.max) marks_are count)
        (subst (λ (ks : List ℕ). AreApart shape.key linked ks (length linked)) others_are
        (subst (λ (ms : List Bool). AreApart shape.key ms others (length ms)) marks_are apart))

    indexed : (x : Links) → IsFilled shape.max shape.key marks others (length marks) x → IsIndexed (rows cpus) x
    indexed x filled =
        filled_indexed (rows cpus) x table.table
        (subst (λ (ks : List ℕ). IsFilled shape.max shape.key linked ks (length linked) x) others_are
        (subst (λ (ms : List Bool). IsFilled shape.max shape.key ms others (length ms) x) marks_are filled))

  -- if those were none that an index can have, they weren't of a saved table
  no_index : marks ≡ linked → others ≡ keys → (count_by (λ b. b) marks ≤ shape.max → AreApart shape.key marks others (length marks) → ⊥)
      → count_by (λ b. b) linked ≤ shape.max → AreApart shape.key linked keys (length linked) → ⊥
  no_index marks_are others_are none count apart =
      none (subst (λ (ms : List Bool). count_by (λ b. b) ms ≤ shape.max) (sym marks_are) count)
      (subst (λ (ms : List Bool). AreApart shape.key ms others (length ms)) (sym marks_are)
      (subst (λ (ks : List ℕ). AreApart shape.key linked ks (length linked)) (sym others_are) apart))

pub invariant_of-table : goal.invariant_of-table
invariant_of-table c =
    let parts = c.in-Some.parts in
    let sized : AreSized c.args.shape c.from.result (elements c.args.shape) parts.linked.items parts.keys.items parts.values.items
    parts.looked_up.items parts.left.items = at_some _ _ _ c.in-Some.is c.in_ok-parts.ensures.sized in
    let count : count_by (λ b. b) c.deref.result.now ≤ c.args.shape.max = at_some _ _ _ c.in-Some-2.is c.in_ok-index.ensures.few in
    let apart : AreApart c.args.shape.key c.deref.result.now c.deref-2.result.now (length c.deref.result.now) = at_some _ _ _ c.in-Some-2.is
    c.in_ok-index.ensures.apart in
    let filled : IsFilled c.args.shape.max c.args.shape.key c.deref.result.now c.deref-2.result.now (length c.deref.result.now)
    c.in-Some-2.index = at_some _ _ _ c.in-Some-2.is c.in_ok-index.ensures.filled in (
      (table c.args.shape c.args.cpus c.from.result parts.linked.items c.deref.result.now parts.keys.items c.deref-2.result.now
          parts.values.items parts.looked_up.items parts.left.items c.from.ensures c.deref.ensures.value c.deref-2.ensures.value
          c.requires.shape c.requires.cpus sized count apart).table,
      (
        indexed c.args.shape c.args.cpus c.from.result parts.linked.items c.deref.result.now parts.keys.items c.deref-2.result.now
            parts.values.items parts.looked_up.items parts.left.items c.from.ensures c.deref.ensures.value c.deref-2.ensures.value
            c.requires.shape c.requires.cpus sized count apart c.in-Some-2.index filled,
        c.count_marks.ensures ∙ ap (λ (bs : List Bool). count_by (λ b. b) bs) c.deref-3.ensures.value,
      ),
      λ i l. absurd (omega arith),
      omega (arith, c.in_ok-vec.ensures.len, c.in_ok-vec.field-0.ok.0, c.from-2.ensures),
      λ i l. absurd (omega arith),
    )

pub returns-clause-table : goal.returns-clause-table
returns-clause-table c =
    let parts = c.in-Some.parts in
    let sized : AreSized c.args.shape c.from.result (elements c.args.shape) parts.linked.items parts.keys.items parts.values.items
    parts.looked_up.items parts.left.items = at_some _ _ _ c.in-Some.is c.in_ok-parts.ensures.sized in
    let count : count_by (λ b. b) c.deref.result.now ≤ c.args.shape.max = at_some _ _ _ c.in-Some-2.is c.in_ok-index.ensures.few in
    let apart : AreApart c.args.shape.key c.deref.result.now c.deref-2.result.now (length c.deref.result.now) = at_some _ _ _ c.in-Some-2.is
    c.in_ok-index.ensures.apart in
    table c.args.shape c.args.cpus c.from.result parts.linked.items c.deref.result.now parts.keys.items c.deref-2.result.now
    parts.values.items parts.looked_up.items parts.left.items c.from.ensures c.deref.ensures.value c.deref-2.ensures.value
    c.requires.shape c.requires.cpus sized count apart

pub returns-clause-read : goal.returns-clause-read
returns-clause-read c runs t more saved =
    let parts = c.in-Some.parts in
    let same : IsSavedRows c.args.shape c.from.result c.args.bytes.now runs t more = subst
    (λ (n : ℕ). IsSavedRows c.args.shape n c.args.bytes.now runs t more) (sym c.from.ensures) saved in
    let far = at_some _ _ _ c.in-Some.is c.in_ok-parts.ensures.read runs t more same in (
      ap (rows c.args.shape c.args.cpus c.from.result parts.linked.items c.deref.result.now parts.keys.items c.deref-2.result.now
          parts.values.items parts.looked_up.items parts.left.items) (sym c.from.ensures)
          ∙ rows_are c.args.shape c.from.result c.args.bytes.now runs t more same _ _ _ _ _ _ far,
      far.at_is,
    )

pub returns-in_default-2-clause-none : goal.returns-in_default-2-clause-none
returns-in_default-2-clause-none c runs t more saved =
    let parts = c.in-Some.parts in
    let same : IsSavedRows c.args.shape c.from.result c.args.bytes.now runs t more = subst
    (λ (n : ℕ). IsSavedRows c.args.shape n c.args.bytes.now runs t more) (sym c.from.ensures) saved in
    let far = at_some _ _ _ c.in-Some.is c.in_ok-parts.ensures.read runs t more same in
    index_there c.args.shape c.from.result c.args.bytes.now runs t more same _ _ _ _ _ _ far
    (no_index c.args.shape c.args.cpus c.from.result parts.linked.items c.deref.result.now parts.keys.items c.deref-2.result.now
    parts.values.items parts.looked_up.items parts.left.items c.deref.ensures.value c.deref-2.ensures.value
    (at_none _ _ c.in_default-2.is c.in_ok-index.ensures.none))
