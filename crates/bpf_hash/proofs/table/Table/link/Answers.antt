use Rattle.std.proofs.Common.{◌≡◌, ℕ, ◌+◌, ◌<◌, Bool, true, false, inl, inr, List, length, get_or, set, sym, ap, subst, ◌∙◌, arith}
use Rattle.std.proofs.lemmas.List.{get_or-set_same, get_or-set_other}
use Rattle.std.proofs.lemmas.Grind.{common_steps}
use Rattle.bpf_hash.specs.Private.Rows.{Rows, ArePassed, IsTable, linked_count, linked_row}
use Rattle.bpf_hash.specs.Private.Index.{IsIndexed}
use Rattle.bpf_hash.proofs.Homes.{home_inside}
use Rattle.bpf_hash.proofs.Passing.{linked_more_passed}
use Rattle.bpf_shared.proofs.Puts.{equal_or_not}
use Rattle.bpf_hash.proofs.Linking.{linked_table, count-more}
use Rattle.bpf_hash.proofs.Indexing.{linked_indexed}
use Rattle.bpf_hash.proofs.table.Table.link.Goals as goal

pub insert-requires : goal.insert-requires
insert-requires c =
    let t = c.args.self.now in
    let is : IsTable t = subst IsTable c.self.view_is c.self.invariant.0 in
    let indexed : IsIndexed t c.self.inside.index = subst (λ (r : Rows). IsIndexed r c.self.inside.index) c.self.view_is c.self.invariant.1.0 in
    record {
      home = subst (λ (n : ℕ). c.args.home < n) (sym indexed.homes) (home_inside t is c.args.key.now c.args.home c.requires.home);
      element = subst (λ (n : ℕ). c.args.element < n) (sym indexed.elements) c.requires.element;
      new = λ b at. c.requires.free (indexed.linked b c.args.element at).0;
    }

pub first_unmarked-self-inside-requires : goal.first_unmarked-self-inside-requires
first_unmarked-self-inside-requires c i l =
    let t = c.args.self.now in
    let e = c.args.element in
    let items = c.self.inside.linked.items in
    let is : IsTable t = subst IsTable c.self.view_is c.self.invariant.0 in
    let marks : items ≡ t.linked = ap (λ (r : Rows). r.linked) c.self.view_is in
    let there : e < length items = subst (λ (ms : List Bool). e < length ms) (sym marks) (omega (arith, is.linked, c.requires.element)) in
    let mark : get_or (set items e true) i false ≡ true = elim (equal_or_not i e) [
      | inl s ↦ ap (λ (k : ℕ). get_or (set items e true) k false) s ∙ get_or-set_same items e true false there
      | inr ne ↦ get_or-set_other items e i true false ne ∙ c.self.invariant.2 i l
    ] in
    subst (λ (ms : List Bool). get_or ms i false ≡ true) (sym c.deref.ensures.value) mark

pub invariant_of-self : goal.invariant_of-self
invariant_of-self c =
    let t = c.args.self.now in
    let r = c.requires in
    let e = c.args.element in
    let key = c.args.key.now in
    let value = c.args.value.now in
    let is : IsTable t = subst IsTable c.self.view_is c.self.invariant.0 in
    let made : ◌≡◌ {A = Rows} _ (linked_row e key value t) = grind (arith, common_steps) in
    let indexed : IsIndexed t c.self.inside.index = subst (λ (r : Rows). IsIndexed r c.self.inside.index) c.self.view_is c.self.invariant.1.0 in
    let counted : c.self.inside.count ≡ linked_count t = c.self.invariant.1.1 ∙ ap linked_count c.self.view_is in
    let more : linked_count (linked_row e key value t) ≡ linked_count t + 1 = count-more t is e key value r.missing r.element r.free r.key r.value in
    let count : c.self.inside.count + 1 ≡ linked_count (linked_row e key value t) = omega arith in (
      subst IsTable (sym made) (linked_table t is e key value r.missing r.element r.free r.key r.value r.room),
      (
        subst (λ (r : Rows). IsIndexed r c.insert.new.self) (sym made)
            (linked_indexed t is e key value r.missing r.element r.free r.key r.value c.self.inside.index c.insert.new.self c.args.home
            r.home indexed c.insert.ensures),
        subst (λ (r : Rows). c.self.inside.count + 1 ≡ linked_count r) (sym made) count,
      ),
      λ i l. subst (λ (ms : List Bool). get_or ms i false ≡ true) c.deref.ensures.value (c.first_unmarked-self-inside.ensures i l),
      c.self.invariant.3,
      subst (λ (r : Rows). ArePassed c.self.inside.seen.items r c.passed_with-self-inside.result) (sym made)
          (linked_more_passed c.self.inside.seen.items t is e key value r.missing r.element r.free r.key r.value c.self.inside.passed
          c.passed_with-self-inside.result (subst (λ (r : Rows). ArePassed c.self.inside.seen.items r c.self.inside.passed) c.self.view_is
          c.self.invariant.4) c.passed_with-self-inside.ensures),
    )

pub returns-clause-table : goal.returns-clause-table
returns-clause-table c =
    let t = c.args.self.now in
    let r = c.requires in
    let is : IsTable t = subst IsTable c.self.view_is c.self.invariant.0 in
    let made : ◌≡◌ {A = Rows} _ (linked_row c.args.element c.args.key.now c.args.value.now t) = grind (arith, common_steps) in
    (is, subst IsTable (sym made) (linked_table t is c.args.element c.args.key.now c.args.value.now r.missing r.element r.free r.key r.value r.room))
