use Rattle.std.proofs.Common.{◌≡◌, ◌≤◌, List, length, get_or, subst, ap, sym, ◌∙◌}
use Rattle.std.proofs.lemmas.List.{get_or_past}
use Rattle.bpf_hash.specs.Private.Rows.{Rows, no_rows, IsMissing}
use Rattle.bpf_hash.specs.Private.Contents.{Contents, rows, IsStore}
use Rattle.bpf_hash.proofs.Listing.{no_keys_of_none, no_value_there, value_found}
use Rattle.bpf_hash.proofs.store.HashStore.value.Goals as goal

pub returns-in-Some : goal.returns-in-Some
returns-in-Some c =
    let p = c.args.self.now in
    let m = c.args.map in
    let is : IsStore p = subst IsStore c.self.view_is c.self.invariant in
    let tables : c.deref.result.now ≡ p.tables = c.deref.ensures.value ∙ ap (λ (q : Contents). q.tables) c.self.view_is in
    let row : c.in-Some.table.now ≡ rows p m = c.in-Some.ensures.lookup.3.1 no_rows ∙ ap (λ (ts : List Rows). get_or ts m no_rows) tables in
    value_found p is m c.args.key.now c.in-Some.table.now c.value_of.result row c.value_of.ensures.found c.value_of.ensures.absent

pub returns-in-None : goal.returns-in-None
returns-in-None c =
    let p = c.args.self.now in
    let m = c.args.map in
    let is : IsStore p = subst IsStore c.self.view_is c.self.invariant in
    let tables : c.deref.result.now ≡ p.tables = c.deref.ensures.value ∙ ap (λ (q : Contents). q.tables) c.self.view_is in
    let past : length p.tables ≤ m = subst (λ (ts : List Rows). length ts ≤ m) tables c.in-None.ensures.lookup.3 in
    let none : rows p m ≡ no_rows = get_or_past p.tables m no_rows past in
    no_value_there p is m c.args.key.now (subst (λ (t : Rows). IsMissing t c.args.key.now) (sym none) (no_keys_of_none c.args.key.now))
