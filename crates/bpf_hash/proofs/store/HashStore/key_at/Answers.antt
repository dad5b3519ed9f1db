use Rattle.std.proofs.Common.{◌≡◌, ℕ, List, get_or, subst, ap, sym, ◌∙◌}
use Rattle.std.proofs.lemmas.List.{get_or_default}
use Rattle.std.proofs.lemmas.Option.{IfSome_then}
use Rattle.bpf_hash.specs.declared.store.Reach.{Reach}
use Rattle.bpf_hash.specs.Private.Rows.{Rows, no_rows, key_of, IsLinked}
use Rattle.bpf_hash.specs.Private.Contents.{Contents, rows, IsStore}
use Rattle.bpf_hash.specs.Private.Changes.{IsReach}
use Rattle.bpf_hash.specs.Shows.{ShowsKey, ShowsNoKey}
use Rattle.bpf_hash.proofs.Listing.{no_key_anywhere, no_key_there, key_there, if_none}
use Rattle.bpf_hash.proofs.store.HashStore.key_at.Goals as goal

-- of the store whose parts are these, the value at an address lies in the element of a table
module _ (parts p : Contents) (view : ◌≡◌ {A = Contents} parts p) (ok : IsStore parts) (a : ℕ) (r : Reach) (at : IsReach p a r)
    (tables : List Rows) (all : tables ≡ parts.tables) (t other : Rows) (t_is : t ≡ get_or tables r.map other) where
  is : IsStore p
  is = subst IsStore view ok

  tables_are : tables ≡ p.tables
  tables_are = all ∙ ap (λ (q : Contents). q.tables) view

  row : t ≡ rows p r.map
  row = t_is ∙ (ap (λ (ts : List Rows). get_or ts r.map other) tables_are ∙ get_or_default p.tables r.map other no_rows at.map)

  shown : (key : List ℕ) → IsLinked t r.element × (key ≡ key_of t r.element) → ShowsKey p a key
  shown key found = key_there p is a r at key (subst (λ (x : Rows). IsLinked x r.element × (key ≡ key_of x r.element)) row found)

  not_shown : (IsLinked t r.element → ⊥) → ShowsNoKey p a
  not_shown free = no_key_there p is a r at (λ k. free (subst (λ (x : Rows). IsLinked x r.element) (sym row) k))

pub returns-in_err-reach-clause-none : goal.returns-in_err-reach-clause-none
returns-in_err-reach-clause-none c =
    let p = c.args.self.now in
    let is : IsStore p = subst IsStore c.self.view_is c.self.invariant in
    rw c.from_residual.ensures (no_key_anywhere p is c.args.address c.in_err-reach.ensures.none)

pub returns-clause-found : goal.returns-clause-found
returns-clause-found c =
    IfSome_then c.linked_key.result c.linked_key.ensures.linked (λ key. shown
    (record { runs = c.self.inside.runs.items; tables = c.self.inside.tables.items }) c.args.self.now c.self.view_is c.self.invariant
    c.args.address c.in_ok-reach.reach c.in_ok-reach.ensures.found c.as_slice-tables.result.now c.as_slice-tables.ensures.value
    c.index-tables-reach.result _ c.index-tables-reach.is key.now)

pub returns-clause-none : goal.returns-clause-none
returns-clause-none c =
    if_none c.linked_key.result c.linked_key.ensures.free (not_shown
    (record { runs = c.self.inside.runs.items; tables = c.self.inside.tables.items }) c.args.self.now c.self.view_is c.self.invariant
    c.args.address c.in_ok-reach.reach c.in_ok-reach.ensures.found c.as_slice-tables.result.now c.as_slice-tables.ensures.value
    c.index-tables-reach.result _ c.index-tables-reach.is)
