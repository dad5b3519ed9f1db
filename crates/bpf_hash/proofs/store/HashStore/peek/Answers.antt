use Rattle.std.proofs.Common.{◌≡◌, ℕ, List, get_or, slice_index, subst, ap, sym, ◌∙◌}
use Rattle.std.proofs.lemmas.Option.{IfSome_then}
use Rattle.bpf_hash.specs.declared.runs.Runs.{Runs}
use Rattle.bpf_hash.specs.declared.store.Reach.{Reach}
use Rattle.bpf_hash.specs.Private.Rows.{Rows, bytes_of, IsTakenRow}
use Rattle.bpf_hash.specs.Private.Contents.{Contents, rows, IsStore}
use Rattle.bpf_hash.specs.Private.Changes.{IsReach}
use Rattle.bpf_hash.specs.Shows.{ShowsByte, ShowsNoByte}
use Rattle.bpf_hash.proofs.Changing.{read_row}
use Rattle.bpf_hash.proofs.Listing.{nothing_there, free_there, byte_there, if_none}
use Rattle.bpf_hash.proofs.store.HashStore.peek.Goals as goal

-- of the store whose parts are these, the byte at an address lies in the element of a table
module _ (parts p : Contents) (view : ◌≡◌ {A = Contents} parts p) (ok : IsStore parts) (a : ℕ) (r : Reach) (at : IsReach p a r) (t : Rows)
    (t_is : t ≡ get_or parts.tables r.map t)
    (runs : List Runs) (runs_are : runs ≡ parts.runs) where
  is : IsStore p
  is = subst IsStore view ok

  row : t ≡ rows p r.map
  row = read_row p r.map parts.runs parts.tables t view at.map t_is

  all : runs ≡ p.runs
  all = runs_are ∙ ap (λ (q : Contents). q.runs) view

  shown : (b : ℕ) → IsTakenRow runs t r.element × (b ≡ slice_index (bytes_of t r.element) r.offset) → ShowsByte p a b
  shown b found =
      byte_there p is a r at (subst (λ (rs : List Runs). IsTakenRow rs (rows p r.map) r.element) all
      (subst (λ (x : Rows). IsTakenRow runs x r.element) row found.0)) b
      (found.1 ∙ ap (λ (x : Rows). slice_index (bytes_of x r.element) r.offset) row)

  not_shown : (IsTakenRow runs t r.element → ⊥) → ShowsNoByte p a
  not_shown free = free_there p is a r at (λ k. free (subst (λ (rs : List Runs). IsTakenRow rs t r.element) (sym all)
      (subst (λ (x : Rows). IsTakenRow p.runs x r.element) (sym row) k)))

pub returns-in_err-reach-clause-none : goal.returns-in_err-reach-clause-none
returns-in_err-reach-clause-none c =
    let p = c.args.self.now in
    let is : IsStore p = subst IsStore c.self.view_is c.self.invariant in
    rw c.from_residual.ensures (nothing_there p is c.args.address c.in_err-reach.ensures.none)

pub returns-clause-found : goal.returns-clause-found
returns-clause-found c =
    IfSome_then c.byte.result c.byte.ensures.taken (shown (record { runs = c.self.inside.runs.items; tables = c.self.inside.tables.items })
    c.args.self.now c.self.view_is c.self.invariant c.args.address c.in_ok-reach.reach c.in_ok-reach.ensures.found c.index.result.now
    c.index.ensures c.as_slice-runs.result.now c.as_slice-runs.ensures.value)

pub returns-clause-none : goal.returns-clause-none
returns-clause-none c =
    if_none c.byte.result c.byte.ensures.free (not_shown (record { runs = c.self.inside.runs.items; tables = c.self.inside.tables.items })
    c.args.self.now c.self.view_is c.self.invariant c.args.address c.in_ok-reach.reach c.in_ok-reach.ensures.found c.index.result.now
    c.index.ensures c.as_slice-runs.result.now c.as_slice-runs.ensures.value)
