use Rattle.std.proofs.Common.{◌≡◌, ℕ, ◌-◌, ◌/◌, ◌<◌, length, get_or, subst, sym}
use Rattle.bpf_hash.specs.Private.Rows.{Rows}
use Rattle.bpf_hash.specs.Private.Contents.{Contents, rows, IsStore}
use Rattle.bpf_hash.specs.Private.Changes.{IsAtValue}
use Rattle.bpf_hash.proofs.Changing.{read_row}
use Rattle.bpf_shared.proofs.Places.{reached}
use Rattle.bpf_hash.proofs.Accessing.{reach_facts}
use Rattle.bpf_hash.proofs.store.HashStore.reach.Goals as goal

-- of the store whose parts are these, the table that the code reads for an address
module _ (parts p : Contents) (view : ◌≡◌ {A = Contents} parts p) (ok : IsStore parts) (a : ℕ) (v : IsAtValue p a) (t : Rows)
    (t_is : t ≡ get_or parts.tables ((a - 0x10_0000_0000) / 0x1000_0000) t) where
  is : IsStore p
  is = subst IsStore view ok

  there : (a - 0x10_0000_0000) / 0x1000_0000 < length p.tables
  there = subst (λ (n : ℕ). n < length p.tables) (sym (reached v.0 v.1 a (rows p v.0).shape (is.tables v.0 v.2).0.shape v.3 v.4).0) v.2

  row : t ≡ rows p ((a - 0x10_0000_0000) / 0x1000_0000)
  row = read_row p _ parts.runs parts.tables t view there t_is

pub returns-clause-element : goal.returns-clause-element
returns-clause-element c = (reach_facts c.args.self.now (subst IsStore c.self.view_is c.self.invariant) c.args.at c.requires
    c.index.result.now c.stride-stride.result (row (record { runs = c.self.inside.runs.items; tables = c.self.inside.tables.items })
    c.args.self.now c.self.view_is c.self.invariant c.args.at c.requires c.index.result.now c.index.ensures) c.stride-stride.ensures.stride).0

pub returns-clause-at : goal.returns-clause-at
returns-clause-at c = (reach_facts c.args.self.now (subst IsStore c.self.view_is c.self.invariant) c.args.at c.requires c.index.result.now
    c.stride-stride.result (row (record { runs = c.self.inside.runs.items; tables = c.self.inside.tables.items }) c.args.self.now
    c.self.view_is c.self.invariant c.args.at c.requires c.index.result.now c.index.ensures) c.stride-stride.ensures.stride).1

pub returns-clause-inside : goal.returns-clause-inside
returns-clause-inside c = (reach_facts c.args.self.now (subst IsStore c.self.view_is c.self.invariant) c.args.at c.requires
    c.index.result.now c.stride-stride.result (row (record { runs = c.self.inside.runs.items; tables = c.self.inside.tables.items })
    c.args.self.now c.self.view_is c.self.invariant c.args.at c.requires c.index.result.now c.index.ensures) c.stride-stride.ensures.stride).2
