use Rattle.std.proofs.Common.{◌≡◌, ℕ, ◌*◌, ◌<◌, List, length, sym, ap, subst, ◌∙◌}
use Rattle.std.proofs.lemmas.Option.{IfSome_then}
use Rattle.bpf_base.specs.Bytes.{part}
use Rattle.bpf_hash.specs.Private.Rows.{Rows, key_of, IsTable}
use Rattle.bpf_hash.specs.Private.Chains.{IsChainedAt}
use Rattle.bpf_hash.specs.Private.Home.{home_of}
use Rattle.bpf_hash.specs.Private.Index.{IsIndexed}
use Rattle.bpf_hash.proofs.Linking.{linked_inside}
use Rattle.bpf_hash.proofs.Homes.{home_inside}
use Rattle.bpf_hash.proofs.Listing.{if_none}
use Rattle.bpf_hash.proofs.table.Table.find_at.Goals as goal

pub find-requires : goal.find-requires
find-requires c =
    let t = c.args.self.now in
    let is : IsTable t = subst IsTable c.self.view_is c.self.invariant.0 in
    let indexed : IsIndexed t c.self.inside.index = subst (λ (r : Rows). IsIndexed r c.self.inside.index) c.self.view_is c.self.invariant.1.0 in
    record {
      home = subst (λ (n : ℕ). c.args.home < n) (sym indexed.homes) (home_inside t is c.args.key.now c.args.home c.requires);
      keys = ap (length {A = ℕ}) c.deref.ensures.value ∙ (c.self.invariant.0.keys ∙ ap (λ (n : ℕ). n * c.self.inside.shape.key)
          (sym c.self.invariant.1.0.elements));
    }

pub returns-clause-inside : goal.returns-clause-inside
returns-clause-inside c =
    let t = c.args.self.now in
    let is : IsTable t = subst IsTable c.self.view_is c.self.invariant.0 in
    let indexed : IsIndexed t c.self.inside.index = subst (λ (r : Rows). IsIndexed r c.self.inside.index) c.self.view_is c.self.invariant.1.0 in
    IfSome_then c.find.result c.find.ensures.found (λ i p. linked_inside t is i (indexed.linked c.args.home i p.0).0)

pub returns-clause-found : goal.returns-clause-found
returns-clause-found c =
    let t = c.args.self.now in
    let w = c.self.inside.shape.key in
    let indexed : IsIndexed t c.self.inside.index = subst (λ (r : Rows). IsIndexed r c.self.inside.index) c.self.view_is c.self.invariant.1.0 in
    IfSome_then c.find.result c.find.ensures.found (λ i p. record {
      linked = (indexed.linked c.args.home i p.0).0;
      is = subst (λ (r : Rows). key_of r i ≡ c.args.key.now) c.self.view_is (ap (λ (ks : List ℕ). part ks (i * w) w) (sym c.deref.ensures.value) ∙ p.1);
    })

pub returns-clause-absent : goal.returns-clause-absent
returns-clause-absent c =
    let t = c.args.self.now in
    let w = c.self.inside.shape.key in
    let indexed : IsIndexed t c.self.inside.index = subst (λ (r : Rows). IsIndexed r c.self.inside.index) c.self.view_is c.self.invariant.1.0 in
    if_none c.find.result c.find.ensures.absent (λ none i linked e.
    let home = c.requires ∙ ap (home_of t.shape.max) (sym e) in
    let bytes = subst (λ (r : Rows). key_of r i ≡ c.args.key.now) (sym c.self.view_is) e in
    none i (subst (λ (n : ℕ). IsChainedAt c.self.inside.index n i) (sym home) (indexed.found i linked))
    (ap (λ (ks : List ℕ). part ks (i * w) w) c.deref.ensures.value ∙ bytes))
