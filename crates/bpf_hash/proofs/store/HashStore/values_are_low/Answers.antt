use Rattle.std.proofs.Common.{subst}
use Rattle.bpf_hash.specs.Private.Contents.{IsStore}
use Rattle.bpf_hash.proofs.Holding.{value_span}
use Rattle.bpf_hash.proofs.Listing.{elements_low}
use Rattle.bpf_hash.proofs.store.HashStore.values_are_low.Goals as goal

pub returns-clause-held : goal.returns-clause-held
returns-clause-held c cpu span held =
    let is : IsStore c.args.self.now = subst IsStore c.self.view_is c.self.invariant in value_span c.args.self.now is cpu span held

pub returns-clause-shown : goal.returns-clause-shown
returns-clause-shown c s so h = let is : IsStore c.args.self.now = subst IsStore c.self.view_is c.self.invariant in elements_low c.args.self.now is s so h
