use Rattle.std.proofs.Common.{subst}
use Rattle.bpf_shared.specs.Contents.{bytes_of_all}
use Rattle.bpf_shared.specs.Shape.{IsShape}
use Rattle.bpf_plain.proofs.Making.{new_store, new_made}
use Rattle.bpf_plain.proofs.plain.PlainStore.allocate.Goals as goal

pub invariant_of-result : goal.invariant_of-result
invariant_of-result c = new_store c.args.shape (subst IsShape c.shape.view_is c.shape.invariant) c.in_ok-maps.maps
    (bytes_of_all c.in_ok-arrays.arrays.items) c.in_ok-maps.ensures c.in_ok-arrays.ensures

pub returns : goal.returns
returns c = new_made c.args.shape (subst IsShape c.shape.view_is c.shape.invariant) c.in_ok-maps.maps
    (bytes_of_all c.in_ok-arrays.arrays.items) c.in_ok-maps.ensures c.in_ok-arrays.ensures
