use Rattle.std.proofs.Common.{length, refl}
use Rattle.std.specs.Ordering.{nat_cmp, ordering_then}
use Rattle.std.specs.Cmp.Lexicographic.{slice_cmp}
use Rattle.bpf_hash.proofs.Linking.{marked_inside}
use Rattle.bpf_hash.proofs.Sorting.{sorted_pairs}
use Rattle.bpf_hash.proofs.table.Table.pairs.Goals as goal

pub returns : goal.returns
returns c =
    let t = c.args.self.now in
    record {
      pairs = sorted_pairs t (length t.linked) (λ i l. marked_inside t.linked i l) c.in_ok-pairs.pairs.items
          c.sort_unstable.new.self.items c.in_ok-pairs.ensures c.sort_unstable.ensures.permutation
          (λ x y. ordering_then (slice_cmp nat_cmp x.0.items y.0.items) (slice_cmp nat_cmp x.1.items y.1.items))
          (λ x y. slice_cmp nat_cmp x.1.items y.1.items) (λ x y. refl) c.sort_unstable.ensures.sorted;
    }
