use Rattle.std.proofs.Common.{◌≡◌, ◌∙◌, ℕ, ◌<◌, [], length, get_or, set, inl, inr, sym, ap, arith}
use Rattle.std.proofs.lemmas.List.{ext_get_or, length-set}
use Rattle.std.specs.Prelude.{Vec}
use Rattle.std.specs.declared.alloc.Global.{Global}
use Rattle.bpf_shared.specs.Contents.{bytes_of_all}
use Rattle.bpf_shared.proofs.Puts.{equal_or_not}
use Rattle.bpf_hash.proofs.Blocks.{below_or_same}
use Rattle.bpf_plain.proofs.Vectors.{bytes_at, bytes_put, bytes_kept, count_all}
use Rattle.bpf_plain.proofs.bytes.copy_arrays.Goals as goal

pub loop-number-preserved : goal.loop-number-preserved
loop-number-preserved c =
    let i = c.loop-number.invariant in
    let n = c.loop-number.number in
    let count = i.count in
    let many = c.requires.count in
    let v = c.copy_bytes.new.bytes in
    let inside : n < length c.loop-number.arrays = (let t = c.loop-number-test.true in omega arith) in
    let among : n < length c.args.others.now = omega arith in
    let same : v.items ≡ get_or (bytes_of_all c.args.others.now) n [] =
    c.copy_bytes.ensures ∙ (c.deref.ensures.value ∙ (ap (λ (x : Vec ℕ Global). x.items) c.index-others-number.is ∙ sym
    (bytes_at c.args.others.now n c.index-others-number.result among))) in
    record {
      count = length-set c.loop-number.arrays n v ∙ i.count;
      done = λ a l. elim (equal_or_not a n) [
        | inl e ↦
            ap (λ (x : ℕ). get_or (bytes_of_all (set c.loop-number.arrays n v)) x []) e
            ∙ (bytes_put c.loop-number.arrays n v inside ∙ (same ∙ ap (λ (x : ℕ). get_or (bytes_of_all c.args.others.now) x []) (sym e)))
        | inr ne ↦ bytes_kept c.loop-number.arrays n a v ne ∙ i.done a (below_or_same a n l ne)
      ];
      rest = λ a l. bytes_kept c.loop-number.arrays n a v (λ e. (let z : a ≡ n = e in omega arith)) ∙ i.rest a (omega arith);
    }

pub returns : goal.returns
returns c =
    let i = c.loop-number.invariant in
    let count = i.count in
    let many = c.requires.count in
    let most = c.loop-number-test.false in
    let a = count_all c.loop-number.arrays in
    let b = count_all c.args.others.now in
    ext_get_or [] (bytes_of_all c.loop-number.arrays) (bytes_of_all c.args.others.now) (omega arith) (λ x l. i.done x (omega arith))
