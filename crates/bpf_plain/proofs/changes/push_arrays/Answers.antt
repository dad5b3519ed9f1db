use Rattle.std.proofs.Common.{◌≡◌, ◌∙◌, ◌++◌, ◌+◌, ◌<◌, ℕ, suc, false, List, [], length, slice_get, get_or, append_assoc, refl, sym, ap, arith}
use Rattle.std.specs.Prelude.{Vec}
use Rattle.std.specs.declared.alloc.Global.{Global}
use Rattle.bpf_shared.specs.declared.shapes.ArrayShape.{ArrayShape}
use Rattle.bpf_shared.specs.Contents.{bytes_of_all}
use Rattle.bpf_hash.specs.Private.Saved.{all_below}
use Rattle.bpf_hash.proofs.Fronts.{still_starts}
use Rattle.bpf_plain.specs.Private.Saved.{saved_array, array_block}
use Rattle.bpf_plain.proofs.Places.{array_sized}
use Rattle.bpf_plain.proofs.SavedAlike.{few_bytes}
use Rattle.bpf_plain.proofs.Vectors.{bytes_at, count_all}
use Rattle.bpf_plain.proofs.changes.push_arrays.Goals as goal

abbrev none : ArrayShape
none = record { value = 0; max = 0; per_cpu = false; frozen = false }

-- the bytes that are saved are those of the array
module _ (arrays : List (Vec ℕ Global)) (n : ℕ) (v : Vec ℕ Global) (is : v ≡ get_or arrays n v) (l : n < length arrays) (bytes : List ℕ)
    (value : bytes ≡ v.items) where
  bytes_are : bytes ≡ get_or (bytes_of_all arrays) n []
  bytes_are = value ∙ (ap (λ (x : Vec ℕ Global). x.items) is ∙ sym (bytes_at arrays n v l))

pub push_array-requires-clause-few : goal.push_array-requires-clause-few
push_array-requires-clause-few c =
    let h = c.args.shape.now in
    let n = c.loop-number.number in
    let below = c.loop-number-test.true in
    let same = ap (λ (gs : List ArrayShape). length gs) c.arrays-number-end.ensures.arrays in
    let count = c.requires.count in
    let all = count_all c.args.arrays.now in
    let sized = array_sized h c.arrays-number-end.ensures.in_range h.arrays refl n h.cpus none refl (omega arith) in
    let size = (c.requires.each n (get_or h.arrays n none) sized.0).size in
    let few = few_bytes h.cpus (get_or h.arrays n none) c.arrays-number-end.ensures.in_range.cpus.1 sized.1 in
    let long = ap (λ (bs : List ℕ). length bs) (bytes_are c.args.arrays.now n c.index-arrays-number.result c.index-arrays-number.is
    (omega arith) c.deref.result.now c.deref.ensures.value) in
    omega arith

pub returns-in_err-push_array-clause-err : goal.returns-in_err-push_array-clause-err
returns-in_err-push_array-clause-err c =
    let before = all_below (array_block c.args.shape.now (bytes_of_all c.args.arrays.now)) c.loop-number.number in
    still_starts c.from_residual.result c.args.out.now.items c.loop-number.out.items c.push_array.new.out.items before
    c.loop-number.invariant c.in_err-push_array.ensures.err

pub loop-number-preserved : goal.loop-number-preserved
loop-number-preserved c =
    let h = c.args.shape.now in
    let n = c.loop-number.number in
    let below = c.loop-number-test.true in
    let same = ap (λ (gs : List ArrayShape). length gs) c.arrays-number-end.ensures.arrays in
    let count = c.requires.count in
    let all = count_all c.args.arrays.now in
    let f : ℕ → List ℕ = array_block h (bytes_of_all c.args.arrays.now) in
    let more : suc n ≡ n + 1 = omega arith in
    let these = bytes_are c.args.arrays.now n c.index-arrays-number.result c.index-arrays-number.is (omega arith) c.deref.result.now c.deref.ensures.value in
    c.in_ok-push_array.ensures.ok
    ∙ (ap (λ (bs : List ℕ). c.loop-number.out.items ++ saved_array h n (slice_get h.arrays n) bs) these
    ∙ (ap (λ (bs : List ℕ). bs ++ f n) c.loop-number.invariant
    ∙ (append_assoc c.args.out.now.items (all_below f n) (f n) ∙ ap (λ (k : ℕ). c.args.out.now.items ++ all_below f k) more)))
