use Rattle.std.proofs.Common.{◌≡◌, ◌∙◌, ◌<◌, ℕ, false, List, [], length, length-drop, get_or, sym, ap, subst, arith}
use Rattle.std.specs.Prelude.{Vec}
use Rattle.std.specs.Vec.{with_items}
use Rattle.std.specs.declared.alloc.Global.{Global}
use Rattle.std.proofs.lemmas.List.{ext_get_or, length-set, with_items_is}
use Rattle.std.proofs.lemmas.Option.{slice_get-get_or, slice_get_within}
use Rattle.bpf_shared.specs.declared.shapes.ArrayShape.{ArrayShape}
use Rattle.bpf_shared.specs.Contents.{bytes_of_all}
use Rattle.bpf_shared.specs.Shape.{IsArray, contents_of}
use Rattle.bpf_plain.specs.Private.Contents.{IsArrayOf, IsAsMade}
use Rattle.bpf_plain.proofs.Arrays.{one_array, one_read}
use Rattle.bpf_plain.proofs.Vectors.{bytes_at, bytes_kept, count_all}
use Rattle.bpf_plain.proofs.reading.fill_arrays.Goals as goal

abbrev none : ArrayShape
none = record { value = 0; max = 0; per_cpu = false; frozen = false }

pub read_array-at-requires-clause-made : goal.read_array-at-requires-clause-made
read_array-at-requires-clause-made c g there =
    let h = c.args.shape.now in
    let n = c.loop-number.number in
    let v = c.index-arrays-number.result in
    let below = slice_get_within h.arrays n g there in
    let count = c.loop-number.invariant.count in
    let made = c.requires.count in
    let all = count_all c.args.arrays.now in
    let here : c.deref_mut.result.now ≡ get_or (bytes_of_all c.args.arrays.now) n [] =
    c.deref_mut.ensures.value ∙ (sym (bytes_at c.loop-number.arrays n v (omega arith)) ∙ c.loop-number.invariant.rest n (omega arith)) in
    subst (IsAsMade h.cpus g (contents_of h n)) (sym here) (c.requires.each n g there)

pub loop-number-preserved : goal.loop-number-preserved
loop-number-preserved c =
    let h = c.args.shape.now in
    let n = c.loop-number.number in
    let inv = c.loop-number.invariant in
    let arrays = c.loop-number.arrays in
    let new = c.read_array-at.new.bytes in
    let u : Vec ℕ Global = get_or arrays n c.index-arrays-number.result in
    let v : Vec ℕ Global = with_items u new in
    let less = c.loop-number-test.true in
    let same = ap (λ (gs : List ArrayShape). length gs) c.arrays-number-end.ensures.arrays in
    let count = inv.count in
    let made = c.requires.count in
    let all = count_all c.args.arrays.now in
    let inside : n < length h.arrays = omega arith in
    let among : n < length arrays = omega arith in
    let there : IsArray h.arrays n (get_or h.arrays n none) = slice_get-get_or h.arrays n none inside in
    let many : length new ≡ u.len = (
    let kept = c.read_array-at.auto.bytes in
    let was = ap (λ (bs : List ℕ). length bs) c.deref_mut.ensures.value in
    omega (arith, u.ok.0)
    ) in
    let put : v.items ≡ new = with_items_is u new many in
    record {
      count = length-set arrays n v ∙ inv.count;
      read = λ others more are is.
          (let i = inv.read others more are is in
          one_read h arrays n v among c.args.saved.now c.past.result.now c.loop-number.at c.read_array-at.result c.past.ensures inside
          others more (get_or h.arrays n none) there are is
          (λ k xs rest at of e. (let got = c.read_array-at.ensures.read k xs rest at of e in (put ∙ got.0, got.1))) i.0 i.1);
      done = one_array h arrays n v among (λ k at. subst (IsArrayOf h n k) (sym put) (c.read_array-at.ensures.array k at)) inv.done;
      rest = λ a l. bytes_kept arrays n a v (λ e. (let z : a ≡ n = e in omega arith)) ∙ inv.rest a (omega arith);
      inside =
          (let left = c.read_array-at.ensures.inside in
          let long = ap (λ (bs : List ℕ). length bs) c.past.ensures in
          let dropped = length-drop c.loop-number.at c.args.saved.now in
          let before = inv.inside in
          omega arith);
    }

pub returns-clause-read : goal.returns-clause-read
returns-clause-read c others more are is =
    let i = c.loop-number.invariant.read others more are is in
    let past = c.loop-number-test.false in
    let same = ap (λ (gs : List ArrayShape). length gs) c.arrays-number-end.ensures.arrays in
    let count = c.loop-number.invariant.count in
    let made = c.requires.count in
    let all = count_all c.args.arrays.now in
    let here = count_all c.loop-number.arrays in
    let those = are.count in
    ext_get_or [] (bytes_of_all c.loop-number.arrays) others (omega arith) (λ a l. i.0 a (omega arith))

pub returns-clause-arrays : goal.returns-clause-arrays
returns-clause-arrays c =
    let past = c.loop-number-test.false in
    let same = ap (λ (gs : List ArrayShape). length gs) c.arrays-number-end.ensures.arrays in
    let count = c.loop-number.invariant.count in
    let made = c.requires.count in
    let all = count_all c.args.arrays.now in
    let here = count_all c.loop-number.arrays in
    record {
      count = omega arith;
      each = λ a g is. (let below = slice_get_within c.args.shape.now.arrays a g is in c.loop-number.invariant.done a g (omega arith) is);
    }
