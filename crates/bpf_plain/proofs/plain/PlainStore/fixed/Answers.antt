use Rattle.std.proofs.Common.{◌≡◌, ◌∙◌, ◌+◌, ◌*◌, ◌<◌, ℕ, List, [], length, get_or, Some, sym, ap, subst, arith}
use Rattle.std.proofs.lemmas.Bool.Decides.{nat_tests}
use Rattle.std.specs.Prelude.{Vec}
use Rattle.std.specs.declared.alloc.Global.{Global}
use Rattle.bpf_base.specs.Bytes.{part}
use Rattle.bpf_shared.specs.declared.shapes.ArrayShape.{ArrayShape}
use Rattle.bpf_shared.specs.Contents.{bytes_of_all}
use Rattle.bpf_shared.specs.Shape.{copy_stride, array_stride}
use Rattle.bpf_plain.specs.Private.Contents.{Contents, bytes_of}
use Rattle.bpf_plain.specs.Shows.{ShowsFixed}
use Rattle.bpf_plain.proofs.Showing.{blank, here, shaped, few, room, copy_there, same_offset, shown}
use Rattle.bpf_plain.proofs.Vectors.{bytes_at, count_all}
use Rattle.bpf_plain.proofs.plain.PlainStore.fixed.Goals as goal

pub copy_stride-requires-clause-value : goal.copy_stride-requires-clause-value
copy_stride-requires-clause-value c =
    let h = c.self.inside.shape in
    let g = c.in_ok-shape.shape.now in
    let l : c.args.array < length c.arrays.result.now = (let t = c.in_ok-shape.ensures.lookup.0 in grind (arith, nat_tests)) in
    let item : g ≡ get_or c.arrays.result.now c.args.array blank = c.in_ok-shape.ensures.lookup.3.1 blank in
    (shaped h c.arrays.ensures.in_range c.arrays.result.now c.arrays.ensures.arrays c.args.array l g item).value.1

pub copy_stride-requires-clause-max : goal.copy_stride-requires-clause-max
copy_stride-requires-clause-max c =
    let h = c.self.inside.shape in
    let g = c.in_ok-shape.shape.now in
    let l : c.args.array < length c.arrays.result.now = (let t = c.in_ok-shape.ensures.lookup.0 in grind (arith, nat_tests)) in
    let item : g ≡ get_or c.arrays.result.now c.args.array blank = c.in_ok-shape.ensures.lookup.3.1 blank in
    (shaped h c.arrays.ensures.in_range c.arrays.result.now c.arrays.ensures.arrays c.args.array l g item).max.1

pub stride-requires : goal.stride-requires
stride-requires c =
    let h = c.self.inside.shape in
    let g = c.in_ok-shape.shape.now in
    let l : c.args.array < length c.arrays.result.now = (let t = c.in_ok-shape.ensures.lookup.0 in grind (arith, nat_tests)) in
    let item : g ≡ get_or c.arrays.result.now c.args.array blank = c.in_ok-shape.ensures.lookup.3.1 blank in
    (shaped h c.arrays.ensures.in_range c.arrays.result.now c.arrays.ensures.arrays c.args.array l g item).value.1

pub overflow_mul-at : goal.overflow_mul-at
overflow_mul-at c =
    let h = c.self.inside.shape in
    let g = c.in_ok-shape.shape.now in
    let l : c.args.array < length c.arrays.result.now = (let t = c.in_ok-shape.ensures.lookup.0 in grind (arith, nat_tests)) in
    let item : g ≡ get_or c.arrays.result.now c.args.array blank = c.in_ok-shape.ensures.lookup.3.1 blank in
    let most = few h c.arrays.ensures.in_range c.arrays.result.now c.arrays.ensures.arrays c.args.array l g item c.args.copy c.args.index
    c.cpus.result c.from.result c.copies.result c.cpus.ensures.cpus c.from.ensures c.copies.ensures c.if-from-copies.false
    c.if-index-shape.false in
    let at : c.from-2.result * c.copy_stride.result ≡ c.args.copy * copy_stride g = ap (λ (x : ℕ). x * c.copy_stride.result)
    c.from-2.ensures ∙ ap (λ (x : ℕ). c.args.copy * x) c.copy_stride.ensures in
    omega arith

pub overflow_add-at : goal.overflow_add-at
overflow_add-at c =
    let h = c.self.inside.shape in
    let g = c.in_ok-shape.shape.now in
    let l : c.args.array < length c.arrays.result.now = (let t = c.in_ok-shape.ensures.lookup.0 in grind (arith, nat_tests)) in
    let item : g ≡ get_or c.arrays.result.now c.args.array blank = c.in_ok-shape.ensures.lookup.3.1 blank in
    let most = few h c.arrays.ensures.in_range c.arrays.result.now c.arrays.ensures.arrays c.args.array l g item c.args.copy c.args.index
    c.cpus.result c.from.result c.copies.result c.cpus.ensures.cpus c.from.ensures c.copies.ensures c.if-from-copies.false
    c.if-index-shape.false in
    let at = same_offset g c.args.copy c.args.index c.from-2.result c.copy_stride.result c.stride.result c.from-2.ensures
    c.copy_stride.ensures c.stride.ensures.stride in
    omega arith

pub bytes_from-requires : goal.bytes_from-requires
bytes_from-requires c =
    let h = c.self.inside.shape in
    let g = c.in_ok-shape.shape.now in
    let l : c.args.array < length c.arrays.result.now = (let t = c.in_ok-shape.ensures.lookup.0 in grind (arith, nat_tests)) in
    let item : g ≡ get_or c.arrays.result.now c.args.array blank = c.in_ok-shape.ensures.lookup.3.1 blank in
    let at = same_offset g c.args.copy c.args.index c.from-2.result c.copy_stride.result c.stride.result c.from-2.ensures
    c.copy_stride.ensures c.stride.ensures.stride in
    let fits = room h c.arrays.ensures.in_range c.arrays.result.now c.arrays.ensures.arrays c.args.array l g item c.args.copy c.args.index
    c.cpus.result c.from.result c.copies.result c.cpus.ensures.cpus c.from.ensures c.copies.ensures c.if-from-copies.false
    c.if-index-shape.false in
    let size = (c.self.invariant.arrays.each c.args.array g (here h c.arrays.ensures.in_range c.arrays.result.now c.arrays.ensures.arrays
    c.args.array l g item)).size in
    let count = c.self.invariant.arrays.count in
    let all = count_all c.self.inside.arrays.items in
    let same = ap (λ (gs : List ArrayShape). length gs) c.arrays.ensures.arrays in
    let bytes : c.as_slice-bytes.result.now ≡ get_or (bytes_of_all c.self.inside.arrays.items) c.args.array [] =
    c.as_slice-bytes.ensures.value ∙ (ap (λ (v : Vec ℕ Global). v.items) c.index.ensures ∙ sym
    (bytes_at c.self.inside.arrays.items c.args.array c.index.result.now (omega arith))) in
    let long = ap (λ (bs : List ℕ). length bs) bytes in
    omega arith

pub returns : goal.returns
returns c =
    let h = c.self.inside.shape in
    let g = c.in_ok-shape.shape.now in
    let l : c.args.array < length c.arrays.result.now = (let t = c.in_ok-shape.ensures.lookup.0 in grind (arith, nat_tests)) in
    let item : g ≡ get_or c.arrays.result.now c.args.array blank = c.in_ok-shape.ensures.lookup.3.1 blank in
    let at = same_offset g c.args.copy c.args.index c.from-2.result c.copy_stride.result c.stride.result c.from-2.ensures
    c.copy_stride.ensures c.stride.ensures.stride in
    let count = c.self.invariant.arrays.count in
    let all = count_all c.self.inside.arrays.items in
    let same = ap (λ (gs : List ArrayShape). length gs) c.arrays.ensures.arrays in
    let bytes : c.as_slice-bytes.result.now ≡ get_or (bytes_of_all c.self.inside.arrays.items) c.args.array [] =
    c.as_slice-bytes.ensures.value ∙ (ap (λ (v : Vec ℕ Global). v.items) c.index.ensures ∙ sym
    (bytes_at c.self.inside.arrays.items c.args.array c.index.result.now (omega arith))) in
    let p : Contents = record { shape = h; maps = c.self.inside.maps; arrays = bytes_of_all c.self.inside.arrays.items } in
    let value : part (bytes_of p c.args.array) (c.args.copy * copy_stride g + c.args.index * array_stride g) g.value ≡ c.bytes_from.result.now =
    sym (c.bytes_from.ensures ∙ (ap (λ (bs : List ℕ). part bs (c.from-2.result * c.copy_stride.result + c.args.index * c.stride.result)
    g.value) bytes ∙ ap (λ (x : ℕ). part (bytes_of p c.args.array) x g.value) at)) in
    subst (λ (q : Contents). ShowsFixed q c.args.array c.args.copy c.args.index (Some c.bytes_from.result.now)) c.self.view_is
    (subst (λ (bs : List ℕ). ShowsFixed p c.args.array c.args.copy c.args.index (Some bs)) value
    (shown p c.args.array c.args.copy c.args.index g (here h c.arrays.ensures.in_range c.arrays.result.now c.arrays.ensures.arrays
    c.args.array l g item) c.self.invariant
    (copy_there h c.arrays.ensures.in_range c.arrays.result.now c.arrays.ensures.arrays c.args.array l g item c.args.copy c.args.index
    c.cpus.result c.from.result c.copies.result c.cpus.ensures.cpus c.from.ensures c.copies.ensures c.if-from-copies.false
    c.if-index-shape.false) c.if-index-shape.false))
