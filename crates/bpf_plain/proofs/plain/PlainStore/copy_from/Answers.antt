use Rattle.std.proofs.Common.{◌∙◌, List, ℕ, [], length, get_or, sym, ap, arith}
use Rattle.std.specs.Prelude.{Vec}
use Rattle.std.specs.declared.alloc.Global.{Global}
use Rattle.bpf_shared.specs.Contents.{bytes_of_all}
use Rattle.bpf_plain.specs.Private.Contents.{Contents, shape_of}
use Rattle.bpf_plain.proofs.Alike.{same_sizes}
use Rattle.bpf_plain.proofs.Vectors.{count_all}
use Rattle.bpf_plain.proofs.plain.PlainStore.copy_from.Goals as goal

pub copy_arrays-requires-clause-sizes : goal.copy_arrays-requires-clause-sizes
copy_arrays-requires-clause-sizes c a l =
    let p : Contents = record { shape = c.self.inside.shape; maps = c.self.inside.maps; arrays = bytes_of_all c.self.inside.arrays.items } in
    let q : Contents = record { shape = c.other.inside.shape; maps = c.other.inside.maps; arrays = bytes_of_all c.other.inside.arrays.items } in
    let same = ap shape_of c.self.view_is ∙ (c.requires.1 ∙ ap shape_of (sym c.other.view_is)) in
    let mine = ap (λ (vs : List (Vec ℕ Global)). length vs) c.deref_mut.ensures.value in
    let all = count_all c.self.inside.arrays.items in
    ap (λ (vs : List (Vec ℕ Global)). length (get_or (bytes_of_all vs) a [])) c.deref.ensures.value
    ∙ (same_sizes p q c.self.invariant c.other.invariant (sym same) a (omega arith)
    ∙ ap (λ (vs : List (Vec ℕ Global)). length (get_or (bytes_of_all vs) a [])) (sym c.deref_mut.ensures.value))
