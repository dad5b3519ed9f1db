use Rattle.std.proofs.Common.{◌≡◌, ◌<◌, ◌∙◌, ℕ, List, length, subst, ap, sym, arith}
use Rattle.std.specs.Vec.{with_items}
use Rattle.std.proofs.lemmas.List.{with_items_is}
use Rattle.bpf_base.specs.Bytes.{low_bytes}
use Rattle.bpf_base.proofs.Numbers.{length-low_bytes}
use Rattle.bpf_shared.specs.Access.{bytes_in}
use Rattle.bpf_plain.specs.Private.Contents.{Contents, IsStore}
use Rattle.bpf_plain.proofs.Places.{some_bytes}
use Rattle.bpf_plain.proofs.Vectors.{count_all, stored_is}
use Rattle.bpf_plain.proofs.Accessing.{is_store}
use Rattle.bpf_plain.proofs.plain.PlainStore.store_fixed.Goals as goal

pub invariant_of-self : goal.invariant_of-self
invariant_of-self c =
    let is : IsStore c.args.self.now = subst IsStore c.self.view_is c.self.invariant in
    let l : c.place-place.result.array < length c.self.inside.arrays.items = (
    let t = c.place-place.ensures.there in
    let same = ap (λ (p : Contents). length p.arrays) c.self.view_is in
    let all = count_all c.self.inside.arrays.items in
    omega arith
    ) in
    let low = low_bytes (bytes_in c.args.size) c.args.word in
    let many : length c.store.new.bytes ≡ c.index_mut.result.now.len = (
    let kept = c.store.auto.bytes in
    let same = ap (λ (bs : List ℕ). length bs) c.deref_mut.ensures.value in
    omega (arith, c.index_mut.result.now.ok.0)
    ) in
    let e = stored_is c.self.inside.shape c.self.inside.maps c.self.inside.arrays.items c.args.self.now c.self.view_is c.args.at
    c.place-place.result.array c.place-place.result.offset c.place-place.ensures.array c.place-place.ensures.offset l c.index_mut.result.now
    (with_items c.index_mut.result.now c.store.new.bytes) c.index_mut.ensures.value c.deref_mut.result.now c.deref_mut.ensures.value low
    (with_items_is c.index_mut.result.now c.store.new.bytes many ∙ c.store.ensures) in
    subst IsStore (sym e)
    (is_store c.args.self.now is 0 c.args.at (bytes_in c.args.size) (some_bytes c.args.size) c.requires.0 low
    (length-low_bytes (bytes_in c.args.size) c.args.word) c.requires.1)

pub returns : goal.returns
returns c =
    let l : c.place-place.result.array < length c.self.inside.arrays.items = (
    let t = c.place-place.ensures.there in
    let same = ap (λ (p : Contents). length p.arrays) c.self.view_is in
    let all = count_all c.self.inside.arrays.items in
    omega arith
    ) in
    let low = low_bytes (bytes_in c.args.size) c.args.word in
    let many : length c.store.new.bytes ≡ c.index_mut.result.now.len = (
    let kept = c.store.auto.bytes in
    let same = ap (λ (bs : List ℕ). length bs) c.deref_mut.ensures.value in
    omega (arith, c.index_mut.result.now.ok.0)
    ) in
    let e = stored_is c.self.inside.shape c.self.inside.maps c.self.inside.arrays.items c.args.self.now c.self.view_is c.args.at
    c.place-place.result.array c.place-place.result.offset c.place-place.ensures.array c.place-place.ensures.offset l c.index_mut.result.now
    (with_items c.index_mut.result.now c.store.new.bytes) c.index_mut.ensures.value c.deref_mut.result.now c.deref_mut.ensures.value low
    (with_items_is c.index_mut.result.now c.store.new.bytes many ∙ c.store.ensures) in
    e
