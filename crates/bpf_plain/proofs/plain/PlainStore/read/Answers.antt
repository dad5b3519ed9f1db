use Rattle.std.proofs.Common.{◌≡◌, ◌∙◌, ◌+◌, ◌++◌, List, ℕ, sym, ap, subst}
use Rattle.std.specs.Prelude.{Vec}
use Rattle.std.specs.declared.alloc.Global.{Global}
use Rattle.bpf_shared.specs.Contents.{bytes_of_all}
use Rattle.bpf_hash.proofs.Options.{at_some, at_none}
use Rattle.bpf_plain.specs.Private.Contents.{Contents}
use Rattle.bpf_plain.specs.Private.Saved.{saved_arrays}
use Rattle.bpf_plain.specs.Read.{IsRead, SavesNone}
use Rattle.bpf_plain.proofs.Restoring.{no_arrays, no_maps, both_read}
use Rattle.bpf_plain.proofs.plain.PlainStore.read.Goals as goal

pub returns-in_default-clause-none : goal.returns-in_default-clause-none
returns-in_default-clause-none c =
    let p : Contents = record { shape = c.self.inside.shape; maps = c.self.inside.maps; arrays = bytes_of_all c.self.inside.arrays.items } in
    let none = at_none _ _ c.in_default.is c.in_ok-count.ensures.none in
    subst (λ (q : Contents). SavesNone q c.args.bytes.now) c.self.view_is
    (no_arrays p c.self.invariant (bytes_of_all c.in_ok-arrays.arrays.items) c.args.bytes.now c.in_ok-arrays.ensures.arrays c.in_ok-arrays.ensures.read
    (λ more e. none more (subst (λ (vs : List (Vec ℕ Global)). c.args.bytes.now ≡ saved_arrays c.self.inside.shape (bytes_of_all vs) ++
    more) (sym c.deref.ensures.value) e)))

pub returns-in_default-2-clause-none : goal.returns-in_default-2-clause-none
returns-in_default-2-clause-none c =
    let p : Contents = record { shape = c.self.inside.shape; maps = c.self.inside.maps; arrays = bytes_of_all c.self.inside.arrays.items } in
    let some = at_some _ _ _ c.in-Some.is c.in_ok-count.ensures.some in
    subst (λ (q : Contents). SavesNone q c.args.bytes.now) c.self.view_is
    (no_maps p c.self.invariant (bytes_of_all c.in_ok-arrays.arrays.items) c.args.bytes.now c.in_ok-arrays.ensures.arrays c.in_ok-arrays.ensures.read
    c.in-Some.count some.0 (some.1 ∙ ap (λ (vs : List (Vec ℕ Global)). saved_arrays c.self.inside.shape (bytes_of_all vs))
    c.deref.ensures.value) c.past.result.now c.past.ensures
    (at_none _ _ c.in_default-2.is c.in_ok-more.ensures.none))

pub returns-clause-read : goal.returns-clause-read
returns-clause-read c =
    let p : Contents = record { shape = c.self.inside.shape; maps = c.self.inside.maps; arrays = bytes_of_all c.self.inside.arrays.items } in
    let some = at_some _ _ _ c.in-Some.is c.in_ok-count.ensures.some in
    subst (λ (q : Contents). IsRead q c.args.bytes.now (c.in-Some.count + c.in-Some-2.more)
    (record { shape = c.self.inside.shape; maps = c.read.new.self; arrays = bytes_of_all c.in_ok-arrays.arrays.items })) c.self.view_is
    (both_read p c.self.invariant (bytes_of_all c.in_ok-arrays.arrays.items) c.args.bytes.now c.in_ok-arrays.ensures.arrays c.in_ok-arrays.ensures.read
    c.in-Some.count some.0 (some.1 ∙ ap (λ (vs : List (Vec ℕ Global)). saved_arrays c.self.inside.shape (bytes_of_all vs))
    c.deref.ensures.value) c.past.result.now c.past.ensures
    c.read.new.self c.in-Some-2.more (at_some _ _ _ c.in-Some-2.is c.in_ok-more.ensures.read))
