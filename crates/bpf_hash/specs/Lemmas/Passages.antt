-- Passages of a `HashStore` follow each other.
use Rattle.std.proofs.Common.{List, [], ◌++◌, refl}
use Rattle.bpf_shared.specs.declared.events.Entry.{Entry}
use Rattle.bpf_hash.specs.HashStore.{Contents, Passes}
use Rattle.bpf_shared.proofs.Histories.{history-append}

pub passes_nothing : (x : Contents) → Passes x x []
passes_nothing x s so h = (s, refl, so, h)

pub passes_follow : (x y z : Contents) (xs ys : List Entry)
    → Passes x y xs → Passes y z ys → Passes x z (xs ++ ys)
passes_follow x y z xs ys p q s so h =
    let r = p s so h in
    let t = q r.0 r.2 r.3 in
    (t.0, history-append _ s r.0 t.0 xs ys r.1 t.1, t.2, t.3)
