-- Contents in their normal form: what a `PlainStore` is restored to.
use Rattle.bpf_hash.specs.HashStore as hash
use Rattle.bpf_plain.specs.Private.Contents.{Contents, with_maps}

-- only maps have more than one form
abbrev pub normal : Contents → Contents
normal p = with_maps p (hash.normal p.maps)
