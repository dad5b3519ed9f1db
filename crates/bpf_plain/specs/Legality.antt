-- What a passage of a `PlainStore` is.
use Rattle.std.specs.Prelude.{List}
use Rattle.bpf_shared.specs.declared.events.Entry.{Entry}
use Rattle.bpf_shared.specs.Shape.{Shape, IsShape}
use Rattle.bpf_shared.specs.History.{IsLegal}
use Rattle.bpf_plain.specs.PlainStore.{Contents, Passes, IsMade}

-- a passage from a store as made, of a shape that a store may have, is a legal history
abbrev pub PassagesAreLegal : Type 0
PassagesAreLegal = (h : Shape) (x y : Contents) (log : List Entry) → IsShape h → IsMade h x
    → Passes x y log
    → IsLegal h log
