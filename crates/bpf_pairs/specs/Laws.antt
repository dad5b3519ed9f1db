-- What follows from the definition of the store that has pairs.
use Rattle.std.specs.Prelude.{◌≡◌, List}
use Rattle.bpf_shared.specs.Shape.{Shape, IsShape}
use Rattle.bpf_shared.specs.Store.{Plain, as_made}
use Rattle.bpf_shared.specs.History.{PlainlyLegal}
use Rattle.bpf_pairs.specs.Pairs.{Pair, ArePairs}
use Rattle.bpf_pairs.specs.Putting.{first_history}
use Rattle.bpf_pairs.specs.Filled.{filled}

-- the first history leads from the store as made to the one that has the pairs
abbrev pub PairsArePut : Type 0
PairsArePut = (h : Shape) (ps : List Pair) → IsShape h → ArePairs h.maps ps
    → PlainlyLegal (as_made h) (first_history ps) (filled h ps)

-- and, on one thread, to no other
abbrev pub PutsLeaveOneStore : Type 0
PutsLeaveOneStore = (h : Shape) (ps : List Pair) (s : Plain) → IsShape h → ArePairs h.maps ps
    → PlainlyLegal (as_made h) (first_history ps) s → s ≡ filled h ps
