-- The store whose maps have pairs at first.
use Rattle.std.specs.Prelude.{ℕ, List, [], ◌∷◌, ◌++◌, Option, Some, None, slice_get}
use Rattle.bpf_shared.specs.declared.shapes.MapShape.{MapShape}
use Rattle.bpf_shared.specs.Shape.{Shape, element_span}
use Rattle.bpf_shared.specs.Store.{Plain, as_made}
use Rattle.bpf_shared.specs.Events.{after_begin, after_end, after_update}
use Rattle.bpf_pairs.specs.Pairs.{Pair, pairs_in}

-- with one pair more, whose value is the next one and lies in this element of a map of this shape
abbrev pub with_pair : Plain → Pair → ℕ → Option MapShape → Plain
with_pair s p i (Some h) = after_update s p.map p.key (record {
  bytes = p.value;
  span = element_span p.map h i;
})
with_pair s p i None = s

-- with more pairs after some: the k-th pair of a map lies in its k-th element
abbrev pub with_pairs : Plain → (before more : List Pair) → Plain
with_pairs s before [] = s
with_pairs s before (p ∷ ps) = with_pairs
    (with_pair s p (pairs_in p.map before) (slice_get s.shape.maps p.map)) (before ++ p ∷ []) ps

-- THE FIRST STORE, before any job: as made, and after a run of CPU 0 in which it put the pairs in, in
-- their order; where there are none it has had no run
abbrev pub filled : Shape → List Pair → Plain
filled h [] = as_made h
filled h (p ∷ ps) = after_end (with_pairs (after_begin (as_made h) 0) [] (p ∷ ps)) 0
