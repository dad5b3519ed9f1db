-- The spans on the grid, and the sizes of their maps' values, when one more is held.
use Rattle.std.proofs.Common.{ℕ, List, [], ◌∷◌, ◌++◌, Some, refl}
use Rattle.std.specs.Prelude.{All}
use Rattle.std.proofs.lemmas.List.Elements.{All-head, All-tail, All-push, All-pop, All-weaker}
use Rattle.bpf_shared.specs.declared.events.Span.{Span}
use Rattle.bpf_shared.specs.declared.shapes.MapShape.{MapShape}
use Rattle.bpf_shared.specs.Shape.{AreMaps, IsElement, IsElementSpan}
use Rattle.bpf_helpers.specs.Held.{AreElements}
use Rattle.bpf_helpers.specs.Private.Grid.{IsOnGrid}
use Rattle.bpf_helpers.specs.Private.Sizes.{AreSizesOf}

module _ (old new : List ℕ) (spans : List Span) (s : Span)
    (kept : (p : Span) → IsOnGrid old p → IsOnGrid new p)
    (noted : (maps : List MapShape) (m : ℕ) → AreMaps maps → AreSizesOf maps old → IsElementSpan maps m s → AreSizesOf maps new × IsOnGrid new s)
    (sized : (maps : List MapShape) → AreMaps maps → All (IsElement maps) spans → AreSizesOf maps old) where
  pub all_on : All (IsOnGrid old) spans → AreElements (s ∷ spans) → All (IsOnGrid new) (spans ++ s ∷ [])
  all_on were (maps, are, all) =
      let e = All-head (IsElement maps) s spans all in
      let rest = All-tail (IsElement maps) s spans all in
      All-push (IsOnGrid new) spans s (All-weaker (IsOnGrid old) (IsOnGrid new) kept spans were) (noted maps e.0 are (sized maps are rest) e.1).1

  pub all_sized : (maps : List MapShape) → AreMaps maps → All (IsElement maps) (spans ++ s ∷ []) → AreSizesOf maps new
  all_sized maps are all =
      let parts = All-pop (IsElement maps) (spans ++ s ∷ []) spans (Some s) refl all in
      (noted maps parts.1.0 are (sized maps are parts.0) parts.1.1).0

  pub now_on : All (IsOnGrid old) spans → IsOnGrid new s → All (IsOnGrid new) (spans ++ s ∷ [])
  now_on were on = All-push (IsOnGrid new) spans s (All-weaker (IsOnGrid old) (IsOnGrid new) kept spans were) on

  -- what may be held besides is on the grid then
  pub on_then : AreElements (spans ++ s ∷ []) → IsOnGrid new s
  on_then (maps, are, all) =
      let parts = All-pop (IsElement maps) (spans ++ s ∷ []) spans (Some s) refl all in
      (noted maps parts.1.0 are (sized maps are parts.0) parts.1.1).1
