-- How the spans that a run holds are found.
use Rattle.std.specs.Prelude.{◌≤◌, List, All, length}
use Rattle.bpf_shared.specs.declared.events.Span.{Span}
use Rattle.bpf_shared.specs.declared.shapes.MapShape.{MapShape}
use Rattle.bpf_shared.specs.Shape.{AreMaps, IsElement}
use Rattle.bpf_helpers.specs.declared.bins.Bins.{Bins}
use Rattle.bpf_helpers.specs.declared.grid.Grid.{Grid}
use Rattle.bpf_helpers.specs.Private.Bins.{AreBinned}
use Rattle.bpf_helpers.specs.Private.Grid.{IsOnGrid}
use Rattle.bpf_helpers.specs.Private.Sizes.{AreSizesOf}
use Rattle.bpf_helpers.specs.Held.{max_held}
use Rattle.bpf_helpers.specs.Saved.{AreOnce}

-- bins and a grid lead to the spans, each of which is held once: their numbers are in the bins, and
-- each is on the grid, whose sizes are those of whatever maps have them all
pub record LeadToSpans (bins : Bins) (grid : Grid) (spans : List Span) : Type 0 where
  pub once : AreOnce spans
  pub binned : AreBinned bins.latest bins.earlier spans
  pub on_grid : All (IsOnGrid grid.sizes) spans
  pub sized : (maps : List MapShape) → AreMaps maps → All (IsElement maps) spans
      → AreSizesOf maps grid.sizes

-- spans that a run may hold, for which there are such bins with the grid
pub record MayBeFound (grid : Grid) (spans : List Span) : Type 0 where
  pub few : length spans ≤ max_held
  pub once : AreOnce spans
  pub on_grid : All (IsOnGrid grid.sizes) spans
  pub sized : (maps : List MapShape) → AreMaps maps → All (IsElement maps) spans
      → AreSizesOf maps grid.sizes
