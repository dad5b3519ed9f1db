use Rattle.std.specs.Prelude.{◌≡◌, ◌+◌, ◌*◌, ◌≤◌, length}
use Rattle.hop_layout.specs.declared.place.Place.TheVariants.{FixedWord}
use Rattle.hop_layout.specs.Layout.{at}
use Rattle.hop_layout.specs.Private.Index.{AreArrayBases}
use Rattle.hop_layout.proofs.index.lay_out_arrays.Given as goal

abbrev pub invariant-loop-array : goal.invariant-loop-array
invariant-loop-array l =
    AreArrayBases l.fn.shape l.array-index l.starts.items × (length l.starts.items ≡ l.array-index) ×
    (l.end ≡ at l.fn.shape (FixedWord l.array-index 0)) × (l.end ≤ 536870912 + l.array-index * 33554432)
