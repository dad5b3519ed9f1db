use Rattle.std.proofs.Common.{◌≡◌, ◌+◌, ◌*◌, ◌≤◌, length}
use Rattle.hop_layout.specs.declared.place.Place.TheVariants.{KeyCount}
use Rattle.hop_layout.specs.Layout.{at}
use Rattle.hop_layout.specs.Private.Index.{AreBases}
use Rattle.hop_layout.proofs.index.Index.new.Given as goal

abbrev pub invariant-maps : goal.invariant-maps
invariant-maps l =
    AreBases l.fn.about.shape l.map l.maps × (length l.maps ≡ 16) ×
    (l.start ≡ at l.fn.about.shape (KeyCount l.map)) × (l.start ≤ 128 + l.map * 16777216)
