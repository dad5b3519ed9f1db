-- How seats are cut and joined, and one that learns the whole history.
use Rattle.std.specs.Prelude.{◌≡◌, ℕ, take, drop, [], ◌++◌}
use mathlib.Core.Option.{some}
use lib.ListN.{get_elem?}
use Rattle.atomic_table.specs.Table.{Me}
use Rattle.hop_words.specs.declared.known.Known.{Known}
use Rattle.hop_words.specs.declared.known.View.{View}
use Rattle.hop_words.specs.Seats.{view, HasSeenBeginning}

abbrev pub Sat : Type 0
Sat = Me (Unit {0}) View

abbrev pub empty_view : View
empty_view = view [] []

-- the first CPU of a seat goes to a new one
abbrev pub dealer : View → View
dealer v = view (drop 1 v.lanes) v.kept

abbrev pub dealt : View → View
dealt v = view (take 1 v.lanes) []

-- the CPUs of a second seat go after those of a first
abbrev pub gathered : View → View → View
gathered v w = view (v.lanes ++ w.lanes) v.kept

-- a copy of what a seat keeps of the history
abbrev pub onlooker : View → View
onlooker v = view [] v.kept

-- the whole history is kept
pub record Learned (m m' : Sat) : Type 0 where
  pub after : m' ≡ (view m.0.lanes m'.0.kept, m.1)
  pub within : (k : ℕ) (l : Known) → get_elem? m.0.lanes k ≡ some l → HasSeenBeginning l m'.0.kept
