-- A segment splits, from what a CPU knows before to what it knows after.
use Rattle.std.specs.Prelude.{◌≡◌, ℕ, ◌-◌, ◌/◌, ◌%◌, ◌^◌, ◌<◌, ◌≤◌, List, [], ◌∷◌}
use Rattle.hop_layout.specs.declared.about.About.{About}
use Rattle.hop_layout.specs.Layout.{power, depth}
use Rattle.hop_words.specs.declared.known.Known.{Known}
use Rattle.hop_words.specs.declared.known.Sight.{Sight}
use Rattle.hop_words.specs.Depths.{stamp_depth}
use Rattle.hop_words.specs.Ghost.{shape_at, IsSegment}
use Rattle.hop_words.specs.Sights.{lock_taken, split_made}
use Rattle.hop_map.specs.declared.growth.Growth.{Growth}
use Rattle.hop_map.specs.declared.growth.Growth.TheVariants.{Grown, AtDepth, Worn}

-- the segment that a home belongs to, by this stamp of it
pub record OwnsAt (a : About) (m home s n : ℕ) : Type 0 where
  pub inside : IsSegment a m s
  pub unlocked : n % 2 ≡ 0
  pub here : home % power (stamp_depth n) ≡ s

-- the CPU noted this, and knows nothing else that it didn't know: no key, no value and no event
abbrev pub NotesOnly : Known → List Sight → Known → Type 0
NotesOnly l sights l' = l' ≡ record l { readings = []; tally = sights }

-- by the stamp at which its lock was taken, the owner of the home split where that was below the
-- map's depth and not at the last version
abbrev pub SplitEnds : About → Known → ℕ → ℕ → Growth → Known → Type 0
SplitEnds a l m home Grown l' = (s : ℕ) × (n : ℕ) × OwnsAt a m home s n
    × (stamp_depth n < depth (shape_at a m)) × (n / 256 < 2 ^ 56 - 1)
    × NotesOnly l (split_made m s n ∷ (lock_taken m s n ∷ l.tally)) l'
SplitEnds a l m home AtDepth l' = (s : ℕ) × (n : ℕ) × OwnsAt a m home s n
    × (stamp_depth n ≡ depth (shape_at a m))
    × NotesOnly l (lock_taken m s n ∷ l.tally) l'
SplitEnds a l m home Worn l' = (s : ℕ) × (n : ℕ) × OwnsAt a m home s n
    × (stamp_depth n < depth (shape_at a m)) × (2 ^ 56 - 1 ≤ n / 256)
    × NotesOnly l (lock_taken m s n ∷ l.tally) l'
