-- A locked segment and the one that is born when it splits.
use Rattle.std.specs.Prelude.{◌≡◌, ℕ, ◌+◌, ◌-◌, ◌/◌, ◌^◌, ◌<◌, ◌≤◌, List, Option}
use Rattle.hop_layout.specs.Layout.{depth}
use Rattle.hop_layout.specs.declared.about.About.{About}
use Rattle.hop_words.specs.declared.known.Known.{Known}
use Rattle.hop_words.specs.declared.known.Lock.{Lock}
use Rattle.hop_words.specs.declared.known.Change.TheVariants.{Nothing}
use Rattle.hop_words.specs.Content.{IsShare}
use Rattle.hop_words.specs.Depths.{stamp_depth, home_by}
use Rattle.hop_words.specs.Ghost.{IsSegment, child, shape_at}
use Rattle.hop_words.specs.Kinds.{unlocking, MayShow}
use Rattle.hop_words.specs.Rule.{image}
use Rattle.hop_words.specs.Locking.{lock_of}
use Rattle.hop_words.specs.Sights.{sighted, split_made}
use Rattle.hop_map.specs.declared.growth.Growth.{Growth}
use Rattle.hop_map.specs.declared.growth.Growth.TheVariants.{Grown, AtDepth, Worn}
use Rattle.hop_map.specs.LockedSegment.{Locked}

-- the number is the child's
abbrev pub IsChildOf : Locked → ℕ → Type 0
IsChildOf x c = (c ≡ child (lock_of x.known)) × IsSegment x.about x.map c

-- how a split of the locked segment ends
abbrev pub EndsUnderLock : Locked → ℕ → Growth → Known → Type 0
EndsUnderLock x n Grown l' = (stamp_depth n < depth (shape_at x.about x.map))
    × (n / 256 < 2 ^ 56 - 1)
    × (l' ≡ sighted (unlocking x.known) (split_made x.map x.segment n))
EndsUnderLock x n AtDepth l' = (stamp_depth n ≡ depth (shape_at x.about x.map))
    × (l' ≡ unlocking x.known)
EndsUnderLock x n Worn l' = (stamp_depth n < depth (shape_at x.about x.map))
    × (2 ^ 56 - 1 ≤ n / 256) × (l' ≡ unlocking x.known)

-- whatever the words at the lock showed at its depth, with one depth more the segment and its child
-- show it by now
abbrev pub IsParted : About → Lock → Type 0
IsParted a k = (k.change ≡ Nothing)
    × ((before : List ℕ → Option ℕ) → MayShow a k before
    → IsShare a.seed (shape_at a k.map) (home_by a k.map (stamp_depth k.stamp + 1))
    (image a k.copy) k.map k.segment before
    × IsShare a.seed (shape_at a k.map) (home_by a k.map (stamp_depth k.stamp + 1))
    (image a k.copy) k.map (child k) before)
