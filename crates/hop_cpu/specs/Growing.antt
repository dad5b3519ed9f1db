-- What a port is after a split that was tried, or none.
use Rattle.std.specs.Prelude.{◌≡◌, ◌⊎◌, ℕ, true, List, [], ◌++◌, Option, Some, None}
use Rattle.hop_layout.specs.declared.about.About.{About}
use Rattle.hop_words.specs.declared.known.Known.{Known}
use Rattle.hop_words.specs.declared.known.Sight.{Sight}
use Rattle.hop_words.specs.Ghost.{shape_at}
use Rattle.hop_map.specs.Port.{Port}
use Rattle.hop_map.specs.declared.growth.Growth.{Growth}
use Rattle.hop_map.specs.Splitting.{SplitEnds}
use Rattle.hop_map.specs.Noting.{TriesSplit}

-- nothing was noted; or the map grows, the new key went to the overflow list of a segment, and that
-- segment was to split
abbrev pub NotesGrowth : About → ℕ → Option ℕ → List Sight → Type 0
NotesGrowth a m spilled sights = (sights ≡ [])
    ⊎ (((shape_at a m).grow ≡ true) × ((t : ℕ) × (spilled ≡ Some t) × TriesSplit m t sights))

-- of what the port has only what its CPU read and noted is another. Where the last update's new key
-- went to the overflow list of a segment, and the map grows, that segment was to split; where it went
-- to none, nothing was
pub record GrowsMap (a : About) (m : ℕ) (p q : Port) : Type 0 where
  pub more : List Sight
  pub notes : NotesGrowth a m p.spilled more
  pub tally : q.known.tally ≡ more ++ p.known.tally
  pub known : q.known ≡ record p.known { readings = q.known.readings; tally = q.known.tally }
  pub same : q ≡ record p { known = q.known }
  pub untried : p.spilled ≡ None → q ≡ p
  pub tried : (s : ℕ) → p.spilled ≡ Some s → (shape_at a m).grow ≡ true
      → (g : Growth) × SplitEnds a p.known m s g q.known

-- where the last update's new key went to the overflow list of a segment, and the map grows, the last
-- thing that the CPU noted is that this segment was to split
abbrev pub HasTriedSplit : About → ℕ → Port → Type 0
HasTriedSplit a m q = (s : ℕ) → q.spilled ≡ Some s → (shape_at a m).grow ≡ true
    → (before : Known) × (g : Growth) × SplitEnds a before m s g q.known
