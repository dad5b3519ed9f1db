-- The way from segment 0 to the segment that a home belongs to.
use Rattle.std.specs.Prelude.{◌≡◌, ℕ, ◌+◌, ◌%◌, ◌<◌, ◌≤◌}
use Rattle.hop_layout.specs.Layout.{power}
use Rattle.hop_words.specs.declared.walking.Way.{Way}

-- the segment has the home's low bits
abbrev pub IsOnWay : ℕ → Way → Type 0
IsOnWay home w = (w.segment < power w.level) × (home % power w.level ≡ w.segment)

-- the next segment has one bit more, below the depth
abbrev pub IsNextSegment : Way → ℕ → Way → Type 0
IsNextSegment w depth next = (u : ℕ) × (next.level ≡ u + 1) × (u < depth) × (w.level ≤ u)
    × (w.segment < power u)
    × (next.segment ≡ w.segment + power u)
