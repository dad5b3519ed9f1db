-- The depths of a map's segments, as stamps say them.
use Rattle.std.specs.Prelude.{◌≡◌, ℕ, ◌/◌, ◌%◌, ◌<◌, true, false, List, length}
use Rattle.hop_layout.specs.declared.about.About.{About}
use Rattle.hop_layout.specs.Home.{home_of}
use Rattle.hop_layout.specs.Layout.{power, depth, map_shape, segments}
use Rattle.hop_layout.specs.Births.{is_born, AreDepths}

-- the depth in a stamp: bits 1 to 5
abbrev pub stamp_depth : ℕ → ℕ
stamp_depth n = n / 2 % 32

-- the segment is one of the map's, and is born
abbrev pub IsBorn : About → (ℕ → ℕ → ℕ) → ℕ → ℕ → Type 0
IsBorn a depths m s = (m < length a.shape.maps) × (s < segments (map_shape a.shape m))
    × (is_born (depths m) (depth (map_shape a.shape m)) s ≡ true)

-- the number of the segment of this depth that a key would be at home in
abbrev pub home_by : About → ℕ → ℕ → List ℕ → ℕ
home_by a m d key = home_of key a.seed (map_shape a.shape m).mask % power d

-- the stamps of born segments say their depths; a map that doesn't grow has all segments from the
-- first on
pub record Deep (a : About) (stamp : ℕ → ℕ → ℕ) (depths : ℕ → ℕ → ℕ) : Type 0 where
  pub sound : (m : ℕ) → m < length a.shape.maps → AreDepths (depths m) (depth (map_shape a.shape m))
  pub stamped : (m s : ℕ) → IsBorn a depths m s → stamp_depth (stamp m s) ≡ depths m s
  pub whole : (m s : ℕ) → m < length a.shape.maps → s < segments (map_shape a.shape m)
      → (map_shape a.shape m).grow ≡ false → depths m s ≡ depth (map_shape a.shape m)
