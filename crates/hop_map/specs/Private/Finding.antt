-- What a lookup asks of its key.
use Rattle.std.specs.Prelude.{◌≡◌, ℕ, ◌%◌, ◌≤◌, true, List, ◌∷◌, ◌++◌, Option, length}
use Rattle.bpf_shared.specs.History.{events_of}
use Rattle.bpf_shared.specs.declared.events.Event.TheVariants.{Lookup}
use Rattle.bpf_shared.specs.Shape.{elements as elements_of}
use Rattle.hop_layout.specs.declared.about.About.{About}
use Rattle.hop_layout.specs.declared.place.Place.TheVariants.{Stamp}
use Rattle.hop_layout.specs.Home.{home_of}
use Rattle.hop_layout.specs.Layout.{power, depth}
use Rattle.hop_words.specs.declared.known.Known.{Known}
use Rattle.hop_words.specs.declared.known.Sight.{Sight}
use Rattle.hop_words.specs.declared.walking.Way.{Way}
use Rattle.hop_words.specs.Depths.{stamp_depth, home_by}
use Rattle.hop_words.specs.Ghost.{shape_at, IsSegment, Each}
use Rattle.hop_words.specs.Kinds.{SaysDepth, found_span, noting}
use Rattle.hop_words.specs.Sights.{look}
use Rattle.hop_words.specs.Walking.{IsOnWay}
use Rattle.bpf_shared.specs.Own.{in_run}
use Rattle.hop_map.specs.declared.finding.Tried.{Tried}
use Rattle.hop_map.specs.declared.finding.Tried.TheVariants.{Read, Disturbed}
use Rattle.hop_map.specs.declared.homing.KeyHome.{KeyHome}
use Rattle.hop_map.specs.Finding.{LeadsAlong, IsWay, IsDisturbedTry, all_sights, Looked, ReadsOnce, Disturbs}
use Rattle.hop_map.specs.Noting.{CallNotes}

-- the key is at home in the segment of this depth
pub record AsksHere (a : About) (l : Known) (m s d : ℕ) (key : List ℕ) : Type 0 where
  pub home : home_by a m d key ≡ s
  pub size : length key ≡ (shape_at a m).key
  pub runs : in_run (events_of l.cpu l.seen) ≡ true

-- where a key of the map is at home, with the sizes of the map
pub record IsHomed (a : About) (m : ℕ) (key : List ℕ) (at : KeyHome) : Type 0 where
  pub home : at.home ≡ home_of key a.seed (shape_at a m).mask
  pub key_size : at.key_size ≡ (shape_at a m).key
  pub small : at.key_size ≤ 64
  pub elements : at.elements ≡ elements_of (shape_at a m)

-- n readings were disturbed, and nothing else came of them
pub record SeesDisturbances (a : About) (l : Known) (m : ℕ) (key : List ℕ) (n : ℕ) (l' : Known)
    : Type 0 where
  pub more : List (List Sight)
  pub count : length more ≡ n
  pub each : Each (IsDisturbedTry a m key) more
  pub after : l' ≡ record l { readings = l'.readings; tally = all_sights more ++ l.tally }

-- the lane begins to read a segment, whose stamp it looked at after these sights
abbrev pub reading_at : Known → ℕ → ℕ → ℕ → List Sight → Known
reading_at l m s n way =
    record (noting l m s n) { tally = look (Stamp m s) n ∷ (way ++ l.tally) }

-- on the way to the segment of a home, by this segment, whose stamp was unlocked
pub record Approaching (a : About) (l : Known) (m home : ℕ) (w : Way) (n : ℕ) (way : List Sight)
    (l' : Known) : Type 0 where
  pub after : l' ≡ reading_at l m w.segment n way
  pub leads : LeadsAlong a m home w.segment way
  pub inside : IsSegment a m w.segment
  pub even : n % 2 ≡ 0
  pub deep : SaysDepth a m w.segment n
  pub on_way : IsOnWay home w
  pub level : w.level ≤ 10
  pub few : length way ≤ w.level
  pub short : length way ≤ depth (shape_at a m)

-- the segment of a home is being read, or one on the way was locked
pub record Walked (a : About) (l : Known) (m home s n : ℕ) (l' : Known) : Type 0 where
  pub way : List Sight
  pub is_way : IsWay a m home s way
  pub short : length way ≤ depth (shape_at a m)
  pub inside : IsSegment a m s
  pub free : n % 2 ≡ 0 → (l' ≡ reading_at l m s n way) × (home % power (stamp_depth n) ≡ s)
  pub locked : n % 2 ≡ 1 → l' ≡ record l {
    readings = l'.readings;
    tally = look (Stamp m s) n ∷ (way ++ l.tally);
  }

-- a reading that wasn't disturbed, by the element that it found
abbrev pub ReadsFound : About → Known → ℕ → List ℕ → Option ℕ → Known → Type 0
ReadsFound a l m key found l' =
    Looked a l m key (found_span a m found) l' × ReadsOnce a l m key l'

-- how one reading ends
abbrev pub TryEnds : About → Known → ℕ → List ℕ → Tried → Known → Type 0
TryEnds a l m key (Read found) l' = ReadsFound a l m key found l'
TryEnds a l m key (Disturbed first last) l' = Disturbs a l m key first last l'

-- a whole lookup, by the element that it found
abbrev pub LooksUp : About → Known → ℕ → List ℕ → Option ℕ → Known → Type 0
LooksUp a l m key found l' = Looked a l m key (found_span a m found) l'
    × CallNotes a (Lookup m key (found_span a m found)) l l'
