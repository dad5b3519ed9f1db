-- Where the words of each map begin, by their kinds, and those of each array.
use Rattle.std.specs.Prelude.{◌≡◌, ℕ, ◌+◌, ◌*◌, ◌<◌, ◌≤◌, List, length, slice_get, Some}
use Rattle.bpf_shared.specs.declared.shapes.MapShape.{MapShape}
use Rattle.bpf_shared.specs.Shape.{Shape, elements}
use Rattle.hop_layout.specs.declared.index.Bases.{Bases}
use Rattle.hop_layout.specs.declared.place.Place.TheVariants.{KeyCount, Stamp, Link, KeyWord, ValueWord, FixedWord}
use Rattle.hop_layout.specs.Layout.{at, size, words_for, map_shape, free_words, line_rest, segments, first_depth, map_words}

abbrev pub bases : Shape → ℕ → Bases
bases h m = record {
  start = at h (KeyCount m);
  segments = at h (Stamp m 0);
  links = at h (Link m 0);
  keys = at h (KeyWord m 0 0);
  values = at h (ValueWord m 0 0);
  key_words = words_for (map_shape h m).key;
  value_words = words_for (map_shape h m).value;
  first = first_depth (map_shape h m);
}

-- the first n maps begin where they do
abbrev pub AreBases : Shape → ℕ → List Bases → Type 0
AreBases h n bs = (m : ℕ) → m < n → slice_get bs m ≡ Some (bases h m)

-- and so do the first n arrays
abbrev pub AreArrayBases : Shape → ℕ → List ℕ → Type 0
AreArrayBases h n starts = (a : ℕ) → a < n → slice_get starts a ≡ Some (at h (FixedWord a 0))

pub record IsIndex (h : Shape) (bs : List Bases) (starts : List ℕ) (words : ℕ) : Type 0 where
  pub few : length h.maps ≤ 16
  pub each : AreBases h (length h.maps) bs
  pub arrays : AreArrayBases h (length h.arrays) starts
  pub whole : words ≡ size h

-- the same for a map of this shape whose words begin here
abbrev pub bases_from : ℕ → MapShape → Bases
bases_from start g =
    let segment_start = start + 8 + free_words g + line_rest (free_words g) in
    let link_start = segment_start + 130 * segments g in
    let key_start = link_start + elements g in
    record {
      start = start;
      segments = segment_start;
      links = link_start;
      keys = key_start;
      values = key_start + elements g * words_for g.key;
      key_words = words_for g.key;
      value_words = words_for g.value;
      first = first_depth g;
    }

abbrev pub end_from : ℕ → MapShape → ℕ
end_from start g = (bases_from start g).values + elements g * words_for g.value + line_rest
    (map_words g)
