-- What the code of one segment sees of the shared words.
use Rattle.std.specs.Prelude.{◌≡◌, ℕ, ◌+◌, ◌%◌, ◌^◌, ◌<◌, Bool, false, List, take}
use Rattle.bpf_shared.specs.Shape.{elements}
use Rattle.hop_layout.specs.declared.about.About.{About}
use Rattle.hop_words.specs.declared.known.Known.{Known}
use Rattle.hop_layout.specs.Layout.{words_for, at, mem, same_place}
use Rattle.hop_layout.specs.declared.place.Place.{Place}
use Rattle.hop_layout.specs.declared.place.Place.TheVariants.{KeyWord, Stamp}
use Rattle.hop_layout.specs.Words.{bytes_of_words, word_of}
use Rattle.hop_words.specs.Content.{MapWords, item}
use Rattle.hop_words.specs.Depths.{stamp_depth}
use Rattle.hop_words.specs.Ghost.{shape_at}
use Rattle.hop_words.specs.Rule.{image}
use Rattle.hop_words.specs.Kinds.{writing}
use Rattle.hop_words.specs.Locking.{lock_of}
use Rattle.hop_seg.specs.Words.{Words as SegWords}
use Rattle.hop_map.specs.LockedSegment.{home, knows, Locked}

-- the key that an element's words spell
abbrev pub spelled_key : About → ℕ → MapWords → ℕ → List ℕ
spelled_key a m x e =
    take (shape_at a m).key (bytes_of_words (words_for (shape_at a m).key) (x.key m e))

-- one segment of the words, of this depth, where these elements may be read
abbrev pub segment_view : About → ℕ → ℕ → ℕ → (ℕ → Bool) → MapWords → SegWords
segment_view a m s depth known x = record {
  hop = λ b. x.hop m s b % 2 ^ 32;
  slot = λ p. item (x.slot m s p);
  head = item (x.head m s);
  next = λ e. item (x.link m e);
  fixed = record {
    key = spelled_key a m x;
    home = home a.seed (shape_at a m).mask;
    known = known;
    limit = elements (shape_at a m);
    segment = s;
    depth = depth;
  };
}

abbrev pub locked_view : About → Known → ℕ → ℕ → SegWords
locked_view a l m s =
    segment_view a m s (stamp_depth (lock_of l).stamp) (knows l m) (image a (lock_of l).copy)

abbrev pub seen_words : Locked → SegWords
seen_words x = locked_view x.about x.known x.map x.segment

-- it is no word of a key
abbrev pub IsNoKey : Place → Type 0
IsNoKey p = (m e k : ℕ) → same_place (KeyWord m e k) p ≡ false

-- the place's word is this one of the segment's 130, the first of which is its stamp
abbrev pub IsWordAt : About → ℕ → ℕ → ℕ → Place → Type 0
IsWordAt a m s offset p = (offset < 130) × (at a.shape (Stamp m s) + offset ≡ at a.shape p)

abbrev pub written : Locked → Place → ℕ → Locked
written x p n = record x { known = writing x.about x.known (lock_of x.known) p n }

-- the element's words are the key's
abbrev pub SpellsKey : About → Known → ℕ → ℕ → List ℕ → Type 0
SpellsKey a l m e key =
    (j : ℕ) → j < words_for (shape_at a m).key →
    mem a.shape (lock_of l).copy (KeyWord m e j) ≡ word_of key j

-- how many elements the map has
abbrev pub locked_elements : Locked → ℕ
locked_elements x = elements (shape_at x.about x.map)
