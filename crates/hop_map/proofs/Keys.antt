-- The key that an element's words spell.
use Rattle.std.proofs.Common.{◌≡◌, ℕ, suc, ◌<◌, ◌↔◌, List, [], ◌∷◌, length, take, slice_index, ap, sym, ◌∙◌, arith}
use Rattle.hop_layout.specs.declared.about.About.{About}
use Rattle.hop_layout.specs.Layout.{words_for}
use Rattle.hop_layout.specs.Words.{word_of, AreBytes}
use Rattle.hop_words.specs.Content.{MapWords, HasKey}
use Rattle.hop_words.specs.Ghost.{shape_at}
use Rattle.hop_layout.proofs.Spelled.{spelled_same, spelled_back}
use Rattle.hop_map.specs.Private.LockedSegment.{spelled_key}

pub are_bytes : (bs : List ℕ) → ((i : ℕ) → slice_index bs i < 256) → AreBytes bs
are_bytes [] small = tt
are_bytes (b ∷ bs) small = (small 0, are_bytes bs (λ i. small (suc i)))

-- words that are a key's spell it
pub spells : (a : About) (m : ℕ) (x : MapWords) (e : ℕ) (key : List ℕ) → HasKey (shape_at a m) x m e key → spelled_key a m x e ≡ key
spells a m x e key h = (λ j. take (sym h.0 j) (spelled_same (words_for (shape_at a m).key) (x.key m e) (word_of key) h.2 j)) ∙ spelled_back
    (words_for (shape_at a m).key) key h.1 (let z = h.0 in omega arith)

pub same_spelling : (a : About) (m : ℕ) (x : MapWords) (e : ℕ) (k key : List ℕ) → HasKey (shape_at a m) x m e k → AreBytes key → length key ≡ (shape_at a m).key
    → ((j : ℕ) → j < words_for (shape_at a m).key → x.key m e j ≡ word_of key j) ↔ (spelled_key a m x e ≡ key)
same_spelling a m x e k key h bytes size = (
  λ same. spells a m x e key (size, bytes, same),
  λ same j l. h.2 j l ∙ ap (λ (q : List ℕ). word_of q j) (sym (spells a m x e k h) ∙ same),
)

pub other_size : (a : About) (m : ℕ) (x : MapWords) (e : ℕ) (k key : List ℕ) → HasKey (shape_at a m) x m e k → spelled_key a m x e ≡ key →
    length key ≡ (shape_at a m).key
other_size a m x e k key h same = ap length (sym same ∙ spells a m x e k h) ∙ h.0
