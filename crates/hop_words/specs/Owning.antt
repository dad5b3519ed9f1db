-- What the steps on elements and run counters ask of what a CPU knows, and what they make of it.
use Rattle.std.specs.Prelude.{◌≡◌, ◌≢◌, ◌⊎◌, ℕ, ◌/◌, ◌%◌, ◌<◌, false, List, [], ◌∷◌, ◌++◌, length, slice_index}
use Rattle.std.specs.Int.{bit_at}
use Rattle.bpf_shared.specs.History.{events_of}
use Rattle.bpf_shared.specs.Own.{in_run}
use Rattle.hop_layout.specs.declared.about.About.{About}
use Rattle.hop_words.specs.declared.known.Known.{Known}
use Rattle.hop_words.specs.declared.known.Fresh.{Fresh}
use Rattle.hop_layout.specs.declared.place.Place.TheVariants.{FreeBits, RunCount}
use Rattle.hop_layout.specs.Layout.{free_words}
use Rattle.hop_words.specs.Ghost.{shape_at, limbo_at}
use Rattle.hop_words.specs.Sights.{look, bit_cleared, bit_set, sighted}
use Rattle.hop_words.specs.Kinds.{holding, cleared, giving_old}
use Rattle.hop_words.specs.Shortage.{updates_of}

-- the word is one of the map's words of free bits
abbrev pub IsFreeWord : About → ℕ → ℕ → Type 0
IsFreeWord a m i = (m < length a.shape.maps) × (i < free_words (shape_at a m))

-- where the bit was set it is taken, and the element is in hand from now on; else the word is as it
-- was, and the element was seen not free
abbrev pub ClaimsBit : Known → ℕ → ℕ → ℕ → Known → Type 0
ClaimsBit l m e found l' =
    (bit_at found (e % 64) ≡ 1 → l' ≡ sighted (holding l m e) (bit_cleared m e found))
    × (bit_at found (e % 64) ≡ 0 → l' ≡ sighted l (look (FreeBits m (e / 64)) found))

-- all but the first
abbrev pub tail_of : {A : Type 0} → List A → List A
tail_of [] = []
tail_of (x ∷ xs) = xs

-- the element in hand is free again, and so is one of the old batch
abbrev pub GivesFresh : Known → ℕ → ℕ → ℕ → Known → Type 0
GivesFresh l m e found l' = l' ≡ sighted (record l { fresh = tail_of l.fresh }) (bit_set m e found)

abbrev pub GivesOld : Known → ℕ → ℕ → ℕ → Known → Type 0
GivesOld l m e found l' =
    l' ≡ sighted (giving_old l m (tail_of (limbo_at l.limbo m).old)) (bit_set m e found)

-- the element is the first in hand
abbrev pub IsInHand : Known → ℕ → ℕ → Type 0
IsInHand l m e = (f : Fresh) × (l.fresh ≡ f ∷ tail_of l.fresh) × (f.map ≡ m) × (f.element ≡ e)

-- the update that took the first element in hand
abbrev pub update_in_hand : List Fresh → ℕ
update_in_hand [] = 0
update_in_hand (f ∷ fs) = f.update

-- an update of the map was answered since the element in hand was taken
abbrev pub IsUpdateAnswered : Known → ℕ → Type 0
IsUpdateAnswered l m = update_in_hand l.fresh < updates_of m (events_of l.cpu l.seen)

-- how many words of its key, and of its value, the first element in hand has
abbrev pub key_filled : List Fresh → ℕ
key_filled [] = 0
key_filled (f ∷ fs) = length f.key

abbrev pub value_filled : List Fresh → ℕ
value_filled [] = 0
value_filled (f ∷ fs) = length f.value

-- the first element in hand has one word more
abbrev pub with_key_word : List Fresh → ℕ → List Fresh
with_key_word [] n = []
with_key_word (f ∷ fs) n = record f { key = f.key ++ n ∷ [] } ∷ fs

abbrev pub with_value_word : List Fresh → ℕ → List Fresh
with_value_word [] n = []
with_value_word (f ∷ fs) n = record f { value = f.value ++ n ∷ [] } ∷ fs

-- the CPU is in no run, or it has an old batch of a map
abbrev pub IsIdleOrKeeps : Known → Type 0
IsIdleOrKeeps l = (in_run (events_of l.cpu l.seen) ≡ false)
    ⊎ ((m : ℕ) × ((limbo_at l.limbo m).old ≢ []))

-- a counter that isn't the one noted is noted as even from now on
abbrev pub LooksAgain : Known → ℕ → ℕ → ℕ → Known → Type 0
LooksAgain l m d found l' =
    (found ≡ slice_index (limbo_at l.limbo m).noted d → l' ≡ sighted l (look (RunCount d) found))
    × ((found ≡ slice_index (limbo_at l.limbo m).noted d → ⊥)
    → l' ≡ sighted (cleared l m d) (look (RunCount d) found))
