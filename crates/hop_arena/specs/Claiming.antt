-- What a pass over the free bits of a map saw, and what it took.
use Rattle.std.specs.Prelude.{◌≡◌, ◌⊎◌, ℕ, ◌*◌, ◌/◌, ◌<◌, ◌≤◌, List, [], ◌∷◌, ◌++◌}
use Rattle.bpf_shared.specs.Shape.{elements}
use Rattle.hop_layout.specs.declared.about.About.{About}
use Rattle.hop_words.specs.declared.known.Known.{Known}
use Rattle.hop_words.specs.declared.known.Sight.{Sight}
use Rattle.hop_words.specs.Sights.{IsLook, LeavesLocks, ShowsTaken}
use Rattle.hop_words.specs.Ghost.{shape_at, Each}
use Rattle.hop_words.specs.Kinds.{holding}
use Rattle.hop_arena.specs.declared.element.Element.{Element}

-- nothing changed but what was seen: these sights, the last first
abbrev pub NotesSights : Known → List Sight → Known → Type 0
NotesSights l more l' = l' ≡ record l { tally = more ++ l.tally }

-- and they are looks: no step among them took an element or gave one back
abbrev pub OnlyLooks : Known → List Sight → Known → Type 0
OnlyLooks l more l' = NotesSights l more l' × Each IsLook more

abbrev pub IsSeenTaken : List Sight → ℕ → ℕ → Type 0
IsSeenTaken [] m e = ⊥
IsSeenTaken (s ∷ ss) m e = ShowsTaken s m e ⊎ IsSeenTaken ss m e

-- of the words from one to another, each element was seen not free
abbrev pub AreSeenTaken : List Sight → ℕ → ℕ → ℕ → ℕ → Type 0
AreSeenTaken more m count from to = (e : ℕ) → e < count → from ≤ e / 64 → e / 64 < to
    → IsSeenTaken more m e

-- nothing was taken: of these words each element was seen not free, at a moment of its own
abbrev pub TakesNothing : About → Known → ℕ → ℕ → ℕ → Known → Type 0
TakesNothing a l m from to l' = (more : List Sight) × OnlyLooks l more l'
    × AreSeenTaken more m (elements (shape_at a m)) from to

-- nothing was taken: each element of the map was seen not free, at a moment of its own
abbrev pub Misses : About → Known → ℕ → Known → Type 0
Misses a l m l' = (more : List Sight) × OnlyLooks l more l'
    × ((e : ℕ) → e < elements (shape_at a m) → IsSeenTaken more m e)

-- the element is in hand from now on, and no lock was taken
abbrev pub Claims : About → Known → ℕ → Element → Known → Type 0
Claims a l m x l' = (more : List Sight) × NotesSights (holding l m x.number) more l' × (x.map ≡ m)
    × (x.number < elements (shape_at a m)) × Each LeavesLocks more

-- the pass begins at one of the map's words
abbrev pub IsArena : About → ℕ → ℕ → ℕ → Type 0
IsArena a m count start = (count ≡ elements (shape_at a m)) × (64 * start < count)
