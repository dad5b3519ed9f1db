-- A pass over the free bits, a look at a time.
use Rattle.std.proofs.Common.{◌≡◌, ◌≢◌, inl, inr, ⊎_elim, append_assoc, ℕ, ◌+◌, ◌*◌, ◌/◌, ◌%◌, ◌^◌, ◌<◌, ◌≤◌, true, min, List, [], ◌∷◌}
use Rattle.std.proofs.Common.{◌++◌, bit_and, ap, sym, subst, ◌∙◌, arith}
use Rattle.std.specs.Int.{bit_at, trailing_zeros, w64}
use Rattle.std.proofs.lemmas.Nat.Bits.{bit_at_and, bit_at-lt, bit_at-trailing_zeros}
use Rattle.std.proofs.lemmas.Bool.{cases_eq}
use Rattle.bpf_shared.specs.History.{events_of}
use Rattle.bpf_shared.specs.Own.{in_run}
use Rattle.hop_words.specs.declared.known.Known.{Known}
use Rattle.hop_words.specs.declared.known.Sight.{Sight}
use Rattle.hop_layout.specs.declared.place.Place.TheVariants.{FreeBits}
use Rattle.hop_words.specs.Sights.{IsLook, ShowsTaken, look, sighted}
use Rattle.hop_words.specs.Kinds.{holding}
use Rattle.hop_words.proofs.Sighted.{each-append}
use Rattle.hop_arena.specs.Claiming.{NotesSights, OnlyLooks, IsSeenTaken, AreSeenTaken}

-- the elements of the word whose bits aren't among these were seen not free
abbrev pub Cleared : List Sight → ℕ → ℕ → ℕ → Type 0
Cleared more m w bits = (j : ℕ) → j < 64 → bit_at bits j ≡ 0 → IsSeenTaken more m (64 * w + j)

shows : (m w found j : ℕ) → j < 64 → bit_at found j ≡ 0 → ShowsTaken (look (FreeBits m w) found) m (64 * w + j)
shows m w found j few zero = (
  ap (FreeBits m) (let z : w ≡ (64 * w + j) / 64 = grind arith in z),
  ap (bit_at found)
      (let z : (64 * w + j) % 64 ≡ j = grind arith in z) ∙ zero,
)

-- the first look
pub first_look : (m w found : ℕ) → Cleared (look (FreeBits m w) found ∷ []) m w found
first_look m w found j few zero = inl (shows m w found j few zero)

-- one look more
pub looks_on : (l x l' : Known) (more : List Sight) (s : Sight) → IsLook s → OnlyLooks l more x → l' ≡ sighted x s → OnlyLooks l (s ∷ more) l'
looks_on l x l' more s is before now = (now ∙ ap (λ (y : Known). sighted y s) before.0, (is, before.1))

pub holds_on : (l x l' : Known) (more : List Sight) (s : Sight) (m e : ℕ) → OnlyLooks l more x → l' ≡ sighted (holding x m e) s →
    NotesSights (holding l m e) (s ∷ more) l'
holds_on l x l' more s m e before now = now ∙ ap (λ (y : Known). sighted (holding y m e) s) before.0

pub look_on : (more : List Sight) (m w i bits found : ℕ) → i ≡ w → Cleared more m w bits → Cleared (look (FreeBits m i) found ∷ more) m w (bit_and bits found)
look_on more m w i bits found same before j few zero = ⊎_elim
    (λ (z : bit_at bits j ≡ 0). inr (before j few z))
    (λ (nz : bit_at bits j ≢ 0). inl (subst (λ (k : ℕ). ShowsTaken (look (FreeBits m k) found) m (64 * w + j)) (sym same) (shows m w found j few
    (let b = bit_at-lt bits j in let f = bit_at-lt found j in
    let a : bit_at (bit_and bits found) j ≡ min (bit_at bits j) (bit_at found j) = bit_at_and bits found j in grind arith))))
    (cases_eq (bit_at bits j) 0)

-- a word whose bits are all cleared, or whose lowest bit left is past the elements
pub all_taken : (more : List Sight) (m w count bits : ℕ) → Cleared more m w bits →
    ((j : ℕ) → j < 64 → 64 * w + j < count → bit_at bits j ≡ 0) → AreSeenTaken more m count w (w + 1)
all_taken more m w count bits cleared none e few from to =
    let z : 64 * w + e % 64 ≡ e = grind arith in
    subst (IsSeenTaken more m) z (cleared (e % 64) (omega arith) (none (e % 64) (omega arith) (subst (λ (k : ℕ). k < count) (sym z) few)))

pub lowest : (bits : ℕ) → 0 < bits → bits < 2 ^ 64 → (trailing_zeros w64 bits < 64) × (bit_at bits (trailing_zeros w64 bits) ≡ 1) ×
    ((i : ℕ) → i < trailing_zeros w64 bits → bit_at bits i ≡ 0)
lowest bits some fits = bit_at-trailing_zeros w64 bits some fits

-- a bit that is cleared makes the number less
pub fewer : (bits found j : ℕ) → bit_at bits j ≡ 1 → bit_at found j ≡ 0 → bit_and bits found ≤ bits → bit_and bits found < bits
fewer bits found j one zero most = ⊎_elim
    (λ (same : bit_and bits found ≡ bits). absurd
    (let a : bit_at (bit_and bits found) j ≡ min (bit_at bits j) (bit_at found j) = bit_at_and bits found j in
    let s = ap (λ (n : ℕ). bit_at n j) same in grind arith))
    (λ (ne : bit_and bits found ≢ bits). grind arith)
    (cases_eq (bit_and bits found) bits)

-- ---- passes over several words
pub taken_more : (s more : List Sight) (m e : ℕ) → IsSeenTaken more m e → IsSeenTaken (s ++ more) m e
taken_more [] more m e t = t
taken_more (x ∷ s) more m e t = inr (taken_more s more m e t)

pub taken_first : (s more : List Sight) (m e : ℕ) → IsSeenTaken s m e → IsSeenTaken (s ++ more) m e
taken_first [] more m e t = absurd t
taken_first (x ∷ s) more m e (inl t) = inl t
taken_first (x ∷ s) more m e (inr t) = inr (taken_first s more m e t)

pub looks_then : (l x l' : Known) (more s : List Sight) → OnlyLooks l more x → OnlyLooks x s l' → OnlyLooks l (s ++ more) l'
looks_then l x l' more s before now = (
  now.0 ∙ (ap (λ (y : Known). record y { tally = s ++ y.tally }) before.0 ∙ ap (λ (z : List Sight). record l { tally = z })
      (sym (append_assoc s more l.tally))),
  each-append IsLook s more now.1 before.1,
)

pub holds_then : (l x l' : Known) (more s : List Sight) (m e : ℕ) → OnlyLooks l more x → NotesSights (holding x m e) s l' → NotesSights
    (holding l m e) (s ++ more) l'
holds_then l x l' more s m e before now = now ∙ (ap (λ (y : Known). record (holding y m e) { tally = s ++ y.tally }) before.0 ∙ ap
    (λ (z : List Sight). record (holding l m e) { tally = z }) (sym (append_assoc s more l.tally)))

-- one word more
pub words_on : (s more : List Sight) (m count from w : ℕ) → AreSeenTaken more m count from w → AreSeenTaken s m count w (w + 1) →
    AreSeenTaken (s ++ more) m count from (w + 1)
words_on s more m count from w before now e few low high = ⊎_elim
    (λ (same : e / 64 ≡ w). taken_first s more m e (now e few (omega arith) (omega arith)))
    (λ (ne : e / 64 ≢ w). taken_more s more m e (before e few low (grind arith)))
    (cases_eq (e / 64) w)

pub words_kept : (s more : List Sight) (m count from to : ℕ) → AreSeenTaken more m count from to → AreSeenTaken (s ++ more) m count from to
words_kept s more m count from to before e few low high = taken_more s more m e (before e few low high)

-- who looks is in a run as before
pub looks_runs : (l x : Known) (more : List Sight) → OnlyLooks l more x → in_run (events_of l.cpu l.seen) ≡ true → in_run (events_of x.cpu x.seen) ≡ true
looks_runs l x more is runs = ap (λ (y : Known). in_run (events_of y.cpu y.seen)) is.0 ∙ runs
