-- Accesses to values, from the address of the first byte to the word that the bytes lie in.
use Rattle.std.specs.Prelude.{◌≡◌, ◌⊎◌, ℕ, ◌%◌, true, false, []}
use Rattle.bpf_shared.specs.Shape.{element_span, Covers}
use Rattle.bpf_shared.specs.Passage.{IsFixedPlace}
use Rattle.bpf_shared.specs.History.{events_of}
use Rattle.hop_layout.specs.declared.about.About.{About}
use Rattle.hop_words.specs.declared.known.Known.{Known}
use Rattle.hop_words.specs.Ghost.{shape_at, HasElement}
use Rattle.hop_words.specs.Kinds.{spans_of, IsAmongSpans}
use Rattle.bpf_shared.specs.Own.{in_run}

-- the n bytes from the address p on are in an element's value, and p is a multiple of n
pub record IsValuePlace (a : About) (p n : ℕ) : Type 0 where
  pub map : ℕ
  pub element : ℕ
  pub inside : HasElement a map element
  pub covers : Covers (element_span map (shape_at a map) element) p n
  pub aligned : p % n ≡ 0

-- and the CPU holds that value
pub record IsHeldAt (a : About) (l : Known) (p n : ℕ) : Type 0 where
  pub place : IsValuePlace a p n
  pub held : IsAmongSpans (element_span place.map (shape_at a place.map) place.element)
      (spans_of [] (events_of l.cpu l.seen))
  pub runs : in_run (events_of l.cpu l.seen) ≡ true

-- the n bytes from the address p on are in a fixed value, p is a multiple of n, and the CPU is in a
-- run
pub record IsFixedAt (a : About) (l : Known) (p n : ℕ) : Type 0 where
  pub place : IsFixedPlace a.shape p n
  pub runs : in_run (events_of l.cpu l.seen) ≡ true

-- and they may be written
pub record IsFreeAt (a : About) (l : Known) (p n : ℕ) : Type 0 where
  pub fixed : IsFixedAt a l p n
  pub writable : fixed.place.array.frozen ≡ false

-- the CPU may read there
abbrev pub MayLoadAt : About → Known → ℕ → ℕ → Type 0
MayLoadAt a l p n = IsHeldAt a l p n ⊎ IsFixedAt a l p n

-- and it may write there
abbrev pub MayChangeAt : About → Known → ℕ → ℕ → Type 0
MayChangeAt a l p n = IsHeldAt a l p n ⊎ IsFreeAt a l p n
