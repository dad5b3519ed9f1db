-- What the spans that a run holds are saved as.
use Rattle.std.specs.Prelude.{◌≡◌, ℕ, ◌≤◌, false, All, List, [], ◌∷◌, ◌++◌, Some, length, slice_get, take}
use Rattle.std.specs.List.{flat_map}
use Rattle.bpf_base.specs.Bytes.{low_bytes}
use Rattle.bpf_mem.specs.Saved.{IsWord, words_saved}
use Rattle.bpf_shared.specs.declared.events.Span.{Span}
use Rattle.bpf_helpers.specs.Held.{AreElements, has_span, max_held}

-- a span is saved as two words
abbrev pub span_saved : Span → List ℕ
span_saved p = words_saved 0 (p.at ∷ p.size ∷ [])

-- how many they are, in two bytes, and each
abbrev pub spans_saved : List Span → List ℕ
spans_saved spans = low_bytes 2 (length spans) ++ flat_map span_saved spans

-- ---- what is saved is determined by its bytes, where its numbers are words
abbrev pub IsWide : Span → Type 0
IsWide p = IsWord p.at × IsWord p.size

pub record AreSavable (spans : List Span) : Type 0 where
  pub few : length spans ≤ max_held
  pub wide : All IsWide spans

-- none is among those before it
abbrev pub AreOnce : List Span → Type 0
AreOnce spans =
    (k : ℕ) (p : Span) → slice_get spans k ≡ Some p → has_span (take k spans) p ≡ false

-- spans that a run may hold
pub record MayBeHeld (spans : List Span) : Type 0 where
  pub savable : AreSavable spans
  pub elements : AreElements spans
  pub once : AreOnce spans
