-- The values that a run holds, as their spans: each once, and not too many.
use Rattle.std.specs.Prelude.{◌≡◌, ◌≢◌, ℕ, ◌-◌, ◌≤◌, nat_lt, nat_le, Bool, true, false, ◌&&◌, All, List, [], ◌∷◌, ◌++◌, length, if◌then◌else◌}
use Rattle.std.specs.List.{list_any}
use Rattle.bpf_shared.specs.declared.events.Span.{Span}
use Rattle.bpf_shared.specs.declared.shapes.MapShape.{MapShape}
use Rattle.bpf_shared.specs.Shape.{Shape, AreMaps, IsElement, IsValueSpan}
use Rattle.bpf_shared.specs.Passage.{same_span}

-- how many spans a run holds at most (our own choice)
abbrev pub max_held : ℕ
max_held = 256

-- whether a span is among these
abbrev pub has_span : List Span → Span → Bool
has_span held p = list_any (λ q. same_span q p) held

-- these and one more
abbrev pub with_span : List Span → Span → List Span
with_span held p = if has_span held p then held else held ++ p ∷ []

-- one more, and there is no room for it
abbrev pub IsTooMany : List Span → Span → Type 0
IsTooMany held p = (has_span held p ≡ false) × (max_held ≤ length held)

-- the store lets the CPU reach each of them, and each is a value's
abbrev pub AreHeld : (Span → Bool) → List Span → Type 0
AreHeld holds held = All (λ p. (holds p ≡ true) × IsValueSpan p) held

-- each is that of an element of a map, for maps that a store may have
abbrev pub AreElements : List Span → Type 0
AreElements spans = (maps : List MapShape) × AreMaps maps × All (IsElement maps) spans

-- whether the address is in a span
abbrev pub is_in : ℕ → Span → Bool
is_in a p = nat_le p.at a && nat_lt (a - p.at) p.size

-- whether the address is in one of these spans
unfoldable pub reaches : List Span → ℕ → Bool
reaches held a = list_any (is_in a) held

-- whether the n bytes from an address on are in a span
abbrev pub covers : ℕ → ℕ → Span → Bool
covers a n p = nat_le p.at a && (nat_le n p.size && nat_le (a - p.at) (p.size - n))

-- whether they are in one of these spans
abbrev pub is_covered : List Span → ℕ → ℕ → Bool
is_covered spans a n = list_any (covers a n) spans

-- what the calls of one CPU's run leave of a store: its shapes, who is in a run, what others hold
pub record KeepsRun {S : Type 0} (shapes : S → Shape) (running : S → ℕ → Bool)
    (held : S → ℕ → Span → Bool) (cpu : ℕ) (old new : S) : Type 0 where
  pub shape : shapes new ≡ shapes old
  pub runs : running new ≡ running old
  pub others : (c : ℕ) → c ≢ cpu → held new c ≡ held old c
