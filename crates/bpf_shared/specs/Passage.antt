-- What a call of a shared store is, and what it asks and changes.
use Rattle.std.specs.Prelude.{◌≡◌, ℕ, ◌%◌, ◌<◌, Bool, true, false, ◌||◌, ◌&&◌, List, [], ◌∷◌, ◌++◌, Option, Some, None, ◌⊎◌, ◌==◌, if◌then◌else◌}
use Rattle.bpf_shared.specs.declared.events.Span.{Span}
use Rattle.bpf_shared.specs.declared.events.Event.{Event}
use Rattle.bpf_shared.specs.declared.events.Entry.{Entry}
use Rattle.bpf_shared.specs.declared.shapes.ArrayShape.{ArrayShape}
use Rattle.bpf_shared.specs.Shape.{Shape, IsArray, Covers, copies, fixed_span}
use Rattle.bpf_shared.specs.History.{events_of, entry}

-- a call is its event, after events of CPUs that are not served
pub record Calls (passes : List Entry → Type 0) (serves : ℕ → Bool) (cpu : ℕ)
    (event : Event) : Type 0 where
  pub others : List Entry
  pub foreign : (c : ℕ) → serves c ≡ true → events_of c others ≡ []
  pub passage : passes (others ++ entry cpu event ∷ [])

abbrev pub same_span : Span → Span → Bool
same_span p q = (p.at == q.at) && (p.size == q.size)

-- what CPUs hold after a lookup of this one
abbrev pub held_with : (ℕ → Span → Bool) → ℕ → Option Span → ℕ → Span → Bool
held_with held c None = held
held_with held c (Some p) = λ d q. ((d == c) && same_span q p) || held d q

-- what CPUs hold after this one's run
abbrev pub held_without : (ℕ → Span → Bool) → ℕ → ℕ → Span → Bool
held_without held c = λ d q. if d == c then false else held d q

-- the n bytes from the address a on are in a held value, and a is a multiple of n
pub record IsHeldPlace (held : Span → Bool) (a n : ℕ) : Type 0 where
  pub span : Span
  pub holds : held span ≡ true
  pub covers : Covers span a n
  pub aligned : a % n ≡ 0

-- the n bytes from the address a on are in a fixed value, and a is a multiple of n
pub record IsFixedPlace (h : Shape) (a n : ℕ) : Type 0 where
  pub number : ℕ
  pub array : ArrayShape
  pub copy : ℕ
  pub index : ℕ
  pub is : IsArray h.arrays number array
  pub has_copy : copy < copies h.cpus array
  pub has_index : index < array.max
  pub covers : Covers (fixed_span number array copy index) a n
  pub aligned : a % n ≡ 0

-- the CPU that holds these spans may read there
abbrev pub IsReadable : Shape → (Span → Bool) → ℕ → ℕ → Type 0
IsReadable h held a n = IsHeldPlace held a n ⊎ IsFixedPlace h a n

-- and it may write there
abbrev pub IsWritable : Shape → (Span → Bool) → ℕ → ℕ → Type 0
IsWritable h held a n =
    IsHeldPlace held a n ⊎ ((p : IsFixedPlace h a n) × (p.array.frozen ≡ false))
