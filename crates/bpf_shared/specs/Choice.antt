-- What a store of one thread does where the allowed events leave a choice: its shortage, and its
-- places.
use Rattle.std.specs.Prelude.{◌≡◌, ℕ, ◌<◌, ◌⊎◌}
use Rattle.bpf_shared.specs.declared.events.MapAnswer.TheVariants.{Done, Busy, NoMemory}
use Rattle.bpf_shared.specs.declared.events.Event.{Event}
use Rattle.bpf_shared.specs.declared.events.Event.TheVariants.{Update, Delete}
use Rattle.bpf_shared.specs.declared.shapes.MapShape.{MapShape}
use Rattle.bpf_shared.specs.Shape.{IsMap, elements, element_span}
use Rattle.bpf_shared.specs.Store.{Plain, IsInMap, IsKept}
use Rattle.bpf_shared.specs.Events.{Allowed}

-- the element's span belongs to a value that is in the map or kept
abbrev pub IsTaken : Plain → ℕ → MapShape → ℕ → Type 0
IsTaken s m h i = (v : ℕ) × (IsInMap s m v ⊎ IsKept s v) × ((s.value v).span ≡ element_span m h i)

-- each element of the map is taken
abbrev pub IsShort : Plain → ℕ → MapShape → Type 0
IsShort s m h = (i : ℕ) → i < elements h → IsTaken s m h i

-- the element is free, and each lower one is taken
pub record IsLowestFree (s : Plain) (m : ℕ) (h : MapShape) (i : ℕ) : Type 0 where
  pub inside : i < elements h
  pub free : IsTaken s m h i → ⊥
  pub lowest : (j : ℕ) → j < i → IsTaken s m h j

-- NoMemory exactly where the map is short, never Busy, and a new value at the lowest free element
abbrev pub Chosen : Plain → Event → Plain → Type 0
Chosen s (Update m key bytes flags Done) t =
    (h : MapShape) × (i : ℕ) × IsMap s.shape.maps m h × IsLowestFree s m h i
    × ((t.value s.made).span ≡ element_span m h i)
Chosen s (Update m key bytes flags NoMemory) t = (h : MapShape) × IsMap s.shape.maps m h
    × IsShort s m h
Chosen s (Update m key bytes flags Busy) t = ⊥
Chosen s (Delete m key Busy) t = ⊥
Chosen s _ t = Unit {0}

-- what a store of one thread may do
abbrev pub PlainlyAllowed : Plain → ℕ → Event → Plain → Type 0
PlainlyAllowed s c e t = Allowed s c e t × Chosen s e t
