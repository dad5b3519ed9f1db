-- What lasts between two events of a history: what a key leads to, a value's bytes, held values.
use Rattle.std.specs.Prelude.{◌≡◌, ℕ, ◌+◌, ◌-◌, ◌<◌, ◌≤◌, true, List, [], ◌∷◌, Option, Some, None, length, slice_index}
use Rattle.bpf_shared.specs.declared.events.Span.{Span}
use Rattle.bpf_shared.specs.declared.events.Event.{Event}
use Rattle.bpf_shared.specs.declared.events.Event.TheVariants.{End, Lookup, Update, Delete, Store, Atomic}
use Rattle.bpf_shared.specs.declared.events.MapAnswer.TheVariants.{Done}
use Rattle.bpf_shared.specs.declared.events.Entry.{Entry}
use Rattle.bpf_shared.specs.Shape.{IsIn, IsApart}
use Rattle.bpf_shared.specs.Access.{bytes_in}
use Rattle.bpf_shared.specs.Store.{Plain, IsFixed, IsFrozen, fixed_value}
use Rattle.bpf_shared.specs.Events.{Allowed}
use Rattle.bpf_shared.specs.History.{Legal}
use Rattle.bpf_shared.specs.Sound.{IsSoundStore}
use Rattle.bpf_shared.specs.Laws.{byte_at}

-- an update or a deletion of this key is done
abbrev pub ChangesKey : ℕ → List ℕ → ℕ → Event → Type 0
ChangesKey m key c (Update n other bytes flags Done) = (n ≡ m) × (other ≡ key)
ChangesKey m key c (Delete n other Done) = (n ≡ m) × (other ≡ key)
ChangesKey m key c e = ⊥

-- bytes are written, among them the one at this address
abbrev pub WritesAt : ℕ → ℕ → Event → Type 0
WritesAt b c (Store a size word) = (a ≤ b) × (b < a + bytes_in size)
WritesAt b c (Atomic a size op operand expected found) = (a ≤ b) × (b < a + bytes_in size)
WritesAt b c e = ⊥

-- this CPU's run ends
abbrev pub EndsRun : ℕ → ℕ → Event → Type 0
EndsRun d c e = (c ≡ d) × (e ≡ End)

-- no event is such
abbrev pub Without : (ℕ → Event → Type 0) → List Entry → Type 0
Without P [] = Unit {0}
Without P (e ∷ es) = (P e.cpu e.event → ⊥) × Without P es

-- the value with these bytes is found, where nobody wrote in the course of these events
pub record IsFound (u : Plain) (v : ℕ) (bytes : List ℕ) (log : List Entry)
    (found : Option Span) : Type 0 where
  pub span : found ≡ Some ((u.value v).span)
  pub size : (u.value v).span.size ≡ length bytes
  pub bytes_there : (b : ℕ) → IsIn b (u.value v).span → Without (WritesAt b) log
      → byte_at u v b ≡ slice_index bytes (b - (u.value v).span.at)

-- after an update that is done a lookup of the key, with no update or deletion of it between,
-- finds the new value, and its bytes are those given, until somebody writes there
abbrev pub UpdatesAreFound : Type 0
UpdatesAreFound = (s t u w : Plain) (c d m : ℕ) (key bytes : List ℕ) (flags : ℕ) (log : List Entry)
    (found : Option Span)
    → IsSoundStore s → Allowed s c (Update m key bytes flags Done) t → Legal t log u
    → Without (ChangesKey m key) log
    → Allowed u d (Lookup m key found) w → IsFound u s.made bytes log found

-- after a deletion that is done a lookup of the key, with no update of it between, finds nothing
abbrev pub DeletionsAreFound : Type 0
DeletionsAreFound = (s t u w : Plain) (c d m : ℕ) (key : List ℕ) (log : List Entry)
    (found : Option Span)
    → Allowed s c (Delete m key Done) t → Legal t log u → Without (ChangesKey m key) log
    → Allowed u d (Lookup m key found) w → found ≡ None

-- what a run holds it holds until it ends, in its place, and no new value is placed there
abbrev pub HeldValuesStay : Type 0
HeldValuesStay = (s t : Plain) (c v : ℕ) (log : List Entry) → IsSoundStore s → s.held c v ≡ true
    → Legal s log t → Without (EndsRun c) log
    → (t.held c v ≡ true) × ((t.value v).span ≡ (s.value v).span)
    × ((w : ℕ) → s.made ≤ w → w < t.made → IsApart (t.value w).span (t.value v).span)

-- a fixed value stays in its place, and a byte of it until somebody writes there; one that may only
-- be read has its first bytes
pub record IsFixedStill (s t : Plain) (v : ℕ) (log : List Entry) : Type 0 where
  pub span : (t.value v).span ≡ (fixed_value s.shape v).span
  pub bytes_there : (b : ℕ) → IsIn b (s.value v).span → Without (WritesAt b) log
      → byte_at t v b ≡ byte_at s v b
  pub frozen : IsFrozen s.shape v → t.value v ≡ fixed_value s.shape v

abbrev pub FixedValuesStay : Type 0
FixedValuesStay = (s t : Plain) (v : ℕ) (log : List Entry) → IsSoundStore s → Legal s log t
    → IsFixed s.shape v → IsFixedStill s t v log
