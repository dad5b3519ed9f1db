-- Where the answers of a history may report a shortage.
use Rattle.std.specs.Prelude.{◌≡◌, ◌≢◌, ◌⊎◌, ℕ, ◌+◌, ◌-◌, ◌^◌, ◌<◌, ◌≤◌, Bool, true, false, List, [], ◌∷◌, ◌++◌, ◌==◌}
use Rattle.bpf_shared.specs.declared.events.Entry.{Entry}
use Rattle.bpf_shared.specs.declared.events.Event.{Event}
use Rattle.bpf_shared.specs.declared.events.Event.TheVariants.{Update, Delete}
use Rattle.bpf_shared.specs.declared.events.MapAnswer.TheVariants.{Done, Busy, NoMemory}
use Rattle.bpf_shared.specs.declared.events.Span.{Span}
use Rattle.bpf_shared.specs.Shape.{Shape, elements, element_span}
use Rattle.bpf_shared.specs.Store.{Plain, as_made}
use Rattle.bpf_shared.specs.History.{Legal, events_of}
use Rattle.bpf_shared.specs.Own.{in_run}
use Rattle.hop_layout.specs.Layout.{map_shape, gained}
use Rattle.hop_words.specs.Content.{one_if}

-- ---- Busy
abbrev pub is_done : ℕ → Event → Bool
is_done m (Update n key bytes flags Done) = n == m
is_done m (Delete n key Done) = n == m
is_done m e = false

-- how often a history changed a map
abbrev pub done_in : ℕ → List Entry → ℕ
done_in m [] = 0
done_in m (x ∷ xs) = one_if (is_done m x.event) + done_in m xs

-- a segment's version goes up with each change and each split, from the one that the store was made
-- with to the last, 2 ^ 56 - 1: n changes of the map may have used one up
abbrev pub MayBeWorn : Shape → ℕ → ℕ → List Entry → Type 0
MayBeWorn h version m before = 2 ^ 56 - 1 ≤ version + gained (map_shape h m) + done_in m before

-- ---- NoMemory
abbrev pub is_update : ℕ → Event → Bool
is_update m (Update n key bytes flags answer) = n == m
is_update m e = false

-- how many of these events are updates of the map, however they were answered
abbrev pub updates_of : ℕ → List Event → ℕ
updates_of m [] = 0
updates_of m (e ∷ es) = one_if (is_update m e) + updates_of m es

-- how often a CPU of this history updated the map
abbrev pub updates_in : List Entry → ℕ → ℕ → ℕ
updates_in history m c = updates_of m (events_of c history)

-- where an event falls: the events before it, the store to which they led, and its CPU
pub record Moment : Type 0 where
  pub shape : Shape
  pub before : List Entry
  pub store : Plain
  pub cpu : ℕ

-- a value was made where this span is
abbrev pub HasHadValue : Plain → Span → Type 0
HasHadValue s p = (v : ℕ) × (v < s.made) × ((s.value v).span ≡ p)

-- the n-th update of the map by the CPU c, counted from 0, is one of those before; or another CPU,
-- in a run, is in it
abbrev pub IsBegun : Moment → ℕ → ℕ → ℕ → Type 0
IsBegun x m c n = (n < updates_in x.before m c)
    ⊎ ((c ≢ x.cpu) × (n ≡ updates_in x.before m c) × (in_run (events_of c x.before) ≡ true))

-- an element that isn't free was taken by an update of its own: `takes` says by CPU and number which
-- element an update took. By CPU, `made` says how many updates of the map it makes in the end. What
-- the CPU that asks took itself has had a value
pub record IsTakenByUpdate (x : Moment) (made : ℕ → ℕ) (takes : ℕ → ℕ → ℕ) (m e : ℕ) : Type 0 where
  pub cpu : ℕ
  pub update : ℕ
  pub inside : cpu < x.shape.cpus
  pub this : takes cpu update ≡ e
  pub begun : IsBegun x m cpu update
  pub ends : update < made cpu
  pub valued : HasHadValue x.store (element_span m (map_shape x.shape m) e) ⊎ (cpu ≢ x.cpu)

-- so may each element of the map be
abbrev pub EachMayBeTaken : Moment → (ℕ → ℕ) → ℕ → Type 0
EachMayBeTaken x made m = (takes : ℕ → ℕ → ℕ)
    × ((e : ℕ) → e < elements (map_shape x.shape m) → IsTakenByUpdate x made takes m e)

-- ---- causes
-- at this moment the CPU's event may be: Busy is answered only where a version may be used up,
-- NoMemory only where each element of the map may be taken
abbrev pub HasCause : ℕ → (ℕ → ℕ → ℕ) → Moment → Event → Type 0
HasCause version made x (Update m key bytes flags Busy) = MayBeWorn x.shape version m x.before
HasCause version made x (Update m key bytes flags NoMemory) = EachMayBeTaken x (made m) m
HasCause version made x (Delete m key Busy) = MayBeWorn x.shape version m x.before
HasCause version made x e = Unit {0}

-- so may each of a history that leads to the last store, at a store on the way there. By map and
-- CPU, `made` says how many updates are made in the end
abbrev pub HaveCausesBy : Shape → ℕ → (ℕ → ℕ → ℕ) → List Entry → Plain → Type 0
HaveCausesBy h version made history last = (before after : List Entry) (x : Entry)
    → history ≡ before ++ (x ∷ after)
    → (s : Plain) × Legal (as_made h) before s × Legal s (x ∷ after) last
    × HasCause version made (record { shape = h; before = before; store = s; cpu = x.cpu }) x.event

-- and each update that was begun is made in this history
abbrev pub HaveCauses : Shape → ℕ → List Entry → Plain → Type 0
HaveCauses h version history last = HaveCausesBy h version (updates_in history) history last
