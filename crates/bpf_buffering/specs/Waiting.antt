-- Stores of a CPU that wait.
use Rattle.std.specs.Prelude.{◌≡◌, ℕ, Bool, false, All, List, [], ◌∷◌, map, ◌==◌, ◌&&◌}
use Rattle.bpf_shared.specs.declared.events.Event.{Event}
use Rattle.bpf_shared.specs.declared.events.Event.TheVariants.{Store}
use Rattle.bpf_shared.specs.declared.events.Span.{Span}
use Rattle.bpf_shared.specs.Access.{bytes_in}
use Rattle.bpf_shared.specs.Shape.{Shape}
use Rattle.bpf_shared.specs.Passage.{IsWritable}
use Rattle.bpf_shared.specs.declared.events.Entry.{Entry}
use Rattle.bpf_shared.specs.Store.{Plain}
use Rattle.bpf_shared.specs.Sound.{IsSoundStore}
use Rattle.bpf_shared.specs.Choice.{PlainlyAllowed}
use Rattle.bpf_shared.specs.History.{entry}
use Rattle.bpf_plain.specs.PlainStore.{Contents, StandsFor, has_cpu, is_running, shape_of, held_spans}
use Rattle.bpf_x86.specs.Buffers.{Calls, CallsAll}
use Rattle.bpf_buffering.specs.Search.{alone}
use Rattle.bpf_buffering.specs.declared.waiting.Stored.{Stored}

-- the store that waits
abbrev pub event_of : Stored → Event
event_of e = Store e.at e.size e.word

-- each is at a place that a CPU may write which holds these spans
abbrev pub AreWritable : Shape → (Span → Bool) → List Stored → Type 0
AreWritable h held waiting = All (λ (e : Stored). IsWritable h held e.at (bytes_in e.size)) waiting

-- ---- a store, and what waits of one CPU
pub record WaitingContents : Type 0 where
  pub store : Contents
  pub waiting : List Stored
  pub cpu : ℕ
  -- there was no memory for some store
  pub lost : Bool

abbrev pub buffer_of : WaitingContents → List Event
buffer_of w = map event_of w.waiting

-- from each plain store that the first shows the call leads to one that the second shows
abbrev pub Leads : WaitingContents → Event → WaitingContents → Type 0
Leads x e y = (s : Plain) → IsSoundStore s → StandsFor x.store s
    → (t : Plain) × IsSoundStore t × StandsFor y.store t
    × Calls (alone s x.cpu (buffer_of x)) x.cpu e (alone t x.cpu (buffer_of y))

-- the same CPU of a store with the same CPUs
pub record IsSameCpu (x y : WaitingContents) : Type 0 where
  pub cpu : y.cpu ≡ x.cpu
  pub serves : has_cpu y.store ≡ has_cpu x.store

-- so do several, which are the CPU's own
abbrev pub PassesWaiting : WaitingContents → WaitingContents → List Entry → Type 0
PassesWaiting x y log = (es : List Event) × (log ≡ map (entry x.cpu) es) × IsSameCpu x y
    × (y.lost ≡ false → (x.lost ≡ false) × ((s : Plain) → IsSoundStore s → StandsFor x.store s
    → (t : Plain) × IsSoundStore t × StandsFor y.store t
    × CallsAll (alone s x.cpu (buffer_of x)) x.cpu es (alone t x.cpu (buffer_of y))))

-- its CPU, where the store has it
abbrev pub serves_one : WaitingContents → ℕ → Bool
serves_one w c = (c == w.cpu) && has_cpu w.store c

-- a CPU writes only where it may, and what it has stored waits only while it is in a run
pub record CanWait (store : Contents) (c : ℕ) (waiting : List Stored) : Type 0 where
  pub writable : AreWritable (shape_of store) (held_spans store c) waiting
  pub idle : is_running store c ≡ false → waiting ≡ []

-- its oldest store is made
abbrev pub FlushesAlone : WaitingContents → WaitingContents → Type 0
FlushesAlone x y =
    (e : Stored) × (x.waiting ≡ e ∷ y.waiting) × ((s : Plain) → IsSoundStore s → StandsFor x.store s
    → (t : Plain) × IsSoundStore t × StandsFor y.store t × PlainlyAllowed s x.cpu (event_of e) t)
