-- Histories: events in one order, each allowed after those before it.
use Rattle.std.specs.Prelude.{◌≡◌, ℕ, List, [], ◌∷◌, ◌==◌, if◌then◌else◌}
use Rattle.bpf_shared.specs.declared.events.Event.{Event}
use Rattle.bpf_shared.specs.declared.events.Entry.{Entry}
use Rattle.bpf_shared.specs.Shape.{Shape}
use Rattle.bpf_shared.specs.Store.{Plain, as_made}
use Rattle.bpf_shared.specs.Events.{Allowed}
use Rattle.bpf_shared.specs.Choice.{PlainlyAllowed}

-- an event of a CPU
abbrev pub entry : ℕ → Event → Entry
entry c e = record { cpu = c; event = e }

-- steps of this kind, one for each entry, lead from the first store to the second
abbrev pub History : (Plain → ℕ → Event → Plain → Type 0) → Plain → List Entry → Plain → Type 0
History step s [] t = s ≡ t
History step s (e ∷ es) t = (m : Plain) × step s e.cpu e.event m × History step m es t

-- each event is allowed after those before it
abbrev pub Legal : Plain → List Entry → Plain → Type 0
Legal = History Allowed

-- the same, with the choices of one thread
abbrev pub PlainlyLegal : Plain → List Entry → Plain → Type 0
PlainlyLegal = History PlainlyAllowed

-- a legal history begins with the store as made
abbrev pub IsLegal : Shape → List Entry → Type 0
IsLegal h log = (t : Plain) × Legal (as_made h) log t

-- the events of one CPU, in their order
abbrev pub events_of : ℕ → List Entry → List Event
events_of c [] = []
events_of c (e ∷ es) = if e.cpu == c then e.event ∷ events_of c es else events_of c es
