-- What is gathered of what calls touch.
use Rattle.std.specs.Prelude.{◌≡◌, ℕ, List, [], ◌∷◌, ◌++◌, Option, Some, None}
use Rattle.bpf_shared.specs.declared.events.Event.{Event}
use Rattle.bpf_races.specs.declared.access.Access.{Access}
use Rattle.bpf_races.specs.Touch.{access_of, IsAmong}

-- the events of a turn of a job at a pc, if there is one
abbrev pub seen : Option (ℕ × ℕ) → List Event → List Event
seen None events = []
seen (Some at) events = events

-- some event touches this
abbrev pub IsTouched : List Event → Access → Type 0
IsTouched events a = (event : Event) × IsAmong events event × (access_of event ≡ Some a)

-- one more is after them, if it is one
abbrev pub Adds : List Access → Option Access → List Access → Type 0
Adds old None new = new ≡ old
Adds old (Some a) new = new ≡ old ++ a ∷ []

-- all that events touch, and nothing else
pub record AreAccesses (events : List Event) (accesses : List Access) : Type 0 where
  pub each : (a : Access) → IsAmong accesses a → IsTouched events a
  pub all : (a : Access) → IsTouched events a → IsAmong accesses a
