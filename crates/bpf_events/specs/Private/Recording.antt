-- A plain store and the calls that one CPU has made of it.
use Rattle.std.specs.Prelude.{◌≡◌, ℕ, Bool, false, List, ◌++◌, nat_lt}
use Rattle.bpf_shared.specs.declared.events.Event.{Event}
use Rattle.bpf_shared.specs.declared.events.Event.TheVariants as event
use Rattle.bpf_shared.specs.declared.events.Entry.{Entry}
use Rattle.bpf_shared.specs.Shape.{Shape}
use Rattle.bpf_shared.specs.History.{events_of}
use Rattle.bpf_plain.specs.PlainStore.{Contents, Passes, has_cpu, shape_of}
use Rattle.bpf_events.specs.declared.note.Note.{Note}
use Rattle.bpf_events.specs.declared.note.Note.TheVariants as note

-- the call that a note is of, with its reply
abbrev pub event_of : Note → Event
event_of note.Begin = event.Begin
event_of note.End = event.End
event_of (note.Lookup map key answer) = event.Lookup map key.items answer
event_of (note.Update map key value flags answer) =
    event.Update map key.items value.items flags answer
event_of (note.Delete map key answer) = event.Delete map key.items answer
event_of (note.Load at size found) = event.Load at size found
event_of (note.Store at size word) = event.Store at size word
event_of (note.Atomic at size op operand expected found) =
    event.Atomic at size op operand expected found

pub record Recording : Type 0 where
  pub store : Contents
  -- the one CPU whose calls are noted
  pub cpu : ℕ
  -- they, in their order
  pub events : List Event
  -- some are missing, or another CPU has made a call
  pub lost : Bool

-- the store passes from the first to the second, and the calls of the CPU there were noted
abbrev pub PassesNoted : Recording → Recording → List Entry → Type 0
PassesNoted x y log = Passes x.store y.store log × (y.cpu ≡ x.cpu)
    × (y.lost ≡ false → (x.lost ≡ false) × (y.events ≡ x.events ++ events_of x.cpu log))

-- its store has this shape
abbrev pub IsRecorderOf : Shape → Recording → Type 0
IsRecorderOf h r = ((c : ℕ) → has_cpu r.store c ≡ nat_lt c h.cpus) × (shape_of r.store ≡ h)
