-- What follows from the definitions of a call and of what is saved.
use Rattle.std.specs.Prelude.{◌≡◌, ℕ, ◌++◌, List, [], ◌∷◌, Option, Some, None, Result}
use Rattle.bpf_mem.specs.declared.memory.PrivateMemory.{PrivateMemory}
use Rattle.bpf_shared.specs.Laws.{asked}
use Rattle.bpf_shared.specs.declared.events.Event.{Event}
use Rattle.bpf_shared.specs.declared.events.Span.{Span}
use Rattle.bpf_shared.specs.Shape.{Shape}
use Rattle.bpf_helpers.specs.declared.fault.HelperFault.{HelperFault}
use Rattle.bpf_helpers.specs.Calls.{CallsHelper}
use Rattle.bpf_helpers.specs.Saved.{AreSavable, spans_saved}

-- the call of the store that the first of these events answers, if there is one
abbrev pub first_call : List Event → Option Event
first_call [] = None
first_call (e ∷ events) = Some (asked e)

-- after equal events, their replies included, the next call is the same, or none comes
abbrev pub AreAskedAlike : List Event → List Event → Type 0
AreAskedAlike events others =
    (before rest later : List Event) → events ≡ before ++ rest → others ≡ before ++ later
    → first_call rest ≡ first_call later

-- a call asks the store what the replies before it determine, and its result and what is held then
-- are what all of them determine
abbrev pub CallsAreDetermined : Type 0
CallsAreDetermined =
    (shape : Shape) (n cpu : ℕ) (registers : List ℕ) (memory : PrivateMemory)
    (held after other : List Span) (events others : List Event) (result end : Result ℕ HelperFault)
    → CallsHelper shape n cpu registers memory held events result after
    → CallsHelper shape n cpu registers memory held others end other
    → AreAskedAlike events others × (events ≡ others → (result ≡ end) × (after ≡ other))

-- what spans are saved as determines them, and where it ends
abbrev pub SavedTellsSpans : Type 0
SavedTellsSpans =
    (spans others : List Span) (rest more : List ℕ) → AreSavable spans → AreSavable others
    → spans_saved spans ++ rest ≡ spans_saved others ++ more
    → (spans ≡ others) × (rest ≡ more)
