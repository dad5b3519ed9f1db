-- What a CPU's own events show: whether it is in a run, and the spans that it holds.
use Rattle.std.specs.Prelude.{◌≡◌, ℕ, ◌+◌, ◌%◌, ◌==◌, ◌||◌, Bool, true, false, List, [], ◌∷◌, Some}
use Rattle.bpf_shared.specs.declared.events.Span.{Span}
use Rattle.bpf_shared.specs.declared.events.Event.{Event}
use Rattle.bpf_shared.specs.declared.events.Event.TheVariants.{Begin, End, Lookup}
use Rattle.bpf_shared.specs.declared.events.Entry.{Entry}
use Rattle.bpf_shared.specs.Shape.{Shape, IsShape}
use Rattle.bpf_shared.specs.Store.{Plain, as_made}
use Rattle.bpf_shared.specs.History.{Legal, events_of}
use Rattle.bpf_shared.specs.Passage.{same_span}

-- how often a run began or ended
abbrev pub turns_of : List Event → ℕ
turns_of [] = 0
turns_of (Begin ∷ es) = turns_of es + 1
turns_of (End ∷ es) = turns_of es + 1
turns_of (e ∷ es) = turns_of es

-- runs begin and end in turn, so the CPU is in one after an odd number of turns
abbrev pub in_run : List Event → Bool
in_run es = turns_of es % 2 == 1

abbrev pub no_span : Span → Bool
no_span q = false

-- what a CPU that held these spans holds after an event of its own
abbrev pub held_since : (Span → Bool) → Event → Span → Bool
held_since f Begin = no_span
held_since f End = no_span
held_since f (Lookup m key (Some p)) = λ q. same_span q p || f q
held_since f e = f

abbrev pub held_from : (Span → Bool) → List Event → Span → Bool
held_from f [] = f
held_from f (e ∷ es) = held_from (held_since f e) es

-- the spans that these events of a CPU hold
abbrev pub held_by : List Event → Span → Bool
held_by = held_from no_span

-- each of the spans is that of a value that the CPU holds
abbrev pub HoldsAll : ℕ → Plain → (Span → Bool) → Type 0
HoldsAll c s f = (q : Span) → f q ≡ true → (v : ℕ) × (s.held c v ≡ true) × ((s.value v).span ≡ q)

-- whether a CPU runs is determined by its own events, and each span that they hold is a held value's
abbrev pub OwnEventsTell : Type 0
OwnEventsTell = (h : Shape) (c : ℕ) (t : Plain) (log : List Entry) → IsShape h
    → Legal (as_made h) log t
    → (t.running c ≡ in_run (events_of c log)) × HoldsAll c t (held_by (events_of c log))
