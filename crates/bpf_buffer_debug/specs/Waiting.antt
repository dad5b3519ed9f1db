-- What is printed of stores that wait (our own choice).
use Rattle.std.specs.Prelude.{ℕ, List, [], ◌∷◌, ◌++◌, codes}
use Rattle.std.specs.Fmt.{decimal}
use Rattle.bpf_shared.specs.declared.events.Event.{Event}
use Rattle.bpf_events.specs.Lines.{event_text}

abbrev pub nothing_line : ℕ → List ℕ
nothing_line c = codes "cpu " ++ decimal c ++ codes " nothing waits\n"

abbrev pub waiting_line : List (List ℕ) → ℕ → Event → List ℕ
waiting_line names c e =
    codes "cpu " ++ decimal c ++ codes " waits " ++ event_text names e ++ codes "\n"

abbrev pub waiting_lines : List (List ℕ) → ℕ → List Event → List ℕ
waiting_lines names c [] = []
waiting_lines names c (e ∷ es) = waiting_line names c e ++ waiting_lines names c es

-- a line a store, the oldest first, or that none waits
abbrev pub buffer_text : List (List ℕ) → ℕ → List Event → List ℕ
buffer_text names c [] = nothing_line c
buffer_text names c (e ∷ es) = waiting_lines names c (e ∷ es)

-- a store, as it reaches memory
abbrev pub flush_line : List (List ℕ) → ℕ → Event → List ℕ
flush_line names c e =
    codes "cpu " ++ decimal c ++ codes " flush " ++ event_text names e ++ codes "\n"

-- the oldest store, as it reaches memory, or that none waits
abbrev pub flush_text : List (List ℕ) → ℕ → List Event → List ℕ
flush_text names c [] = nothing_line c
flush_text names c (e ∷ es) = flush_line names c e
