-- What a scout has noted of one turn.
use Rattle.std.specs.Prelude.{◌≡◌, ℕ, ◌+◌, ◌≤◌, List, Some, length, slice_get}
use Rattle.bpf_explore.specs.declared.scouts.Found.{Found}
use Rattle.bpf_explore.specs.declared.scouts.Scout.{Scout}

-- it is what this scout has noted of the CPU's turn from there
abbrev pub IsFound : List Scout → ℕ → ℕ → Found → Type 0
IsFound scouts place c found =
    (found.note.place ≡ place) × (found.note.cpu ≡ c)
    × ((scout : Scout) × (slice_get scouts found.scout ≡ Some scout)
    × ((i : ℕ) × (slice_get scout.notes.items i ≡ Some (Some found.note))))

-- the numbers are there
abbrev pub HasTuple : List Scout → Found → Scout → Type 0
HasTuple scouts found scout =
    (slice_get scouts found.scout ≡ Some scout)
    × (found.note.first + scout.width ≤ length scout.tuples.items)
