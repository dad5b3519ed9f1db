-- What follows of a report on worker threads.
use Rattle.std.specs.Prelude.{◌≡◌, ℕ, ◌≤◌, false, List, ◌∷◌, ◌++◌}
use Rattle.bpf_shared.specs.declared.events.Entry.{Entry}
use Rattle.bpf_shared.specs.Shape.{elements}
use Rattle.bpf_file.specs.File.{File, shape_of}
use Rattle.hop_layout.specs.Layout.{map_shape}
use Rattle.hop_words.specs.Laws.{all_updates, lacks}
use Rattle.bpf_workers.specs.Printed.{Asked, Printed, IsWorkersReport}

-- where the history that explains it has no more updates of a map than the map has elements, none
-- of them lacks an element
abbrev pub FewUpdatesSuffice : Type 0
FewUpdatesSuffice = (f : File) (asked : Asked) (printed : Printed)
    (r : IsWorkersReport f asked printed) (m : ℕ)
    → all_updates m r.closed.history ≤ elements (map_shape (shape_of f) m)
    → (before after : List Entry) (x : Entry) → r.closed.history ≡ before ++ (x ∷ after)
    → lacks m x.event ≡ false
