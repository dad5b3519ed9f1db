-- What follows of a history that leads to a last store.
use Rattle.std.specs.Prelude.{◌≡◌, ℕ, ◌≤◌, false, List, ◌∷◌, ◌++◌}
use Rattle.bpf_shared.specs.declared.events.Entry.{Entry}
use Rattle.bpf_shared.specs.Shape.{Shape, elements}
use Rattle.bpf_shared.specs.Store.{Plain}
use Rattle.hop_layout.specs.Layout.{map_shape}
use Rattle.hop_words.specs.Laws.{all_updates, lacks}
use Rattle.bpf_sched.specs.Explained.{LeadsTo}

-- where it has no more updates of a map than the map has elements, none of them lacks an element
abbrev pub FewUpdatesSuffice : Type 0
FewUpdatesSuffice = (h : Shape) (version : ℕ) (history : List Entry) (last : Plain) (m : ℕ)
    → LeadsTo h version history last → all_updates m history ≤ elements (map_shape h m)
    → (before after : List Entry) (x : Entry) → history ≡ before ++ (x ∷ after)
    → lacks m x.event ≡ false
