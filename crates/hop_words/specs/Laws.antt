-- What follows of a history whose answers of a shortage have their causes.
use Rattle.std.specs.Prelude.{◌≡◌, ℕ, ◌+◌, ◌≤◌, Bool, true, false, List, [], ◌∷◌, ◌++◌, ◌==◌}
use Rattle.bpf_shared.specs.declared.events.Entry.{Entry}
use Rattle.bpf_shared.specs.declared.events.Event.{Event}
use Rattle.bpf_shared.specs.declared.events.Event.TheVariants.{Update}
use Rattle.bpf_shared.specs.declared.events.MapAnswer.TheVariants.{NoMemory}
use Rattle.bpf_shared.specs.Shape.{Shape, elements}
use Rattle.bpf_shared.specs.Store.{Plain}
use Rattle.hop_layout.specs.Layout.{map_shape}
use Rattle.hop_words.specs.Content.{one_if}
use Rattle.hop_words.specs.Shortage.{is_update, HaveCauses}

-- how many entries of a history are updates of the map, by any CPU and with any answer
abbrev pub all_updates : ℕ → List Entry → ℕ
all_updates m [] = 0
all_updates m (x ∷ xs) = one_if (is_update m x.event) + all_updates m xs

-- an update of the map was answered NoMemory
abbrev pub lacks : ℕ → Event → Bool
lacks m (Update n key bytes flags NoMemory) = n == m
lacks m e = false

-- where a whole history has no more updates of a map than the map has elements, none of them lacks
-- an element
abbrev pub FewUpdatesSuffice : Type 0
FewUpdatesSuffice = (h : Shape) (version : ℕ) (history : List Entry) (last : Plain) (m : ℕ)
    → HaveCauses h version history last → all_updates m history ≤ elements (map_shape h m)
    → (before after : List Entry) (x : Entry) → history ≡ before ++ (x ∷ after)
    → lacks m x.event ≡ false

-- before an update that lacks an element there are at least as many updates of the map as it has
-- elements, less one for each CPU
abbrev pub LacksComeLate : Type 0
LacksComeLate = (h : Shape) (version : ℕ) (history : List Entry) (last : Plain) (m : ℕ)
    → HaveCauses h version history last
    → (before after : List Entry) (x : Entry) → history ≡ before ++ (x ∷ after)
    → lacks m x.event ≡ true → elements (map_shape h m) ≤ all_updates m before + h.cpus
