-- The CPUs that were given back, and the words at rest.
use Rattle.std.specs.Prelude.{◌≡◌, ℕ, ◌<◌, List, []}
use mathlib.Core.Option.{some}
use lib.ListN.{get_elem?}
use Rattle.bpf_shared.specs.declared.events.Entry.{Entry}
use Rattle.hop_layout.specs.declared.about.About.{About}
use Rattle.hop_words.specs.declared.known.Known.{Known}

-- each CPU of the store is among these, locks nothing and has no element in hand
abbrev pub AreAllBack : About → List Known → Type 0
AreAllBack a lanes = (c : ℕ) → c < a.shape.cpus
    → (k : ℕ) × (l : Known) × (l.cpu ≡ c) × (get_elem? lanes k ≡ some l) × (l.locks ≡ [])
    × (l.fresh ≡ [])

-- what the store was given, its words, and the whole history
pub record Ending : Type 0 where
  pub about : About
  pub words : List ℕ
  pub history : List Entry
