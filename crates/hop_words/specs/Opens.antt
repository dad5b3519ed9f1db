-- The store as made.
use Rattle.std.specs.Prelude.{ℕ, zero, suc, ◌+◌, List, [], ◌∷◌, length}
use Rattle.hop_layout.specs.declared.about.About.{About}
use Rattle.hop_words.specs.declared.known.Known.{Known}
use Rattle.hop_words.specs.declared.known.View.{View}
use Rattle.hop_words.specs.declared.known.Limbo.{Limbo}
use Rattle.hop_words.specs.Ghost.{no_limbo}

abbrev pub no_limbos : ℕ → List Limbo
no_limbos zero = []
no_limbos (suc n) = no_limbo ∷ no_limbos n

abbrev pub new_lane : About → ℕ → Known
new_lane a c = record {
  cpu = c;
  seen = [];
  fresh = [];
  limbo = no_limbos (length a.shape.maps);
  locks = [];
  readings = [];
  tally = [];
}

abbrev pub lanes_from : About → ℕ → ℕ → List Known
lanes_from a c zero = []
lanes_from a c (suc n) = new_lane a c ∷ lanes_from a (c + 1) n

-- the first seat has all CPUs
abbrev pub opens : About → View
opens a = record { lanes = lanes_from a 0 a.shape.cpus; kept = [] }
