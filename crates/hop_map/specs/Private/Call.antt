-- What a whole call leaves in hand.
use Rattle.std.specs.Prelude.{◌≡◌, ℕ, [], ◌∷◌}
use Rattle.bpf_shared.specs.History.{events_of}
use Rattle.hop_words.specs.declared.known.Known.{Known}
use Rattle.hop_words.specs.Shortage.{updates_of}

-- the CPU has one element in hand: a new one, no word of which is filled, for its next update of the
-- map
abbrev pub HoldsNew : Known → ℕ → ℕ → Type 0
HoldsNew l m e = l.fresh ≡ record {
  map = m;
  element = e;
  update = updates_of m (events_of l.cpu l.seen);
  key = [];
  value = [];
} ∷ []
