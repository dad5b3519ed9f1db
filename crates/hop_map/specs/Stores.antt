-- A store that no CPU has called yet; and its ports where they have seen one history.
use Rattle.std.specs.Prelude.{◌≡◌, ℕ, ◌<◌, ◌≤◌, false, List, [], ◌∷◌, All, Some, length, map, slice_get}
use Rattle.bpf_shared.specs.declared.events.Entry.{Entry}
use Rattle.bpf_shared.specs.History.{events_of}
use Rattle.hop_layout.specs.declared.about.About.{About}
use Rattle.hop_words.specs.declared.known.Known.{Known}
use Rattle.hop_words.specs.Inside.{Shown}
use Rattle.hop_words.specs.Opens.{new_lane, lanes_from}
use Rattle.hop_map.specs.Port.{Port, IsPortOf, known_of, own_events, runs}

-- the table's ports, the lowest CPU first, which have seen nothing yet
pub record ArePorts (t : Shown) (ports : List Port) : Type 0 where
  pub each : All (IsPortOf t) ports
  pub new : map known_of ports ≡ lanes_from t.about 0 t.about.shape.cpus

pub record Store : Type 0 where
  pub table : Shown
  pub ports : List Port

-- a CPU of the store that has seen nothing yet
abbrev pub IsNewLane : About → Known → Type 0
IsNewLane a l = (l.cpu < a.shape.cpus) × (l ≡ new_lane a l.cpu)

-- what the first of these ports has seen
abbrev pub seen_by : List Port → List Entry
seen_by [] = []
seen_by (p ∷ ps) = p.known.seen

-- a port of this table for each CPU, the lowest first; no CPU is in a run
pub record AreIdlePorts (t : Shown) (ports : List Port) : Type 0 where
  pub each : All (IsPortOf t) ports
  pub count : length ports ≡ t.about.shape.cpus
  pub numbered : (c : ℕ) (p : Port) → slice_get ports c ≡ Some p → p.known.cpu ≡ c
  pub idle : All (λ p. runs p ≡ false) ports

-- and all have seen one history
pub record HaveSeen (t : Shown) (history : List Entry) (ps : List Port) : Type 0 where
  pub ports : AreIdlePorts t ps
  pub seen : All (λ p. p.known.seen ≡ history) ps

-- the history has of each CPU what its port has done, and nothing of any other
pub record IsWhole (cpus : ℕ) (ports : List Port) (history : List Entry) : Type 0 where
  pub own : (c : ℕ) (p : Port) → slice_get ports c ≡ Some p → events_of c history ≡ own_events p
  pub others : (c : ℕ) → cpus ≤ c → events_of c history ≡ []
