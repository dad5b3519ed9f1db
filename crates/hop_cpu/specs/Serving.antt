-- What contracts see of a CPU of the concurrent store.
use Rattle.std.specs.Prelude.{◌≡◌, ℕ, ◌-◌, ◌^◌, ◌==◌, ◌&&◌, Bool, List}
use Rattle.bpf_shared.specs.declared.events.Span.{Span}
use Rattle.bpf_shared.specs.declared.events.MapAnswer.{MapAnswer}
use Rattle.hop_words.specs.Inside.{Shown}
use Rattle.hop_words.specs.Kinds.{run_count}
use Rattle.hop_map.specs.Port.{Port, runs, port_holds}
use Rattle.hop_map.specs.Call.{IsShortage}

-- a table, and the port of one of its CPUs
pub record Serving : Type 0 where
  pub table : Shown
  pub port : Port

-- it serves the port's own CPU
abbrev pub serves : Serving → ℕ → Bool
serves x c = c == x.port.known.cpu

-- the CPU is in a run, by its own events
abbrev pub running : Serving → ℕ → Bool
running x c = serves x c && runs x.port

-- the spans that the CPU's run looked up, by its own events
abbrev pub serves_span : Serving → ℕ → Span → Bool
serves_span x c q = serves x c && port_holds x.port q

-- the CPU's run counter is at its last even value
abbrev pub IsPortWorn : Serving → ℕ → Type 0
IsPortWorn x c = run_count x.table.about x.port.known ≡ 2 ^ 64 - 2

-- Busy only at a segment's last version, NoMemory only where the call looked for a free element in
-- vain
abbrev pub MayLackElement : Serving → Serving → ℕ → List ℕ → MapAnswer → Type 0
MayLackElement x y m key answer = IsShortage x.table.about x.port.known m answer y.port.known
