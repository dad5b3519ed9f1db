-- Where turns from kept machines led, in a patient search.
use Rattle.std.specs.Prelude.{◌≡◌, ℕ, zero, suc, ◌+◌, ◌*◌, ◌/◌, ◌%◌, ◌<◌, ◌≤◌, List, [], ◌∷◌, Some, length, slice_get}
use Rattle.bpf_machine.specs.Machine.{MachineState}
use Rattle.bpf_machine.specs.Cover.{TurnsAhead}
use Rattle.bpf_equal.specs.declared.peers.Peer.{Peer}
use Rattle.bpf_equal.specs.Patient.{IsKeptPermutedRichlyAt}
use Rattle.bpf_explore.specs.declared.turns.Arrival.{Arrival}
use Rattle.bpf_explore.specs.declared.turns.Edge.{Edge}
use Rattle.bpf_explore.specs.declared.turns.Turns.{Turns}
use Rattle.bpf_explore.specs.Search.{IsIdleAt}

-- the CPU's turn, with n more that no store sees, leads from the one kept machine to the other, but for
-- places
pub record IsEdge (peers : List Peer) (kept : List MachineState) (e : Edge) : Type 0 where
  pub inside : e.to < length kept
  pub old : MachineState
  pub new : MachineState
  pub there : slice_get kept e.«from» ≡ Some old
  pub turns : TurnsAhead old e.cpu e.ahead new
  pub is_kept : IsKeptPermutedRichlyAt peers kept e.to new

abbrev pub AreEdges : List Peer → List MachineState → List Edge → Type 0
AreEdges peers kept edges = (k : ℕ) (e : Edge) → slice_get edges k ≡ Some e → IsEdge peers kept e

-- it is that of this CPU from here
abbrev pub IsEdgeOf : List Peer → List MachineState → ℕ → ℕ → Edge → Type 0
IsEdgeOf peers kept i c e = (e.«from» ≡ i) × (e.cpu ≡ c) × IsEdge peers kept e

-- from which kept machine, and by which CPU
abbrev pub turn_of : Edge → ℕ × ℕ
turn_of e = (e.«from», e.cpu)

-- the turn of this number, of n CPUs, that led there
abbrev pub edge_of : ℕ → ℕ → Arrival → Edge
edge_of cpus n a = record { «from» = n / cpus; to = a.to; ahead = a.ahead; cpu = n % cpus }

-- the turns that led there, of which the first has this number
abbrev pub edges_from : ℕ → ℕ → List Arrival → List Edge
edges_from cpus n [] = []
edges_from cpus n (a ∷ rest) = edge_of cpus n a ∷ edges_from cpus (suc n) rest

-- those of n CPUs from the first machine, and then those from the next
abbrev pub edges_of : ℕ → List Arrival → List Edge
edges_of cpus arrivals = edges_from cpus zero arrivals

-- these are the turns of each CPU from each kept machine, in their order, but for places of the equal
-- jobs; no CPU after them has work
pub record AreTurns (kept : List MachineState) (turns : Turns) : Type 0 where
  pub count : length turns.arrivals.items ≡ length kept * turns.cpus
  pub each : (i c : ℕ) (e : Edge) → i < length kept → c < turns.cpus
      → slice_get (edges_of turns.cpus turns.arrivals.items) (i * turns.cpus + c) ≡ Some e → IsEdgeOf turns.peers.items kept i c e
  pub idle : (i c : ℕ) → turns.cpus ≤ c → IsIdleAt kept i c
