-- What is known of a patient search, while machines, stores and jobs are more.
use Rattle.std.proofs.Common.{◌≡◌, ◌<◌, ◌/◌, ◌%◌, ◌++◌, ◌∷◌, [], ℕ, List, Vec, Global, length, true, sym, subst}
use Rattle.bpf_live.specs.Live.{Table}
use Rattle.bpf_machine.specs.Machine.{MachineState}
use Rattle.bpf_machine.specs.Ends.{RunsFreely}
use Rattle.bpf_equal.specs.declared.peers.Peer.{Peer}
use Rattle.bpf_explore.specs.declared.explorer.Origin.{Origin}
use Rattle.bpf_explore.specs.declared.scouts.Scout.{Scout}
use Rattle.bpf_explore.specs.declared.turns.Arrival.{Arrival}
use Rattle.bpf_explore.specs.declared.turns.Edge.{Edge}
use Rattle.bpf_explore.specs.Album.{HasMore, HaveWholeBudgets, Stock}
use Rattle.bpf_explore.specs.Scouts.{AreScouts}
use Rattle.bpf_explore.specs.Search.{Extends}
use Rattle.bpf_explore.specs.Private.Edges.{AreEdges, IsEdge, edges_of}
use Rattle.bpf_explore.specs.Private.Permuted.{AreTwins}
use Rattle.bpf_explore.specs.Private.Trail.{AreOrigins}
use Rattle.bpf_explore.proofs.EdgeLaws.{edges_still, one_more_placed}
use Rattle.bpf_explore.proofs.PermutedLaws.{same_extends, twins_more}
use Rattle.bpf_explore.proofs.ScoutLaws.{scouts_more}
use Rattle.bpf_explore.proofs.TurnedLaws.{IsTracked, tracked_still}

-- the invariant
abbrev pub IsPatient : List MachineState → Stock → ℕ → List Origin → List Arrival → List Scout → List Peer → List Table → Type 0
IsPatient kept stock cpus origins arrivals scouts peers tables =
    IsTracked peers kept cpus origins arrivals × AreScouts true kept stock scouts × AreTwins stock kept peers tables

module _ (origins : List Origin) (arrivals : List Arrival) (scouts : List Scout) (peers : List Peer) (tables : List Table) (old new : List MachineState)
    (stock after : Stock) (cpus now : ℕ) where
  -- the same machines are kept
  pub patient_still : new ≡ old → HasMore stock after → now ≡ cpus → 0 < length old → IsPatient old stock cpus origins arrivals scouts peers tables
      → IsPatient new after now origins arrivals scouts peers tables
  patient_still same more width some is =
      let longer = same_extends old new same in (
        tracked_still peers old new cpus now origins arrivals same width is.0,
        scouts_more stock after more old new longer true scouts is.1,
        twins_more stock after old new more some longer peers tables is.2,
      )

  pub patient_same : new ≡ old → after ≡ stock → now ≡ cpus → IsPatient old stock cpus origins arrivals scouts peers tables
      → IsPatient new after now origins arrivals scouts peers tables
  patient_same same kind width is =
      subst (λ (n : ℕ). IsPatient new after n origins arrivals scouts peers tables) (sym width)
      (subst (λ (s : Stock). IsPatient new s cpus origins arrivals scouts peers tables) (sym kind)
      (subst (λ (ms : List MachineState). IsPatient ms stock cpus origins arrivals scouts peers tables) (sym same) is))

  -- more are, which came about as these origins say
  pub patient_more : (cut : List Origin) → AreOrigins RunsFreely new cut → HaveWholeBudgets new → Extends old new → HasMore stock after → now ≡ cpus
      → 0 < length old → IsPatient old stock cpus origins arrivals scouts peers tables
      → IsPatient new after now cut arrivals scouts peers tables
  patient_more cut are whole longer more width some is = (
    (
      are,
      subst (λ (n : ℕ). AreEdges peers new (edges_of n arrivals)) (sym width)
          (edges_still peers old new (edges_of cpus arrivals) longer is.0.1),
      whole,
    ),
    scouts_more stock after more old new longer true scouts is.1,
    twins_more stock after old new more some longer peers tables is.2,
  )

module _ (kept : List MachineState) (stock : Stock) (cpus : ℕ) (origins : List Origin) (scouts : List Scout) where
  -- the peers and tables are the same
  pub patient_as : (arrivals : List Arrival) (peers later : Vec Peer Global) (tables after : Vec Table Global) → later ≡ peers → after ≡ tables
      → IsPatient kept stock cpus origins arrivals scouts peers.items tables.items
      → IsPatient kept stock cpus origins arrivals scouts later.items after.items
  patient_as arrivals peers later tables after same right is =
      subst (λ (ps : Vec Peer Global). IsPatient kept stock cpus origins arrivals scouts ps.items after.items) (sym same)
      (subst (λ (ts : Vec Table Global). IsPatient kept stock cpus origins arrivals scouts peers.items ts.items) (sym right) is)

  -- no turn more is noted
  pub none_arrived : (arrivals later : List Arrival) (peers : List Peer) (tables : List Table) → later ≡ arrivals
      → IsPatient kept stock cpus origins arrivals scouts peers tables → IsPatient kept stock cpus origins later scouts peers tables
  none_arrived arrivals later peers tables same is =
      subst (λ (xs : List Arrival). IsPatient kept stock cpus origins xs scouts peers tables) (sym same) is

  -- one is
  pub one_arrived : (arrivals pushed : List Arrival) (peers : List Peer) (tables : List Table) (first place cpu number ahead : ℕ)
      → length arrivals / first ≡ place → length arrivals % first ≡ cpu → cpus ≡ first
      → IsEdge peers kept (record { «from» = place; to = number; ahead = ahead; cpu = cpu })
      → pushed ≡ arrivals ++ record { to = number; ahead = ahead } ∷ []
      → IsPatient kept stock cpus origins arrivals scouts peers tables → IsPatient kept stock cpus origins pushed scouts peers tables
  one_arrived arrivals pushed peers tables first place cpu number ahead here own width edge push is = (
    (
      is.0.0,
      one_more_placed peers kept first cpus arrivals pushed place cpu number ahead here own width is.0.1 edge push,
      is.0.2,
    ),
    is.1,
    is.2,
  )
