-- What is known of a patient search after a turn.
use Rattle.std.proofs.Common.{◌≡◌, ◌<◌, ◌∷◌, ◌++◌, [], ℕ, List, Some, length, replicate, refl, sym, subst, take, arith}
use Rattle.std.specs.Prelude.{slice_get}
use Rattle.bpf_machine.specs.Machine.{MachineState, Shows}
use Rattle.bpf_machine.specs.Schedule.{World, RunsSchedule}
use Rattle.bpf_machine.specs.Cover.{TurnsAhead}
use Rattle.bpf_machine.specs.Patient.{IsRefilled}
use Rattle.bpf_machine.specs.Ends.{RunsFreely}
use Rattle.bpf_equal.specs.declared.peers.Peer.{Peer}
use Rattle.bpf_explore.specs.declared.explorer.Origin.{Origin}
use Rattle.bpf_explore.specs.declared.turns.Arrival.{Arrival}
use Rattle.bpf_explore.specs.Album.{HaveWholeBudgets}
use Rattle.bpf_explore.specs.Private.Album.{AddsOne}
use Rattle.bpf_explore.specs.Private.Edges.{AreEdges, edges_of}
use Rattle.bpf_explore.specs.Private.Trail.{AreOrigins}
use Rattle.bpf_explore.proofs.TrailLaws.{free_runs_join, led_there, cut_origins, are_led}
use Rattle.bpf_explore.proofs.RichLaws.{led_freely}
use Rattle.bpf_explore.proofs.RefilledLaws.{more_whole}

-- the invariant of what is kept
abbrev pub IsTracked : List Peer → List MachineState → ℕ → List Origin → List Arrival → Type 0
IsTracked peers kept cpus origins arrivals =
    AreOrigins RunsFreely kept origins × AreEdges peers kept (edges_of cpus arrivals) × HaveWholeBudgets kept

pub tracked_still : (peers : List Peer) (old new : List MachineState) (cpus now : ℕ) (origins : List Origin) (arrivals : List Arrival) → new ≡ old
    → now ≡ cpus → IsTracked peers old cpus origins arrivals → IsTracked peers new now origins arrivals
tracked_still peers old new cpus now origins arrivals same width is =
    subst (λ (n : ℕ). IsTracked peers new n origins arrivals) (sym width)
    (subst (λ (kept : List MachineState). IsTracked peers kept cpus origins arrivals) (sym same) is)

-- what is known of machines and how they came about, with one more
pub origin_kept : (old new : List MachineState) (restored after refilled : MachineState) (origins pushed cut : List Origin)
    (from place made cpu n : ℕ) → slice_get old place ≡ Some restored → from ≡ place → place < length old
    → ((w : World) → Shows restored w → (z : World) × RunsSchedule w (cpu ∷ replicate made cpu) z × Shows after z) → TurnsAhead restored cpu
    made after → IsRefilled after cpu refilled → AddsOne old refilled new → pushed ≡ origins ++ record
    { from = from; ahead = made; cpu = cpu } ∷ [] → n ≡ length new → cut ≡ take n pushed
    → AreOrigins RunsFreely old origins → HaveWholeBudgets old → AreOrigins RunsFreely new cut × HaveWholeBudgets new
origin_kept old new restored after refilled origins pushed cut from place made cpu n at here less runs ahead refills adds push count is are whole =
    let o : Origin = record { from = from; ahead = made; cpu = cpu } in
    let led = led_there RunsFreely free_runs_join old restored refilled place o made at here refl
    (led_freely restored after refilled cpu (cpu ∷ replicate made cpu) runs refills) in
    let way = are_led RunsFreely free_runs_join old origins are place less in (
      cut_origins RunsFreely free_runs_join old new refilled origins pushed cut o n are (omega arith) led adds push count is,
      more_whole old new restored after refilled place cpu made (λ w first. (let r = way.1 w first in (r.0, r.2))) at
          (λ w shows. (let r = runs w shows in (r.0, r.2))) ahead refills adds whole,
    )
