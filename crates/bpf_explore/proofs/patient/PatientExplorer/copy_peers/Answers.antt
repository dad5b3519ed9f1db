use Rattle.std.proofs.Common.{◌≡◌, ◌∙◌, List, ◌++◌, sym, ap, subst}
use Rattle.bpf_machine.specs.Ends.{RunsFreely}
use Rattle.bpf_machine.specs.Machine.{MachineState}
use Rattle.bpf_machine.specs.Schedule.{World}
use Rattle.bpf_equal.specs.declared.peers.Peer.{Peer}
use Rattle.bpf_equal.specs.Races.{StaysExchanged}
use Rattle.bpf_explore.specs.Album.{BeginsAt, PatientState}
use Rattle.bpf_explore.proofs.PeerLaws.{equal_stay}
use Rattle.bpf_explore.proofs.RunsLaws.{free_runs}
use Rattle.bpf_explore.proofs.TrailLaws.{free_runs_join, are_led}
use Rattle.bpf_explore.proofs.patient.PatientExplorer.copy_peers.Goals as goal

pub returns-clause-stays : goal.returns-clause-stays
returns-clause-stays c =
    let m = c.self.inside in
    let copied : c.extend_from_slice.new.self.items ≡ m.twins.peers.items =
    c.in_ok-extend_from_slice.ensures.items ∙ ap (λ (ps : List Peer). ps ++ c.peers.result.now) c.new-peers.ensures.items ∙ c.peers.ensures in
    let kept = ap (λ (p : PatientState). p.kept) c.self.view_is in
    subst (λ (ms : List MachineState). (w : World) → BeginsAt ms w → StaysExchanged c.extend_from_slice.new.self.items w) kept
    (subst (λ (ps : List Peer). (w : World) → BeginsAt m.album.kept w → StaysExchanged ps w) (sym copied)
    (equal_stay RunsFreely free_runs m.album.stock m.album.kept m.twins.peers.items c.self.invariant.2.fit c.of_kind.ensures
    (are_led RunsFreely free_runs_join m.album.kept m.origins.items c.self.invariant.0.0)))
