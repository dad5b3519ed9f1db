use Rattle.std.proofs.Common.{sym, subst}
use Rattle.bpf_machine.specs.Ends.{RunsFreely}
use Rattle.bpf_explore.specs.Album.{PatientState}
use Rattle.bpf_explore.specs.Private.Answers.{StartsFresh}
use Rattle.bpf_explore.specs.Private.Hung.{StaysFirst}
use Rattle.bpf_explore.proofs.PeerLaws.{stays_first}
use Rattle.bpf_explore.proofs.RunsLaws.{free_runs}
use Rattle.bpf_explore.proofs.TrailLaws.{free_runs_join, are_led}
use Rattle.bpf_explore.proofs.patient.PatientExplorer.stays.Goals as goal

pub returns : goal.returns
returns c =
    let m = c.self.inside in
    let fresh = subst (λ (a : PatientState). StartsFresh a.kept) (sym c.self.view_is) c.requires in
    subst (λ (a : PatientState). StaysFirst a.peers a.kept) c.self.view_is
    (stays_first c.exchanges_are_symmetries.ensures RunsFreely free_runs m.album.stock m.album.kept m.twins.peers.items
    (record { fit = c.self.invariant.2.fit; fresh = fresh }) c.of_kind.ensures
    (are_led RunsFreely free_runs_join m.album.kept m.origins.items c.self.invariant.0.0))
