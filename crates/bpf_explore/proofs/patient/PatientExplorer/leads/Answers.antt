use Rattle.std.proofs.Common.{subst}
use Rattle.bpf_machine.specs.Ends.{RunsFreely}
use Rattle.bpf_explore.specs.Album.{PatientState, AreLedFreely}
use Rattle.bpf_explore.proofs.TrailLaws.{free_runs_join, are_led}
use Rattle.bpf_explore.proofs.patient.PatientExplorer.leads.Goals as goal

pub returns : goal.returns
returns c =
    let m = c.self.inside in
    subst (λ (a : PatientState). AreLedFreely a.kept) c.self.view_is (are_led RunsFreely free_runs_join m.album.kept m.origins.items c.self.invariant.0.0)
