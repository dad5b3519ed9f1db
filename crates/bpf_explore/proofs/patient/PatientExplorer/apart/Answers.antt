use Rattle.std.proofs.Common.{subst}
use Rattle.bpf_explore.specs.Album.{PatientState, AreApart}
use Rattle.bpf_explore.proofs.patient.PatientExplorer.apart.Goals as goal

pub returns : goal.returns
returns c = subst (λ (a : PatientState). AreApart a.kept) c.self.view_is c.apart.ensures
