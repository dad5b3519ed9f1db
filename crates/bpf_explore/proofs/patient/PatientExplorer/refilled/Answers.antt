use Rattle.std.proofs.Common.{subst}
use Rattle.bpf_explore.specs.Album.{PatientState, HaveWholeBudgets}
use Rattle.bpf_explore.proofs.patient.PatientExplorer.refilled.Goals as goal

pub returns : goal.returns
returns c = subst (λ (a : PatientState). HaveWholeBudgets a.kept) c.self.view_is c.self.invariant.0.2
