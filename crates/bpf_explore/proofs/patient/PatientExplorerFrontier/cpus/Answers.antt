use Rattle.std.proofs.Common.{◌∙◌, ap, subst}
use Rattle.bpf_explore.specs.Album.{PatientState}
use Rattle.bpf_explore.specs.Search.{IsIdleAt}
use Rattle.bpf_explore.proofs.patient.PatientExplorerFrontier.cpus.Goals as goal

pub returns-clause-width : goal.returns-clause-width
returns-clause-width c = c.cpus.ensures.cpus ∙ ap (λ (a : PatientState). a.cpus) c.self.view_is

pub returns-clause-idle : goal.returns-clause-idle
returns-clause-idle c i k above = subst (λ (a : PatientState). IsIdleAt a.kept i k) c.self.view_is (c.cpus.ensures.idle i k above)
