use Rattle.std.proofs.Common.{◌∙◌, ap, subst}
use Rattle.bpf_explore.specs.Search.{IsIdleAt}
use Rattle.bpf_explore.specs.Album.{PermutedState}
use Rattle.bpf_explore.proofs.permuted.PermutedExplorerFrontier.cpus.Goals as goal

pub returns-clause-width : goal.returns-clause-width
returns-clause-width c = c.cpus.ensures.width ∙ ap (λ (p : PermutedState). p.found.cpus) c.self.view_is

pub returns-clause-idle : goal.returns-clause-idle
returns-clause-idle c i k above = subst (λ (p : PermutedState). IsIdleAt p.found.kept i k) c.self.view_is (c.cpus.ensures.idle i k above)
