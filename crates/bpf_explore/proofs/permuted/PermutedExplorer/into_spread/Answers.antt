use Rattle.std.proofs.Common.{◌∙◌, Vec, Global, ap, subst}
use Rattle.bpf_equal.specs.declared.peers.Peer.{Peer}
use Rattle.bpf_explore.specs.Private.Peers.{FitPeers}
use Rattle.bpf_explore.specs.Album.{PermutedState}
use Rattle.bpf_explore.proofs.permuted.PermutedExplorer.into_spread.Goals as goal

pub returns-clause-spread : goal.returns-clause-spread
returns-clause-spread c = c.into_spread.ensures ∙ ap (λ (p : PermutedState). p.found) c.self.view_is

pub returns-clause-peers : goal.returns-clause-peers
returns-clause-peers c = ap (λ (v : Vec Peer Global). v.items) c.into_peers.ensures ∙ ap (λ (p : PermutedState). p.peers) c.self.view_is

pub returns-clause-fit : goal.returns-clause-fit
returns-clause-fit c = subst (λ (p : PermutedState). FitPeers p.found.stock p.found.kept p.peers) c.self.view_is c.self.invariant.fit
