use Rattle.std.proofs.Common.{◌∙◌, Vec, Global, ap, subst}
use Rattle.bpf_machine.specs.Schedule.{RunsSchedule, World}
use Rattle.bpf_equal.specs.Races.{StaysExchanged}
use Rattle.bpf_equal.specs.declared.peers.Peer.{Peer}
use Rattle.bpf_explore.specs.Album.{AlbumState, BeginsAt, PermutedState}
use Rattle.bpf_explore.specs.Private.Peers.{AreOfKind}
use Rattle.bpf_explore.proofs.PeerLaws.{equal_stay}
use Rattle.bpf_explore.proofs.RunsLaws.{strict_runs}
use Rattle.bpf_explore.proofs.permuted.PermutedExplorer.into_parts.Goals as goal

pub returns-clause-found : goal.returns-clause-found
returns-clause-found c = ap (λ (p : PermutedState). p.found) c.self.view_is

pub returns-clause-peers : goal.returns-clause-peers
returns-clause-peers c = ap (λ (v : Vec Peer Global). v.items) c.into_peers.ensures ∙ ap (λ (p : PermutedState). p.peers) c.self.view_is

pub returns-clause-stays : goal.returns-clause-stays
returns-clause-stays c =
    let m = c.self.inside in
    subst (λ (p : PermutedState). (w : World) → BeginsAt p.found.kept w → StaysExchanged p.peers w) c.self.view_is
    (equal_stay RunsSchedule strict_runs m.explorer.stock m.explorer.kept m.twins.peers.items c.self.invariant.fit
    (subst (λ (a : AlbumState). AreOfKind a.stock a.kept) c.album.ensures c.of_kind.ensures) c.leads.ensures)
