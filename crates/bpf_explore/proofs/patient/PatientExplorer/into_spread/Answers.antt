use Rattle.std.proofs.Common.{◌∙◌, Vec, Global, sym, ap, subst}
use Rattle.bpf_equal.specs.declared.peers.Peer.{Peer}
use Rattle.bpf_explore.specs.Album.{AlbumState, PatientState}
use Rattle.bpf_explore.specs.Private.Peers.{FitPeers}
use Rattle.bpf_explore.proofs.RunsLaws.{free_runs}
use Rattle.bpf_explore.proofs.patient.PatientExplorer.into_spread.Goals as goal

pub new-requires : goal.new-requires
new-requires c = record { runs = free_runs; origins = c.self.invariant.0.0 }

pub returns-clause-kept : goal.returns-clause-kept
returns-clause-kept c = ap (λ (a : AlbumState). a.kept) c.new.ensures ∙ ap (λ (a : PatientState). a.kept) c.self.view_is

pub returns-clause-peers : goal.returns-clause-peers
returns-clause-peers c = ap (λ (v : Vec Peer Global). v.items) c.into_peers.ensures ∙ ap (λ (p : PatientState). p.peers) c.self.view_is

pub returns-clause-fit : goal.returns-clause-fit
returns-clause-fit c =
    let m = c.self.inside in
    subst (λ (a : AlbumState). FitPeers a.stock a.kept c.into_peers.result.items) (sym c.new.ensures)
    (subst (λ (v : Vec Peer Global). FitPeers m.album.stock m.album.kept v.items) (sym c.into_peers.ensures) c.self.invariant.2.fit)
