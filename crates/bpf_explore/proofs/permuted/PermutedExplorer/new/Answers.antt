use Rattle.std.proofs.Common.{◌<◌, Vec, Global, length, sym, subst}
use Rattle.bpf_live.specs.Live.{Table}
use Rattle.bpf_alike.specs.Worlds.{AreLiveTables, table_at}
use Rattle.bpf_equal.specs.declared.peers.Peer.{Peer}
use Rattle.bpf_explore.specs.Album.{AlbumState}
use Rattle.bpf_explore.specs.Private.Peers.{FitPeers}
use Rattle.bpf_explore.proofs.permuted.PermutedExplorer.new.Goals as goal

pub equal_jobs-requires : goal.equal_jobs-requires
equal_jobs-requires c = subst (λ (a : AlbumState). 0 < length a.kept) (sym c.album.ensures) c.requires

pub invariant_of-result : goal.invariant_of-result
invariant_of-result c =
    let own = c.args.explorer in
    record {
      fit = subst (λ (ps : Vec Peer Global). FitPeers own.stock own.kept ps.items) (sym c.new.ensures.peers)
          (subst (λ (a : AlbumState). FitPeers a.stock a.kept c.in_ok-peers.peers.items) c.album.ensures c.in_ok-peers.ensures);
      right = subst (λ (ts : Vec Table Global). AreLiveTables own.stock.programs (table_at ts.items)) (sym c.new.ensures.tables)
          (subst (λ (a : AlbumState). AreLiveTables a.stock.programs (table_at c.in_ok-tables.tables.items)) c.album-2.ensures c.in_ok-tables.ensures);
    }
