use Rattle.std.proofs.Common.{List, subst}
use Rattle.bpf_loader.specs.Loaded.{Loaded}
use Rattle.bpf_alike.specs.Worlds.{AreLiveTables, table_at}
use Rattle.bpf_explore.specs.Album.{AlbumState}
use Rattle.bpf_explore.proofs.album.Album.tables.Goals as goal

pub returns : goal.returns
returns c =
    let tables = table_at c.in_ok-tables.tables.items in
    subst (λ (a : AlbumState). AreLiveTables a.stock.programs tables) c.self.view_is
    (subst (λ (ps : List Loaded). AreLiveTables ps tables) c.programs.ensures c.in_ok-tables.ensures.right)
