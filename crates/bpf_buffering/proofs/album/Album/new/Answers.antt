use Rattle.std.proofs.Common.{List, subst}
use Rattle.bpf_loader.specs.Loaded.{Loaded}
use Rattle.bpf_alike.specs.Worlds.{AreLiveTables, table_at}
use Rattle.bpf_buffering.proofs.album.Album.new.Goals as goal

pub empty-album-requires : goal.empty-album-requires
empty-album-requires c =
    subst (λ (ps : List Loaded). AreLiveTables ps (table_at c.in_ok-tables.tables.items)) c.programs.ensures c.in_ok-tables.ensures.right
