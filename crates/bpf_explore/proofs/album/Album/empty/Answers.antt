use Rattle.std.proofs.Common.{List, sym, subst, rules}
use Rattle.bpf_loader.specs.Loaded.{Loaded}
use Rattle.bpf_live.specs.Live.{Table}
use Rattle.bpf_alike.specs.Worlds.{AreLiveTables, table_at}
use Rattle.bpf_explore.proofs.album.Album.empty.Goals as goal

pub invariant_of-result : goal.invariant_of-result
invariant_of-result c = (
  search rules,
  search rules,
  subst (λ (ps : List Loaded). AreLiveTables ps (table_at c.new-3.result.tables)) c.programs.ensures
      (subst (λ (ts : List Table). AreLiveTables c.programs.result.now (table_at ts)) (sym c.new-3.ensures.tables) c.in_ok-tables.ensures.right),
)
