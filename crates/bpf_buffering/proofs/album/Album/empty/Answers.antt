use Rattle.std.proofs.Common.{List, sym, subst, rules}
use Rattle.bpf_live.specs.Live.{Table}
use Rattle.bpf_alike.specs.Worlds.{AreLiveTables, table_at}
use Rattle.bpf_buffering.proofs.album.Album.empty.Goals as goal

pub invariant_of-result : goal.invariant_of-result
invariant_of-result c = (
  search rules,
  subst (λ (ts : List Table). AreLiveTables c.args.machine.machine.programs (table_at ts)) (sym c.new-3.ensures) c.requires,
)
