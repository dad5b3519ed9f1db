-- A search in which equal jobs count as one.
use Rattle.std.specs.Prelude.{List}
use Rattle.bpf_live.specs.Live.{Table}
use Rattle.bpf_machine.specs.Machine.{MachineState}
use Rattle.bpf_alike.specs.Worlds.{AreLiveTables, table_at}
use Rattle.bpf_equal.specs.declared.peers.Peer.{Peer}
use Rattle.bpf_explore.specs.Album.{Stock}
use Rattle.bpf_explore.specs.Private.Peers.{FitPeers}

-- the equal jobs are those of what is kept, and the tables are right for its programs
pub record AreTwins (stock : Stock) (kept : List MachineState) (peers : List Peer)
    (tables : List Table) : Type 0 where
  pub fit : FitPeers stock kept peers
  pub right : AreLiveTables stock.programs (table_at tables)
