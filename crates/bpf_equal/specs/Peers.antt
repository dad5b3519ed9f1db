-- Jobs that are equal before the first turn, each the only one of its CPU.
use Rattle.std.specs.Prelude.{◌≡◌, ℕ, List, Some, slice_get}
pub use Rattle.bpf_equal.specs.declared.peers.Peer.{Peer}

-- the jobs of these places are of one group
pub record AreOneGroup (peers : List Peer) (j k : ℕ) (one other : Peer) : Type 0 where
  pub first : slice_get peers j ≡ Some one
  pub second : slice_get peers k ≡ Some other
  pub group : other.group ≡ one.group
