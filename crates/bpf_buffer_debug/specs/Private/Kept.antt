-- What a session keeps of the machine before the first move.
use Rattle.std.specs.Prelude.{◌≡◌, Some, slice_get, slice_index_or}
use Rattle.bpf_plain.specs.PlainStore.{Contents}
use Rattle.bpf_plain.specs.Alike.{IsSameShape}
use Rattle.bpf_buffering.specs.Album.{AlbumState}
use Rattle.bpf_buffering.specs.Search.{BufferedState}

-- the first kept state
abbrev pub first_of : AlbumState → BufferedState
first_of a = slice_index_or a.kept 0 a.machine

-- there is one, and a store of this shape is there to make what CPUs see in
pub record CanRewind (a : AlbumState) (seen : Contents) : Type 0 where
  pub kept : slice_get a.kept 0 ≡ Some (first_of a)
  pub first : IsSameShape (first_of a).machine.store seen
  pub here : IsSameShape a.machine.machine.store seen
