use Rattle.std.proofs.Common.{◌≡◌, ◌≤◌, ℕ, Some, subst}
use Rattle.std.specs.Prelude.{slice_get}
use Rattle.bpf_x86.specs.Machine.{TurnOf, FlushOf}
use Rattle.bpf_buffering.specs.Search.{BufferedState, MovesTo, CannotMove}
use Rattle.bpf_buffering.specs.Album.{AlbumState}
use Rattle.bpf_buffering.proofs.AlbumLaws.{beyond_at}
use Rattle.bpf_buffering.proofs.album.Album.cpus.Goals as goal

pub returns-clause-beyond : goal.returns-clause-beyond
returns-clause-beyond c =
    let m = c.self.inside in
    subst (λ (a : AlbumState). (i d : ℕ) (s : BufferedState) → slice_get a.kept i ≡ Some s → c.cpus.result ≤ d → MovesTo s (TurnOf d) s ×
    CannotMove s (FlushOf d)) c.self.view_is
    (beyond_at m.machine m.pools m.states c.cpus.result c.cpus.ensures.cpus c.self.invariant.0.fits)
