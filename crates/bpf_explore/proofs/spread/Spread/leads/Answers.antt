use Rattle.std.proofs.Common.{subst}
use Rattle.bpf_explore.specs.Album.{AlbumState, AreLedThrough}
use Rattle.bpf_explore.proofs.SpreadLaws.{all_led}
use Rattle.bpf_explore.proofs.spread.Spread.leads.Goals as goal

pub returns : goal.returns
returns g c =
    let m = c.self.inside in
    subst (λ (a : AlbumState). AreLedThrough g.R.Runs.runs a.kept) c.self.view_is
    (all_led g.R.Runs.runs c.self.invariant.0 m.album.kept m.origins.items m.swaps.items c.self.invariant.1)
