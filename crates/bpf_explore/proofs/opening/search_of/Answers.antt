use Rattle.std.proofs.Common.{map}
use Rattle.std.proofs.lemmas.Result.{IfOk-weaker}
use Rattle.bpf_jobs.specs.Printed.{first_of}
use Rattle.bpf_explore.specs.Album.{AlbumState, BeginsAt, ShowsFirst}
use Rattle.bpf_explore.proofs.ExploreLaws.{first_fresh, first_shown}
use Rattle.bpf_pairs.specs.Pairs.{pair_of}
use Rattle.bpf_explore.proofs.opening.search_of.Goals as goal

pub returns : goal.returns
returns c =
    let setup = c.args.setup in
    let m = c.in_ok-shape.machine in
    let shows = c.in_ok-shape.ensures.machine in
    IfOk-weaker c.new.result (λ (e : AlbumState). ShowsFirst e.kept m) (λ (e : AlbumState). BeginsAt e.kept (first_of setup)) (λ e one. (
      first_fresh setup.shape m (map pair_of setup.pairs.items) setup.programs.items setup.jobs.items c.requires.inputs shows,
      first_shown e.kept m (first_of setup) one shows,
    )) c.new.ensures
