use Rattle.std.proofs.Common.{sym, subst}
use Rattle.bpf_jobs.specs.Printed.{first_of}
use Rattle.bpf_explore.specs.Album.{AlbumState, BeginsAt}
use Rattle.bpf_explore.proofs.ExploreLaws.{one_there, starts_fresh}
use Rattle.bpf_explore.proofs.opening.permuted_search_of.Goals as goal

pub new-requires : goal.new-requires
new-requires c =
    let kept = c.in_ok-explorer.explorer.kept in
    one_there kept (starts_fresh kept (first_of c.args.setup) c.in_ok-explorer.ensures)

pub returns : goal.returns
returns c = subst (λ (a : AlbumState). BeginsAt a.kept (first_of c.args.setup)) (sym c.in_ok-permuted.ensures) c.in_ok-explorer.ensures
