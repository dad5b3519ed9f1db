use Rattle.std.proofs.Common.{◌≡◌, Some, subst}
use Rattle.std.specs.Prelude.{slice_get}
use Rattle.bpf_machine.specs.Schedule.{unrolled}
use Rattle.bpf_explore.specs.Album.{AlbumState}
use Rattle.bpf_explore.proofs.HungLaws.{replayed}
use Rattle.bpf_explore.proofs.spread.Spread.dive.Goals as goal

pub returns-clause-dived : goal.returns-clause-dived
returns-clause-dived g c =
    let m = c.restore.new.self.machine in
    let at : slice_get c.args.self.now.kept 0 ≡ Some m = subst (λ (a : AlbumState). slice_get a.kept 0 ≡ Some m) c.self.view_is c.in_ok-restore.ensures.ok in
    replayed c.args.self.now.kept m c.dive.new.album.machine (unrolled c.in_ok-by.by.items) at c.in_ok-by.ensures.runs
