use Rattle.std.proofs.Common.{subst}
use Rattle.bpf_machine.specs.Schedule.{RunsSchedule}
use Rattle.bpf_explore.specs.Album.{AlbumState, AreLed}
use Rattle.bpf_explore.proofs.TrailLaws.{schedules_join, are_led}
use Rattle.bpf_explore.proofs.explorer.Explorer.leads.Goals as goal

pub returns : goal.returns
returns c =
    let m = c.self.inside in
    subst (λ (a : AlbumState). AreLed a.kept) c.self.view_is (are_led RunsSchedule schedules_join m.album.kept m.origins.items c.self.invariant.0)
