use Rattle.std.proofs.Common.{◌≡◌, ◌∙◌, Some, subst}
use Rattle.std.specs.Prelude.{slice_get}
use Rattle.bpf_machine.specs.Schedule.{unrolled}
use Rattle.bpf_explore.specs.Album.{AlbumState}
use Rattle.bpf_explore.proofs.HungLaws.{replayed}
use Rattle.bpf_explore.proofs.ScoutLaws.{explorer_still}
use Rattle.bpf_explore.proofs.explorer.Explorer.dive.Goals as goal

pub returns-clause-dived : goal.returns-clause-dived
returns-clause-dived c =
    let m = c.restore.new.self.machine in
    let at : slice_get c.args.self.now.kept 0 ≡ Some m = subst (λ (a : AlbumState). slice_get a.kept 0 ≡ Some m) c.self.view_is c.in_ok-restore.ensures.ok in
    replayed c.args.self.now.kept m c.dive.new.album.machine (unrolled c.in_ok-by.by.items) at c.in_ok-by.ensures.runs

pub invariant_of-self : goal.invariant_of-self
invariant_of-self c =
    let m = c.self.inside in
    let now = c.restore.new.self in
    explorer_still m.album.kept now.kept m.album.stock now.stock m.origins.items m.scouts.scouts.items (c.restore.ensures.same)
    (c.restore.ensures.stock) c.self.invariant

pub invariant_of-self-in_err-by : goal.invariant_of-self-in_err-by
invariant_of-self-in_err-by c =
    let m = c.self.inside in
    let now = c.dive.new.album in
    explorer_still m.album.kept now.kept m.album.stock now.stock m.origins.items m.scouts.scouts.items
    (c.dive.ensures.same ∙ c.restore.ensures.same) (c.dive.ensures.stock ∙ c.restore.ensures.stock) c.self.invariant

pub invariant_of-self-2 : goal.invariant_of-self-2
invariant_of-self-2 c =
    let m = c.self.inside in
    let now = c.dive.new.album in
    explorer_still m.album.kept now.kept m.album.stock now.stock m.origins.items m.scouts.scouts.items
    (c.dive.ensures.same ∙ c.restore.ensures.same) (c.dive.ensures.stock ∙ c.restore.ensures.stock) c.self.invariant
