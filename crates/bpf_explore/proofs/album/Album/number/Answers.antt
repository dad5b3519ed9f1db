use Rattle.std.proofs.Common.{Some, sym, subst}
use Rattle.bpf_explore.specs.Album.{AlbumState}
use Rattle.bpf_explore.specs.Private.Album.{CameBy}
use Rattle.bpf_explore.proofs.AlbumLaws.{came_within, recalled_others, shelf_of}
use Rattle.bpf_explore.proofs.album.Album.number.Goals as goal

pub recall-requires : goal.recall-requires
recall-requires c =
    let m = c.self.inside in
    let shelf = shelf_of m.machine.programs m.stores m.parts m.states.tuples in
    came_within shelf (Some c.args.turned) c.args.machine.now.jobs
    (subst (λ (a : AlbumState). CameBy a.kept (Some c.args.turned) c.args.machine.now.jobs) (sym c.self.view_is) c.requires)

pub find_machine-requires : goal.find_machine-requires
find_machine-requires c =
    let m = c.self.inside in
    let shelf = shelf_of m.machine.programs m.stores m.parts m.states.tuples in
    recalled_others m.shape shelf c.self.invariant.0 (Some c.args.turned) c.recall.new.room.before.items c.recall.new.room.cpu
    c.args.machine.now.jobs c.in-Ok.ensures
    (subst (λ (a : AlbumState). CameBy a.kept (Some c.args.turned) c.args.machine.now.jobs) (sym c.self.view_is) c.requires)
