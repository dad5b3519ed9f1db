use Rattle.std.proofs.Common.{◌∙◌, ap, refl, sym, subst}
use Rattle.bpf_explore.specs.Album.{HasMore}
use Rattle.bpf_explore.specs.Private.Album.{AlbumState, CameBy, stocked}
use Rattle.bpf_explore.proofs.AlbumLaws.{came_within, more_stock, recalled_others, same_invariant, same_machines, shelf_of}
use Rattle.bpf_explore.proofs.album.Album.enter.Goals as goal

pub recall-requires : goal.recall-requires
recall-requires c =
    let m = c.self.inside in
    let shelf = shelf_of m.machine.programs m.stores m.parts m.states.tuples in
    came_within shelf c.args.turned m.machine.jobs
    (subst (λ (a : AlbumState). CameBy a.kept c.args.turned a.machine.jobs) (sym c.self.view_is) c.requires)

pub keep_machine-requires-clause-others : goal.keep_machine-requires-clause-others
keep_machine-requires-clause-others c =
    let m = c.self.inside in
    let shelf = shelf_of m.machine.programs m.stores m.parts m.states.tuples in
    recalled_others m.shape shelf c.self.invariant.0 c.args.turned c.recall.new.room.before.items c.recall.new.room.cpu m.machine.jobs
    c.in_ok-recall.ensures (subst (λ (a : AlbumState). CameBy a.kept c.args.turned a.machine.jobs) (sym c.self.view_is) c.requires)

pub invariant_of-self : goal.invariant_of-self
invariant_of-self c =
    let m = c.self.inside in
    let shelf = shelf_of m.machine.programs m.stores m.parts m.states.tuples in
    let r = same_invariant m.shape shelf m.machine c.keep_machine.new.stores c.keep_machine.new.parts c.self.invariant.0 c.self.invariant.1
    c.keep_machine.ensures.adds c.keep_machine.ensures.grows in
    (r.0, r.1, c.self.invariant.2)

pub invariant_of-self-2 : goal.invariant_of-self-2
invariant_of-self-2 c =
    let m = c.self.inside in
    let shelf = shelf_of m.machine.programs m.stores m.parts m.states.tuples in
    let r = same_invariant m.shape shelf m.machine c.keep_machine.new.stores c.keep_machine.new.parts c.self.invariant.0 c.self.invariant.1
    c.keep_machine.ensures.adds c.keep_machine.ensures.grows in
    (r.0, r.1, c.self.invariant.2)

pub returns-in_err-keep_machine-clause-kept : goal.returns-in_err-keep_machine-clause-kept
returns-in_err-keep_machine-clause-kept c =
    let m = c.self.inside in
    let shelf = shelf_of m.machine.programs m.stores m.parts m.states.tuples in
    same_machines m.shape shelf m.machine c.keep_machine.new.stores c.keep_machine.new.parts c.self.invariant.0 c.self.invariant.1
    c.keep_machine.ensures.adds c.keep_machine.ensures.grows ∙ ap (λ (a : AlbumState). a.kept) c.self.view_is

pub returns-clause-kept : goal.returns-clause-kept
returns-clause-kept c =
    let m = c.self.inside in
    let shelf = shelf_of m.machine.programs m.stores m.parts m.states.tuples in
    same_machines m.shape shelf m.machine c.keep_machine.new.stores c.keep_machine.new.parts c.self.invariant.0 c.self.invariant.1
    c.keep_machine.ensures.adds c.keep_machine.ensures.grows ∙ ap (λ (a : AlbumState). a.kept) c.self.view_is

pub returns-in_err-keep_machine-clause-more : goal.returns-in_err-keep_machine-clause-more
returns-in_err-keep_machine-clause-more c =
    let m = c.self.inside in
    let shelf = shelf_of m.machine.programs m.stores m.parts m.states.tuples in
    let now = shelf_of m.machine.programs c.keep_machine.new.stores c.keep_machine.new.parts m.states.tuples in
    subst (λ (a : AlbumState). HasMore a.stock (stocked m.shape now)) c.self.view_is
    (more_stock m.shape shelf m.machine c.keep_machine.new.stores c.keep_machine.new.parts c.self.invariant.0 c.self.invariant.1
    c.keep_machine.ensures.adds c.keep_machine.ensures.grows m.states.tuples refl)

pub returns-clause-more : goal.returns-clause-more
returns-clause-more c =
    let m = c.self.inside in
    let shelf = shelf_of m.machine.programs m.stores m.parts m.states.tuples in
    let now = shelf_of m.machine.programs c.keep_machine.new.stores c.keep_machine.new.parts m.states.tuples in
    subst (λ (a : AlbumState). HasMore a.stock (stocked m.shape now)) c.self.view_is
    (more_stock m.shape shelf m.machine c.keep_machine.new.stores c.keep_machine.new.parts c.self.invariant.0 c.self.invariant.1
    c.keep_machine.ensures.adds c.keep_machine.ensures.grows m.states.tuples refl)
