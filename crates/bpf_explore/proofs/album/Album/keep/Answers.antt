use Rattle.std.proofs.Common.{◌∙◌, ◌<◌, ℕ, List, length, ap, refl, sym, subst}
use Rattle.std.specs.Prelude.{All, drop}
use Rattle.bpf_cpu.specs.Task.{Task}
use Rattle.bpf_live.specs.Live.{Table}
use Rattle.bpf_alike.specs.Worlds.{AreLiveTables, table_at}
use Rattle.bpf_explore.specs.Tuples.{tuple_at}
use Rattle.bpf_explore.specs.Album.{HasMore}
use Rattle.bpf_explore.specs.Private.Album.{AddsOne, AlbumState, AreKeptUnder, CameBy, machines, stocked}
use Rattle.bpf_explore.specs.Private.States.{AreOfParts, IsAlikeTuple}
use Rattle.bpf_explore.proofs.ShelfLaws.{machines_length}
use Rattle.bpf_explore.proofs.AlbumLaws.{shelf_of, more_stock, width_of, same_invariant, same_adds, invariant_after, adds_after, kept_after}
use Rattle.bpf_explore.proofs.AlbumLaws.{numbers_fit, came_within, recalled_others}
use Rattle.bpf_explore.proofs.album.Album.keep.Goals as goal

pub recall-requires : goal.recall-requires
recall-requires c =
    let m = c.self.inside in
    let shelf = shelf_of m.machine.programs m.stores m.parts m.states.tuples in
    came_within shelf c.args.turned m.machine.jobs
    (subst (λ (a : AlbumState). CameBy a.kept c.args.turned a.machine.jobs) (sym c.self.view_is) c.requires)

pub keep_machine-requires : goal.keep_machine-requires
keep_machine-requires c =
    let m = c.self.inside in
    let shelf = shelf_of m.machine.programs m.stores m.parts m.states.tuples in
    record {
      shape = c.self.invariant.1.shape;
      others = recalled_others m.shape shelf c.self.invariant.0 c.args.turned c.recall.new.room.before.items c.recall.new.room.cpu m.machine.jobs
          c.in_ok-recall.ensures (subst (λ (a : AlbumState). CameBy a.kept c.args.turned a.machine.jobs) (sym c.self.view_is) c.requires);
    }

pub invariant_of-self-in_err-keep_machine : goal.invariant_of-self-in_err-keep_machine
invariant_of-self-in_err-keep_machine c =
    let m = c.self.inside in
    let shelf = shelf_of m.machine.programs m.stores m.parts m.states.tuples in
    let r = same_invariant m.shape shelf m.machine c.keep_machine.new.stores c.keep_machine.new.parts c.self.invariant.0 c.self.invariant.1
    c.keep_machine.ensures.adds c.keep_machine.ensures.grows in
    (r.0, r.1, c.self.invariant.2)

pub returns-in_err-keep_machine-clause-adds : goal.returns-in_err-keep_machine-clause-adds
returns-in_err-keep_machine-clause-adds c =
    let m = c.self.inside in
    let shelf = shelf_of m.machine.programs m.stores m.parts m.states.tuples in
    let kept = machines (shelf_of m.machine.programs c.keep_machine.new.stores c.keep_machine.new.parts m.states.tuples) m.states.tuples.count in
    subst (λ (a : AlbumState). AddsOne a.kept a.machine kept) c.self.view_is
    (same_adds m.shape shelf m.machine c.keep_machine.new.stores c.keep_machine.new.parts c.self.invariant.0 c.self.invariant.1
    c.keep_machine.ensures.adds c.keep_machine.ensures.grows)

pub keep-requires : goal.keep-requires
keep-requires c =
    let m = c.self.inside in
    let shelf = shelf_of m.machine.programs m.stores m.parts m.states.tuples in
    let under = subst (AreKeptUnder c.keep_machine.new.stores c.keep_machine.new.parts m.machine) (sym c.deref.ensures.value)
    c.in_ok-keep_machine.ensures.numbers in
    let fit = numbers_fit m.shape shelf m.machine c.keep_machine.new.stores c.keep_machine.new.parts c.self.invariant.0 c.self.invariant.1
    c.keep_machine.ensures.adds c.keep_machine.ensures.grows c.deref.result.now under c.stands.ensures in
    record {
      width = fit.0;
      some = fit.1;
      within = subst (λ (ts : List Task). All (λ n. n < length ts) (drop 1 c.deref.result.now)) (sym c.jobs.ensures) fit.2;
      states = subst (λ (ts : List Task). AreOfParts ts m.states.tuples) (sym c.jobs.ensures) fit.3;
    }

pub invariant_of-self-in_err-number : goal.invariant_of-self-in_err-number
invariant_of-self-in_err-number c =
    let m = c.self.inside in
    let shelf = shelf_of m.machine.programs m.stores m.parts m.states.tuples in
    let under = subst (AreKeptUnder c.keep_machine.new.stores c.keep_machine.new.parts m.machine) (sym c.deref.ensures.value)
    c.in_ok-keep_machine.ensures.numbers in
    let size = under.size ∙ sym c.self.invariant.1.width in
    let r = invariant_after m.shape shelf m.machine c.keep_machine.new.stores c.keep_machine.new.parts c.self.invariant.0 c.self.invariant.1
    c.keep_machine.ensures.adds c.keep_machine.ensures.grows c.deref.result.now under c.stands.ensures c.keep.new.self.tuples size
    c.keep.ensures.adds in
    (r.0, r.1, subst (λ (ts : List Table). AreLiveTables m.machine.programs (table_at ts)) (sym c.keep.ensures.tables) c.self.invariant.2)

pub invariant_of-self-2 : goal.invariant_of-self-2
invariant_of-self-2 c =
    let m = c.self.inside in
    let shelf = shelf_of m.machine.programs m.stores m.parts m.states.tuples in
    let under = subst (AreKeptUnder c.keep_machine.new.stores c.keep_machine.new.parts m.machine) (sym c.deref.ensures.value)
    c.in_ok-keep_machine.ensures.numbers in
    let size = under.size ∙ sym c.self.invariant.1.width in
    let r = invariant_after m.shape shelf m.machine c.keep_machine.new.stores c.keep_machine.new.parts c.self.invariant.0 c.self.invariant.1
    c.keep_machine.ensures.adds c.keep_machine.ensures.grows c.deref.result.now under c.stands.ensures c.keep.new.self.tuples size
    c.keep.ensures.adds in
    (r.0, r.1, subst (λ (ts : List Table). AreLiveTables m.machine.programs (table_at ts)) (sym c.keep.ensures.tables) c.self.invariant.2)

pub returns-in_err-number-clause-adds : goal.returns-in_err-number-clause-adds
returns-in_err-number-clause-adds c =
    let m = c.self.inside in
    let shelf = shelf_of m.machine.programs m.stores m.parts m.states.tuples in
    let under = subst (AreKeptUnder c.keep_machine.new.stores c.keep_machine.new.parts m.machine) (sym c.deref.ensures.value)
    c.in_ok-keep_machine.ensures.numbers in
    let size = under.size ∙ sym c.self.invariant.1.width in
    let kept = machines (shelf_of m.machine.programs c.keep_machine.new.stores c.keep_machine.new.parts c.keep.new.self.tuples) c.keep.new.self.tuples.count in
    subst (λ (a : AlbumState). AddsOne a.kept a.machine kept) c.self.view_is
    (adds_after m.shape shelf m.machine c.keep_machine.new.stores c.keep_machine.new.parts c.self.invariant.0 c.self.invariant.1
    c.keep_machine.ensures.adds c.keep_machine.ensures.grows c.deref.result.now under c.stands.ensures c.keep.new.self.tuples size c.keep.ensures.adds)

pub returns-clause-adds : goal.returns-clause-adds
returns-clause-adds c =
    let m = c.self.inside in
    let shelf = shelf_of m.machine.programs m.stores m.parts m.states.tuples in
    let under = subst (AreKeptUnder c.keep_machine.new.stores c.keep_machine.new.parts m.machine) (sym c.deref.ensures.value)
    c.in_ok-keep_machine.ensures.numbers in
    let size = under.size ∙ sym c.self.invariant.1.width in
    let kept = machines (shelf_of m.machine.programs c.keep_machine.new.stores c.keep_machine.new.parts c.keep.new.self.tuples) c.keep.new.self.tuples.count in
    subst (λ (a : AlbumState). AddsOne a.kept a.machine kept) c.self.view_is
    (adds_after m.shape shelf m.machine c.keep_machine.new.stores c.keep_machine.new.parts c.self.invariant.0 c.self.invariant.1
    c.keep_machine.ensures.adds c.keep_machine.ensures.grows c.deref.result.now under c.stands.ensures c.keep.new.self.tuples size c.keep.ensures.adds)

pub returns-clause-within : goal.returns-clause-within
returns-clause-within c =
    let m = c.self.inside in
    let states = c.keep.new.self.tuples in
    subst (λ (n : ℕ). c.in_ok-number.number < n) (sym (machines_length
    (shelf_of m.machine.programs c.keep_machine.new.stores c.keep_machine.new.parts states) states.count)) c.in_ok-number.ensures.within

pub returns-clause-kept : goal.returns-clause-kept
returns-clause-kept c =
    let m = c.self.inside in
    let shelf = shelf_of m.machine.programs m.stores m.parts m.states.tuples in
    let under = subst (AreKeptUnder c.keep_machine.new.stores c.keep_machine.new.parts m.machine) (sym c.deref.ensures.value)
    c.in_ok-keep_machine.ensures.numbers in
    let alike = subst (λ (ts : List Task). IsAlikeTuple m.states.tables ts c.deref.result.now (tuple_at c.keep.new.self.tuples c.in_ok-number.number))
    c.jobs.ensures c.in_ok-number.ensures.alike in
    kept_after m.shape shelf m.machine c.keep_machine.new.stores c.keep_machine.new.parts c.self.invariant.0 c.self.invariant.1
    c.keep_machine.ensures.adds c.keep_machine.ensures.grows c.deref.result.now under c.stands.ensures m.states.tables c.keep.new.self.tuples
    c.in_ok-number.number c.self.invariant.2 c.keep.ensures.adds c.in_ok-number.ensures.within alike

pub returns-clause-cpus : goal.returns-clause-cpus
returns-clause-cpus c = ap (λ (a : AlbumState). a.cpus) c.self.view_is

pub returns-in_err-keep_machine-clause-more : goal.returns-in_err-keep_machine-clause-more
returns-in_err-keep_machine-clause-more c =
    let m = c.self.inside in
    let shelf = shelf_of m.machine.programs m.stores m.parts m.states.tuples in
    let now = shelf_of m.machine.programs c.keep_machine.new.stores c.keep_machine.new.parts m.states.tuples in
    subst (λ (a : AlbumState). HasMore a.stock (stocked m.shape now)) c.self.view_is
    (more_stock m.shape shelf m.machine c.keep_machine.new.stores c.keep_machine.new.parts c.self.invariant.0 c.self.invariant.1
    c.keep_machine.ensures.adds c.keep_machine.ensures.grows m.states.tuples refl)

pub returns-in_err-number-clause-more : goal.returns-in_err-number-clause-more
returns-in_err-number-clause-more c =
    let m = c.self.inside in
    let shelf = shelf_of m.machine.programs m.stores m.parts m.states.tuples in
    let now = shelf_of m.machine.programs c.keep_machine.new.stores c.keep_machine.new.parts c.keep.new.self.tuples in
    subst (λ (a : AlbumState). HasMore a.stock (stocked m.shape now)) c.self.view_is
    (more_stock m.shape shelf m.machine c.keep_machine.new.stores c.keep_machine.new.parts c.self.invariant.0 c.self.invariant.1
    c.keep_machine.ensures.adds c.keep_machine.ensures.grows c.keep.new.self.tuples
    (width_of m.states.tuples c.keep.new.self.tuples c.deref.result.now c.keep.ensures.adds))

pub returns-clause-more : goal.returns-clause-more
returns-clause-more c =
    let m = c.self.inside in
    let shelf = shelf_of m.machine.programs m.stores m.parts m.states.tuples in
    let now = shelf_of m.machine.programs c.keep_machine.new.stores c.keep_machine.new.parts c.keep.new.self.tuples in
    subst (λ (a : AlbumState). HasMore a.stock (stocked m.shape now)) c.self.view_is
    (more_stock m.shape shelf m.machine c.keep_machine.new.stores c.keep_machine.new.parts c.self.invariant.0 c.self.invariant.1
    c.keep_machine.ensures.adds c.keep_machine.ensures.grows c.keep.new.self.tuples
    (width_of m.states.tuples c.keep.new.self.tuples c.deref.result.now c.keep.ensures.adds))
