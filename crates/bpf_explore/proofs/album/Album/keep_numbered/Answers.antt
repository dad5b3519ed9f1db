use Rattle.std.proofs.Common.{◌∙◌, ◌<◌, ℕ, List, length, ap, sym, subst}
use Rattle.std.specs.Prelude.{All, drop}
use Rattle.bpf_cpu.specs.Task.{Task}
use Rattle.bpf_live.specs.Live.{Table}
use Rattle.bpf_alike.specs.Worlds.{AreLiveTables, table_at}
use Rattle.bpf_explore.specs.Tuples.{tuple_at}
use Rattle.bpf_explore.specs.Album.{IsNumbered}
use Rattle.bpf_explore.specs.Private.Album.{AddsOne, AlbumState, machines}
use Rattle.bpf_explore.specs.Private.States.{AreOfParts, IsAlikeTuple}
use Rattle.bpf_explore.proofs.ShelfLaws.{machines_length}
use Rattle.bpf_explore.proofs.AlbumLaws.{shelf_of, numbers_are, still_shelf, adds_numbered, kept_numbered, stock_as, width_of}
use Rattle.bpf_explore.proofs.album.Album.keep_numbered.Goals as goal

pub keep-requires : goal.keep-requires
keep-requires c =
    let m = c.self.inside in
    let shelf = shelf_of m.machine.programs m.stores m.parts m.states.tuples in
    let one = c.requires.0 in
    let is = subst (λ (a : AlbumState). IsNumbered a.stock one c.args.numbers.now) (sym c.self.view_is) c.requires.1 in
    let fit = numbers_are m.shape shelf one c.args.numbers.now c.self.invariant.0 is in
    record {
      width = fit.0;
      some = fit.1;
      within = subst (λ (ts : List Task). All (λ n. n < length ts) (drop 1 c.args.numbers.now)) (sym c.jobs.ensures) fit.2;
      states = subst (λ (ts : List Task). AreOfParts ts m.states.tuples) (sym c.jobs.ensures) fit.3;
    }

pub invariant_of-self : goal.invariant_of-self
invariant_of-self c =
    let m = c.self.inside in
    let shelf = shelf_of m.machine.programs m.stores m.parts m.states.tuples in
    let one = c.requires.0 in
    let is = subst (λ (a : AlbumState). IsNumbered a.stock one c.args.numbers.now) (sym c.self.view_is) c.requires.1 in
    let r = still_shelf m.shape shelf one c.args.numbers.now c.self.invariant.0 is c.keep.new.self.tuples c.keep.ensures.adds m.machine
    c.self.invariant.1 in
    (r.0, r.1, subst (λ (ts : List Table). AreLiveTables m.machine.programs (table_at ts)) (sym c.keep.ensures.tables) c.self.invariant.2)

pub invariant_of-self-2 : goal.invariant_of-self-2
invariant_of-self-2 c =
    let m = c.self.inside in
    let shelf = shelf_of m.machine.programs m.stores m.parts m.states.tuples in
    let one = c.requires.0 in
    let is = subst (λ (a : AlbumState). IsNumbered a.stock one c.args.numbers.now) (sym c.self.view_is) c.requires.1 in
    let r = still_shelf m.shape shelf one c.args.numbers.now c.self.invariant.0 is c.keep.new.self.tuples c.keep.ensures.adds m.machine
    c.self.invariant.1 in
    (r.0, r.1, subst (λ (ts : List Table). AreLiveTables m.machine.programs (table_at ts)) (sym c.keep.ensures.tables) c.self.invariant.2)

pub returns-in_err-number-clause-adds : goal.returns-in_err-number-clause-adds
returns-in_err-number-clause-adds c one given =
    let m = c.self.inside in
    let shelf = shelf_of m.machine.programs m.stores m.parts m.states.tuples in
    let is = subst (λ (a : AlbumState). IsNumbered a.stock one c.args.numbers.now) (sym c.self.view_is) given in
    let kept = machines (shelf_of m.machine.programs m.stores m.parts c.keep.new.self.tuples) c.keep.new.self.tuples.count in
    subst (λ (a : AlbumState). AddsOne a.kept one kept) c.self.view_is
    (adds_numbered m.shape shelf one c.args.numbers.now c.self.invariant.0 is c.keep.new.self.tuples c.keep.ensures.adds)

pub returns-clause-adds : goal.returns-clause-adds
returns-clause-adds c one given =
    let m = c.self.inside in
    let shelf = shelf_of m.machine.programs m.stores m.parts m.states.tuples in
    let is = subst (λ (a : AlbumState). IsNumbered a.stock one c.args.numbers.now) (sym c.self.view_is) given in
    let kept = machines (shelf_of m.machine.programs m.stores m.parts c.keep.new.self.tuples) c.keep.new.self.tuples.count in
    subst (λ (a : AlbumState). AddsOne a.kept one kept) c.self.view_is
    (adds_numbered m.shape shelf one c.args.numbers.now c.self.invariant.0 is c.keep.new.self.tuples c.keep.ensures.adds)

pub returns-clause-within : goal.returns-clause-within
returns-clause-within c =
    let m = c.self.inside in
    let states = c.keep.new.self.tuples in
    subst (λ (n : ℕ). c.in_ok-number.number < n) (sym (machines_length (shelf_of m.machine.programs m.stores m.parts states) states.count))
    c.in_ok-number.ensures.within

pub returns-clause-kept : goal.returns-clause-kept
returns-clause-kept c one given =
    let m = c.self.inside in
    let shelf = shelf_of m.machine.programs m.stores m.parts m.states.tuples in
    let is = subst (λ (a : AlbumState). IsNumbered a.stock one c.args.numbers.now) (sym c.self.view_is) given in
    let alike = subst (λ (ts : List Task). IsAlikeTuple m.states.tables ts c.args.numbers.now (tuple_at c.keep.new.self.tuples c.in_ok-number.number))
    c.jobs.ensures c.in_ok-number.ensures.alike in
    kept_numbered m.shape shelf one c.args.numbers.now c.self.invariant.0 is c.keep.new.self.tuples c.keep.ensures.adds m.states.tables
    c.self.invariant.2 c.in_ok-number.number c.in_ok-number.ensures.within alike

pub returns-clause-cpus : goal.returns-clause-cpus
returns-clause-cpus c = ap (λ (a : AlbumState). a.cpus) c.self.view_is

pub returns-in_err-number-clause-stock : goal.returns-in_err-number-clause-stock
returns-in_err-number-clause-stock c =
    let m = c.self.inside in
    let shelf = shelf_of m.machine.programs m.stores m.parts m.states.tuples in
    stock_as m.shape m.machine.programs m.stores m.parts m.states.tuples c.keep.new.self.tuples
    (width_of m.states.tuples c.keep.new.self.tuples c.args.numbers.now c.keep.ensures.adds) ∙ ap (λ (a : AlbumState). a.stock) c.self.view_is

pub returns-clause-stock : goal.returns-clause-stock
returns-clause-stock c =
    let m = c.self.inside in
    let shelf = shelf_of m.machine.programs m.stores m.parts m.states.tuples in
    stock_as m.shape m.machine.programs m.stores m.parts m.states.tuples c.keep.new.self.tuples
    (width_of m.states.tuples c.keep.new.self.tuples c.args.numbers.now c.keep.ensures.adds) ∙ ap (λ (a : AlbumState). a.stock) c.self.view_is
