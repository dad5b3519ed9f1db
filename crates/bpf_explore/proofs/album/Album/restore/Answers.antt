use Rattle.std.proofs.Common.{◌∙◌, ◌<◌, List, Some, length, sym, ap, subst}
use Rattle.std.specs.Prelude.{slice_get}
use Rattle.bpf_machine.specs.Machine.{MachineState}
use Rattle.bpf_loader.specs.Loaded.{Loaded}
use Rattle.bpf_alike.specs.Worlds.{AreLiveTables, table_at}
use Rattle.bpf_explore.specs.Private.Album.{AlbumState, FitsShelf, IsShelf}
use Rattle.bpf_explore.proofs.ShelfLaws.{machines_at}
use Rattle.bpf_explore.proofs.AlbumLaws.{shelf_of, kept_inside, readable, restored_fits, stored_inside}
use Rattle.bpf_explore.proofs.album.Album.restore.Goals as goal

pub tuple-tuple-requires : goal.tuple-tuple-requires
tuple-tuple-requires c =
    let m = c.self.inside in
    let shelf = shelf_of m.machine.programs m.stores m.parts m.states.tuples in
    kept_inside shelf c.args.place (subst (λ (a : AlbumState). c.args.place < length a.kept) (sym c.self.view_is) c.requires)

pub store-store-requires : goal.store-store-requires
store-store-requires c =
    let m = c.self.inside in
    let shelf = shelf_of m.machine.programs m.stores m.parts m.states.tuples in
    let less = kept_inside shelf c.args.place (subst (λ (a : AlbumState). c.args.place < length a.kept) (sym c.self.view_is) c.requires) in
    stored_inside m.shape shelf c.args.place c.tuple-tuple.result.now c.self.invariant.0 less c.tuple-tuple.ensures.tuple.1

pub restore-requires : goal.restore-requires
restore-requires c =
    let m = c.self.inside in
    let shelf = shelf_of m.machine.programs m.stores m.parts m.states.tuples in
    let tuple = c.tuple-tuple.result.now in
    let less = kept_inside shelf c.args.place (subst (λ (a : AlbumState). c.args.place < length a.kept) (sym c.self.view_is) c.requires) in
    let ready = readable m.shape shelf m.machine c.args.place tuple c.store-store.result.now c.jobs.result.now
    c.behind_first-numbers.result.now c.self.invariant.0 c.self.invariant.1 less c.tuple-tuple.ensures.tuple.1
    c.tuple-tuple.ensures.width c.tuple-tuple.ensures.some c.store-store.ensures c.jobs.ensures c.behind_first-numbers.ensures in
    record { lists = c.self.invariant.1.lists; shape = ready.shape; within = ready.within; stands = ready.stands }

pub returns-clause-ok : goal.returns-clause-ok
returns-clause-ok c =
    let m = c.self.inside in
    let shelf = shelf_of m.machine.programs m.stores m.parts m.states.tuples in
    let tuple = c.tuple-tuple.result.now in
    let less = kept_inside shelf c.args.place (subst (λ (a : AlbumState). c.args.place < length a.kept) (sym c.self.view_is) c.requires) in
    let ready = readable m.shape shelf m.machine c.args.place tuple c.store-store.result.now c.jobs.result.now
    c.behind_first-numbers.result.now c.self.invariant.0 c.self.invariant.1 less c.tuple-tuple.ensures.tuple.1
    c.tuple-tuple.ensures.width c.tuple-tuple.ensures.some c.store-store.ensures c.jobs.ensures c.behind_first-numbers.ensures in
    ap (λ (a : AlbumState). slice_get a.kept c.args.place) (sym c.self.view_is)
    ∙ (machines_at shelf m.states.tuples.count c.args.place less ∙ ap (λ (n : MachineState). Some n) (sym (c.in_ok-restore.ensures.ok ∙ ready.is)))

pub returns-clause-cpus : goal.returns-clause-cpus
returns-clause-cpus c = ap (λ (a : AlbumState). a.cpus) c.self.view_is

pub invariant_of-self : goal.invariant_of-self
invariant_of-self c =
    let m = c.self.inside in
    let shelf = λ (n : MachineState). shelf_of n.programs m.stores m.parts m.states.tuples in
    subst (λ (n : MachineState). IsShelf m.shape (shelf n) × FitsShelf m.shape (shelf n) n × AreLiveTables n.programs (table_at m.states.tables))
    (sym c.in_err-restore.ensures.err) c.self.invariant

pub invariant_of-self-2 : goal.invariant_of-self-2
invariant_of-self-2 c =
    let m = c.self.inside in
    let shelf = shelf_of m.machine.programs m.stores m.parts m.states.tuples in
    let tuple = c.tuple-tuple.result.now in
    let less = kept_inside shelf c.args.place (subst (λ (a : AlbumState). c.args.place < length a.kept) (sym c.self.view_is) c.requires) in
    let ready = readable m.shape shelf m.machine c.args.place tuple c.store-store.result.now c.jobs.result.now
    c.behind_first-numbers.result.now c.self.invariant.0 c.self.invariant.1 less c.tuple-tuple.ensures.tuple.1
    c.tuple-tuple.ensures.width c.tuple-tuple.ensures.some c.store-store.ensures c.jobs.ensures c.behind_first-numbers.ensures in
    let is = c.in_ok-restore.ensures.ok in
    let r = restored_fits m.shape m.stores m.parts m.states.tuples m.machine c.restore.new.self c.args.place c.store-store.result.now
    c.jobs.result.now c.behind_first-numbers.result.now c.self.invariant.0 ready is in
    (r.0, r.1, subst (λ (ps : List Loaded). AreLiveTables ps (table_at m.states.tables)) (sym (ap (λ (n : MachineState). n.programs) is)) c.self.invariant.2)
