use Rattle.std.proofs.Common.{◌∙◌, ◌<◌, Some, length, sym, ap, subst}
use Rattle.std.specs.Prelude.{slice_get}
use Rattle.bpf_machine.specs.Machine.{MachineState}
use Rattle.bpf_explore.specs.Album.{FitsStock}
use Rattle.bpf_explore.specs.Private.Album.{AlbumState}
use Rattle.bpf_explore.proofs.ShelfLaws.{machines_at}
use Rattle.bpf_explore.proofs.AlbumLaws.{shelf_of, fits_shelf, kept_inside, readable, restored_stock, stored_inside}
use Rattle.bpf_explore.proofs.album.Album.look.Goals as goal

pub tuple-tuple-requires : goal.tuple-tuple-requires
tuple-tuple-requires c =
    let m = c.self.inside in
    let shelf = shelf_of m.machine.programs m.stores m.parts m.states.tuples in
    kept_inside shelf c.args.place (subst (λ (a : AlbumState). c.args.place < length a.kept) (sym c.self.view_is) c.requires.there)

pub store-store-requires : goal.store-store-requires
store-store-requires c =
    let m = c.self.inside in
    let shelf = shelf_of m.machine.programs m.stores m.parts m.states.tuples in
    let less = kept_inside shelf c.args.place (subst (λ (a : AlbumState). c.args.place < length a.kept) (sym c.self.view_is) c.requires.there) in
    stored_inside m.shape shelf c.args.place c.tuple-tuple.result.now c.self.invariant.0 less c.tuple-tuple.ensures.tuple.1

pub restore-requires : goal.restore-requires
restore-requires c =
    let m = c.self.inside in
    let one = c.args.machine.now in
    let shelf = shelf_of m.machine.programs m.stores m.parts m.states.tuples in
    let tuple = c.tuple-tuple.result.now in
    let less = kept_inside shelf c.args.place (subst (λ (a : AlbumState). c.args.place < length a.kept) (sym c.self.view_is) c.requires.there) in
    let fits = fits_shelf m.shape shelf one (subst (λ (a : AlbumState). FitsStock a.stock one) (sym c.self.view_is) c.requires.fits) in
    let ready = readable m.shape shelf one c.args.place tuple c.store-store.result.now c.jobs.result.now
    c.behind_first-numbers.result.now c.self.invariant.0 fits less c.tuple-tuple.ensures.tuple.1
    c.tuple-tuple.ensures.width c.tuple-tuple.ensures.some c.store-store.ensures c.jobs.ensures c.behind_first-numbers.ensures in
    record { lists = fits.lists; shape = ready.shape; within = ready.within; stands = ready.stands }

pub returns-clause-ok : goal.returns-clause-ok
returns-clause-ok c =
    let m = c.self.inside in
    let one = c.args.machine.now in
    let shelf = shelf_of m.machine.programs m.stores m.parts m.states.tuples in
    let tuple = c.tuple-tuple.result.now in
    let less = kept_inside shelf c.args.place (subst (λ (a : AlbumState). c.args.place < length a.kept) (sym c.self.view_is) c.requires.there) in
    let fits = fits_shelf m.shape shelf one (subst (λ (a : AlbumState). FitsStock a.stock one) (sym c.self.view_is) c.requires.fits) in
    let ready = readable m.shape shelf one c.args.place tuple c.store-store.result.now c.jobs.result.now
    c.behind_first-numbers.result.now c.self.invariant.0 fits less c.tuple-tuple.ensures.tuple.1
    c.tuple-tuple.ensures.width c.tuple-tuple.ensures.some c.store-store.ensures c.jobs.ensures c.behind_first-numbers.ensures in
    ap (λ (a : AlbumState). slice_get a.kept c.args.place) (sym c.self.view_is)
    ∙ (machines_at shelf m.states.tuples.count c.args.place less ∙ ap (λ (n : MachineState). Some n) (sym (c.in_ok-restore.ensures.ok ∙ ready.is)))

pub returns-clause-fits : goal.returns-clause-fits
returns-clause-fits c =
    let m = c.self.inside in
    let one = c.args.machine.now in
    let shelf = shelf_of m.machine.programs m.stores m.parts m.states.tuples in
    let tuple = c.tuple-tuple.result.now in
    let less = kept_inside shelf c.args.place (subst (λ (a : AlbumState). c.args.place < length a.kept) (sym c.self.view_is) c.requires.there) in
    let fits = fits_shelf m.shape shelf one (subst (λ (a : AlbumState). FitsStock a.stock one) (sym c.self.view_is) c.requires.fits) in
    let ready = readable m.shape shelf one c.args.place tuple c.store-store.result.now c.jobs.result.now
    c.behind_first-numbers.result.now c.self.invariant.0 fits less c.tuple-tuple.ensures.tuple.1
    c.tuple-tuple.ensures.width c.tuple-tuple.ensures.some c.store-store.ensures c.jobs.ensures c.behind_first-numbers.ensures in
    subst (λ (a : AlbumState). FitsStock a.stock c.restore.new.self) c.self.view_is
    (restored_stock m.shape shelf one c.restore.new.self c.args.place c.store-store.result.now c.jobs.result.now
    c.behind_first-numbers.result.now fits ready c.in_ok-restore.ensures.ok)

pub returns-in_err-restore-clause-fits : goal.returns-in_err-restore-clause-fits
returns-in_err-restore-clause-fits c = subst (λ (n : MachineState). FitsStock c.args.self.now.stock n) (sym c.in_err-restore.ensures.err) c.requires.fits
