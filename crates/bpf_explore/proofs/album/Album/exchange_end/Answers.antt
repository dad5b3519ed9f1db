use Rattle.std.proofs.Common.{◌≡◌, ◌∙◌, ◌<◌, ℕ, List, Some, length, sym, ap, subst}
use Rattle.std.specs.Prelude.{slice_get}
use Rattle.bpf_machine.specs.Machine.{MachineState}
use Rattle.bpf_machine.specs.Parts.{chosen}
use Rattle.bpf_loader.specs.Loaded.{Loaded}
use Rattle.bpf_alike.specs.Worlds.{AreLiveTables, table_at}
use Rattle.bpf_explore.specs.Private.Album.{AlbumState, FitsShelf, IsShelf, machine_at}
use Rattle.bpf_explore.specs.Private.Peers.{AreExchanged, CountUp, IsExchanged}
use Rattle.bpf_explore.proofs.ShelfLaws.{machines_at}
use Rattle.bpf_explore.proofs.AlbumLaws.{shelf_of, fits_with, kept_inside, readable, stored_inside}
use Rattle.bpf_explore.proofs.ExchangeLaws.{made, read_ended}
use Rattle.bpf_explore.proofs.album.Album.exchange_end.Goals as goal

pub tuple-tuple-requires : goal.tuple-tuple-requires
tuple-tuple-requires c =
    let m = c.self.inside in
    let shelf = shelf_of m.machine.programs m.stores m.parts m.states.tuples in
    kept_inside shelf c.args.place (subst (λ (a : AlbumState). c.args.place < length a.kept) (sym c.self.view_is) c.requires.place)

pub store-store-requires : goal.store-store-requires
store-store-requires c =
    let m = c.self.inside in
    let shelf = shelf_of m.machine.programs m.stores m.parts m.states.tuples in
    let less = kept_inside shelf c.args.place (subst (λ (a : AlbumState). c.args.place < length a.kept) (sym c.self.view_is) c.requires.place) in
    stored_inside m.shape shelf c.args.place c.tuple-tuple.result.now c.self.invariant.0 less c.tuple-tuple.ensures.tuple.1

pub exchange_ends-requires : goal.exchange_ends-requires
exchange_ends-requires c =
    let m = c.self.inside in
    let shelf = shelf_of m.machine.programs m.stores m.parts m.states.tuples in
    let tuple = c.tuple-tuple.result.now in
    let less = kept_inside shelf c.args.place (subst (λ (a : AlbumState). c.args.place < length a.kept) (sym c.self.view_is) c.requires.place) in
    let ready = readable m.shape shelf m.machine c.args.place tuple c.store-store.result.now c.jobs-parts.result.now
    c.behind_first.result.now c.self.invariant.0 c.self.invariant.1 less c.tuple-tuple.ensures.tuple.1
    c.tuple-tuple.ensures.width c.tuple-tuple.ensures.some c.store-store.ensures c.jobs-parts.ensures c.behind_first.ensures in
    let at : slice_get c.args.self.now.kept c.args.place ≡ Some (machine_at shelf c.args.place) = ap
    (λ (a : AlbumState). slice_get a.kept c.args.place) (sym c.self.view_is) ∙ machines_at shelf m.states.tuples.count c.args.place less in
    let needs = read_ended m.shape shelf m.machine c.args.place c.store-store.result.now c.jobs-parts.result.now c.behind_first.result.now
    c.args.one c.args.other c.args.self.now.kept ready at c.requires.ended c.requires.jobs in
    record { within = ready.within; one = needs.1; other = needs.2 }

pub restore-requires : goal.restore-requires
restore-requires c =
    let m = c.self.inside in
    let shelf = shelf_of m.machine.programs m.stores m.parts m.states.tuples in
    let tuple = c.tuple-tuple.result.now in
    let less = kept_inside shelf c.args.place (subst (λ (a : AlbumState). c.args.place < length a.kept) (sym c.self.view_is) c.requires.place) in
    let ready = readable m.shape shelf m.machine c.args.place tuple c.store-store.result.now c.jobs-parts.result.now
    c.behind_first.result.now c.self.invariant.0 c.self.invariant.1 less c.tuple-tuple.ensures.tuple.1
    c.tuple-tuple.ensures.width c.tuple-tuple.ensures.some c.store-store.ensures c.jobs-parts.ensures c.behind_first.ensures in
    let at : slice_get c.args.self.now.kept c.args.place ≡ Some (machine_at shelf c.args.place) = ap
    (λ (a : AlbumState). slice_get a.kept c.args.place) (sym c.self.view_is) ∙ machines_at shelf m.states.tuples.count c.args.place less in
    let needs = read_ended m.shape shelf m.machine c.args.place c.store-store.result.now c.jobs-parts.result.now c.behind_first.result.now
    c.args.one c.args.other c.args.self.now.kept ready at c.requires.ended c.requires.jobs in
    let is = made m.shape shelf m.machine c.args.place c.store-store.result.now c.jobs-parts.result.now c.behind_first.result.now c.args.one
    c.args.other ready needs c.deref.result.now (subst (AreExchanged c.args.one c.args.other (chosen c.jobs-parts.result.now
    c.behind_first.result.now)) (sym c.deref.ensures.value) c.in_ok-jobs.ensures) c.deref-2.result.now c.len.result
    (c.len.ensures ∙ sym c.deref.ensures.len) (subst (λ (ns : List ℕ). CountUp ns c.len.result) (sym c.deref-2.ensures.value) c.in_ok-numbers.ensures) in
    record { lists = c.self.invariant.1.lists; shape = ready.shape; within = is.within; stands = is.stands }

pub returns-clause-ok : goal.returns-clause-ok
returns-clause-ok c one here =
    let m = c.self.inside in
    let shelf = shelf_of m.machine.programs m.stores m.parts m.states.tuples in
    let tuple = c.tuple-tuple.result.now in
    let less = kept_inside shelf c.args.place (subst (λ (a : AlbumState). c.args.place < length a.kept) (sym c.self.view_is) c.requires.place) in
    let ready = readable m.shape shelf m.machine c.args.place tuple c.store-store.result.now c.jobs-parts.result.now
    c.behind_first.result.now c.self.invariant.0 c.self.invariant.1 less c.tuple-tuple.ensures.tuple.1
    c.tuple-tuple.ensures.width c.tuple-tuple.ensures.some c.store-store.ensures c.jobs-parts.ensures c.behind_first.ensures in
    let at : slice_get c.args.self.now.kept c.args.place ≡ Some (machine_at shelf c.args.place) = ap
    (λ (a : AlbumState). slice_get a.kept c.args.place) (sym c.self.view_is) ∙ machines_at shelf m.states.tuples.count c.args.place less in
    let needs = read_ended m.shape shelf m.machine c.args.place c.store-store.result.now c.jobs-parts.result.now c.behind_first.result.now
    c.args.one c.args.other c.args.self.now.kept ready at c.requires.ended c.requires.jobs in
    let is = made m.shape shelf m.machine c.args.place c.store-store.result.now c.jobs-parts.result.now c.behind_first.result.now c.args.one
    c.args.other ready needs c.deref.result.now (subst (AreExchanged c.args.one c.args.other (chosen c.jobs-parts.result.now
    c.behind_first.result.now)) (sym c.deref.ensures.value) c.in_ok-jobs.ensures) c.deref-2.result.now c.len.result
    (c.len.ensures ∙ sym c.deref.ensures.len) (subst (λ (ns : List ℕ). CountUp ns c.len.result) (sym c.deref-2.ensures.value) c.in_ok-numbers.ensures) in
    let two : Some (machine_at shelf c.args.place) ≡ Some one = sym at ∙ here in
    let same : machine_at shelf c.args.place ≡ one = cc in
    subst (λ (n : MachineState). IsExchanged c.args.one c.args.other n c.restore.new.self) same
    (is.exchanged c.restore.new.self c.in_ok-restore.ensures.ok)

pub returns-clause-cpus : goal.returns-clause-cpus
returns-clause-cpus c = ap (λ (a : AlbumState). a.cpus) c.self.view_is

pub invariant_of-self : goal.invariant_of-self
invariant_of-self c =
    let m = c.self.inside in
    let shelf = λ (n : MachineState). shelf_of n.programs m.stores m.parts m.states.tuples in
    subst (λ (n : MachineState). IsShelf m.shape (shelf n) × FitsShelf m.shape (shelf n) n × AreLiveTables n.programs (table_at m.states.tables))
    (sym c.in_err-restore.ensures.err) c.self.invariant

pub invariant_of-self-2 : goal.invariant_of-self-2
invariant_of-self-2 c =
    let m = c.self.inside in
    let shelf = shelf_of m.machine.programs m.stores m.parts m.states.tuples in
    let tuple = c.tuple-tuple.result.now in
    let less = kept_inside shelf c.args.place (subst (λ (a : AlbumState). c.args.place < length a.kept) (sym c.self.view_is) c.requires.place) in
    let ready = readable m.shape shelf m.machine c.args.place tuple c.store-store.result.now c.jobs-parts.result.now
    c.behind_first.result.now c.self.invariant.0 c.self.invariant.1 less c.tuple-tuple.ensures.tuple.1
    c.tuple-tuple.ensures.width c.tuple-tuple.ensures.some c.store-store.ensures c.jobs-parts.ensures c.behind_first.ensures in
    let at : slice_get c.args.self.now.kept c.args.place ≡ Some (machine_at shelf c.args.place) = ap
    (λ (a : AlbumState). slice_get a.kept c.args.place) (sym c.self.view_is) ∙ machines_at shelf m.states.tuples.count c.args.place less in
    let needs = read_ended m.shape shelf m.machine c.args.place c.store-store.result.now c.jobs-parts.result.now c.behind_first.result.now
    c.args.one c.args.other c.args.self.now.kept ready at c.requires.ended c.requires.jobs in
    let is = made m.shape shelf m.machine c.args.place c.store-store.result.now c.jobs-parts.result.now c.behind_first.result.now c.args.one
    c.args.other ready needs c.deref.result.now (subst (AreExchanged c.args.one c.args.other (chosen c.jobs-parts.result.now
    c.behind_first.result.now)) (sym c.deref.ensures.value) c.in_ok-jobs.ensures) c.deref-2.result.now c.len.result
    (c.len.ensures ∙ sym c.deref.ensures.len) (subst (λ (ns : List ℕ). CountUp ns c.len.result) (sym c.deref-2.ensures.value) c.in_ok-numbers.ensures) in
    let new = c.restore.new.self in
    let fits = is.fits new c.in_ok-restore.ensures.ok in
    let r = fits_with m.shape m.stores m.parts m.states.tuples m.machine new fits.0 c.self.invariant.0 fits.1 fits.2 fits.3 in
    (r.0, r.1, subst (λ (ps : List Loaded). AreLiveTables ps (table_at m.states.tables)) (sym fits.0) c.self.invariant.2)
