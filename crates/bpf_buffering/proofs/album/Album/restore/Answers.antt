use Rattle.std.proofs.Common.{◌≡◌, ◌∙◌, Some, List, ap, subst, sym}
use Rattle.std.specs.Prelude.{map, slice_get}
use Rattle.bpf_plain.specs.PlainStore.{Contents}
use Rattle.bpf_cpu.specs.Task.{Task}
use Rattle.bpf_machine.specs.Parts.{chosen}
use Rattle.bpf_buffering.specs.Album.{AlbumState}
use Rattle.bpf_buffering.specs.Jobs.{tasks_of}
use Rattle.bpf_buffering.specs.Search.{BufferedState}
use Rattle.bpf_buffering.specs.declared.waiting.Stored.{Stored}
use Rattle.bpf_buffering.specs.Private.Kept.{Numbers, jobs_of, kept_state, state_with, store_of}
use Rattle.bpf_buffering.proofs.AlbumLaws.{album_taken, fits_at, state_at, stored_there}
use Rattle.bpf_buffering.proofs.Waits.{items_of}
use Rattle.bpf_buffering.proofs.album.Album.restore.Goals as goal

pub invariant_of-self : goal.invariant_of-self
invariant_of-self c =
    let m = c.self.inside in
    let p = m.pools in
    let programs = m.machine.machine.programs in
    let k : Numbers = record { store = c.kept.inside.store; buffers = c.kept.inside.buffers; jobs = c.kept.inside.jobs.items } in
    let at : slice_get m.states c.args.place ≡ Some k = c.at-kept.ensures ∙ ap (λ (n : Numbers). Some n) (sym c.kept.view_is) in
    let fits = fits_at m.machine p m.states c.args.place k c.self.invariant.0.fits at in
    let waits = map items_of c.in_ok-buffers.buffers.items in
    let made : c.take.new.self ≡ kept_state p programs k =
    c.take.ensures ∙ ap (λ (s : Contents). state_with s programs (tasks_of c.in_ok-jobs.jobs.items) waits) c.store-store.ensures
    ∙ ap (λ (ts : List Task). state_with (store_of p k) programs ts waits) (c.in_ok-jobs.ensures ∙ ap (chosen p.jobs) c.deref.ensures.value)
    ∙ ap (λ (bs : List (List Stored)). state_with (store_of p k) programs (jobs_of p k) bs) c.in_ok-buffers.ensures in
    album_taken m.machine c.take.new.self p m.states m.store m.classes k c.self.invariant fits made (stored_there p.stores k.store fits.within.store)

pub returns-clause-ok : goal.returns-clause-ok
returns-clause-ok c =
    let m = c.self.inside in
    let p = m.pools in
    let programs = m.machine.machine.programs in
    let k : Numbers = record { store = c.kept.inside.store; buffers = c.kept.inside.buffers; jobs = c.kept.inside.jobs.items } in
    let at : slice_get m.states c.args.place ≡ Some k = c.at-kept.ensures ∙ ap (λ (n : Numbers). Some n) (sym c.kept.view_is) in
    let waits = map items_of c.in_ok-buffers.buffers.items in
    let made : c.take.new.self ≡ kept_state p programs k =
    c.take.ensures ∙ ap (λ (s : Contents). state_with s programs (tasks_of c.in_ok-jobs.jobs.items) waits) c.store-store.ensures
    ∙ ap (λ (ts : List Task). state_with (store_of p k) programs ts waits) (c.in_ok-jobs.ensures ∙ ap (chosen p.jobs) c.deref.ensures.value)
    ∙ ap (λ (bs : List (List Stored)). state_with (store_of p k) programs (jobs_of p k) bs) c.in_ok-buffers.ensures in
    subst (λ (a : AlbumState). slice_get a.kept c.args.place ≡ Some c.take.new.self) c.self.view_is
    (state_at m.machine p m.states c.args.place k at ∙ ap (λ (s : BufferedState). Some s) (sym made))
