use Rattle.std.proofs.Common.{◌≡◌, ◌∙◌, ◌<◌, List, length, drop, sym, ap, subst}
use Rattle.bpf_cpu.specs.Task.{Task}
use Rattle.bpf_machine.specs.Parts.{chosen}
use Rattle.bpf_machine.specs.Patient.{NoneRanOut}
use Rattle.bpf_explore.specs.Album.{AlbumState, NoneRanOutAt}
use Rattle.bpf_explore.specs.Tuples.{tuple_at}
use Rattle.bpf_explore.specs.Private.Album.{machine_at}
use Rattle.bpf_explore.proofs.ShelfLaws.{machines_at}
use Rattle.bpf_explore.proofs.AlbumLaws.{shelf_of, kept_inside, kept_jobs}
use Rattle.bpf_explore.proofs.album.Album.none_ran_out.Goals as goal

pub tuple-requires : goal.tuple-requires
tuple-requires c =
    let m = c.self.inside in
    let shelf = shelf_of m.machine.programs m.stores m.parts m.states.tuples in
    kept_inside shelf c.args.place (subst (λ (a : AlbumState). c.args.place < length a.kept) (sym c.self.view_is) c.requires)

pub returns-clause-none : goal.returns-clause-none
returns-clause-none c is =
    let m = c.self.inside in
    let shelf = shelf_of m.machine.programs m.stores m.parts m.states.tuples in
    let numbers : c.behind_first.result.now ≡ drop 1 (tuple_at m.states.tuples c.args.place) = c.behind_first.ensures ∙ ap (drop 1)
    (sym c.tuple.ensures.tuple.1) in
    let jobs : chosen c.jobs.result.now c.behind_first.result.now ≡ chosen m.parts (drop 1 (tuple_at m.states.tuples c.args.place)) = ap
    (λ (ts : List Task). chosen ts c.behind_first.result.now) c.jobs.ensures ∙ ap (chosen m.parts) numbers in
    subst (λ (a : AlbumState). NoneRanOutAt a.kept c.args.place) c.self.view_is
    (λ one at. subst NoneRanOut (jobs ∙ sym (kept_jobs shelf c.args.place one at)) (c.none_ran_out.ensures.none is))

pub returns-clause-out : goal.returns-clause-out
returns-clause-out c is none =
    let m = c.self.inside in
    let shelf = shelf_of m.machine.programs m.stores m.parts m.states.tuples in
    let numbers : c.behind_first.result.now ≡ drop 1 (tuple_at m.states.tuples c.args.place) = c.behind_first.ensures ∙ ap (drop 1)
    (sym c.tuple.ensures.tuple.1) in
    let jobs : chosen c.jobs.result.now c.behind_first.result.now ≡ chosen m.parts (drop 1 (tuple_at m.states.tuples c.args.place)) = ap
    (λ (ts : List Task). chosen ts c.behind_first.result.now) c.jobs.ensures ∙ ap (chosen m.parts) numbers in
    let less = kept_inside shelf c.args.place (subst (λ (a : AlbumState). c.args.place < length a.kept) (sym c.self.view_is) c.requires) in
    let every = subst (λ (a : AlbumState). NoneRanOutAt a.kept c.args.place) (sym c.self.view_is) none in
    let at = machines_at shelf m.states.tuples.count c.args.place less in
    c.none_ran_out.ensures.out is (subst NoneRanOut (sym jobs) (every (machine_at shelf c.args.place) at))
