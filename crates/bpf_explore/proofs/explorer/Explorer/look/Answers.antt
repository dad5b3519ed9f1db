use Rattle.std.proofs.Common.{◌∙◌, ◌++◌, ℕ, List, false, sym, ap, subst}
use Rattle.bpf_explore.specs.Album.{AlbumState}
use Rattle.bpf_explore.specs.Scouts.{IsTurnAhead}
use Rattle.bpf_explore.proofs.ScoutLaws.{explorer_more, found_turn, taken_turn}
use Rattle.bpf_explore.proofs.explorer.Explorer.look.Goals as goal

pub numbers-requires : goal.numbers-requires
numbers-requires c =
    let m = c.self.inside in
    let r = found_turn false m.album.kept m.album.stock m.scouts.scouts.items c.args.place c.args.cpu c.in-Some.found c.self.invariant.1 c.in-Some.ensures in
    (r.0, r.1)

pub returns-in-Some-clause-turn : goal.returns-in-Some-clause-turn
returns-in-Some-clause-turn c =
    let m = c.self.inside in
    let found = c.in-Some.found in
    let numbers = c.numbers.result.now in
    let turn = taken_turn false m.album.kept m.album.stock m.scouts.scouts.items c.args.place c.args.cpu found numbers c.self.invariant.1
    c.in-Some.ensures c.numbers.ensures in
    let read = c.in_ok-extend_from_slice.ensures.items ∙ ap (λ (ns : List ℕ). ns ++ numbers) c.clear.ensures.items in
    subst (λ (a : AlbumState). IsTurnAhead false a.kept a.stock c.args.place c.args.cpu found.note.ahead c.extend_from_slice.new.self.items) c.self.view_is
    (subst (IsTurnAhead false m.album.kept m.album.stock c.args.place c.args.cpu found.note.ahead) (sym read) turn)

pub invariant_of-self : goal.invariant_of-self
invariant_of-self c =
    let m = c.self.inside in
    let now = c.look_ahead.new.self in
    explorer_more m.album.kept now.kept m.album.stock now.stock m.origins.items m.scouts.scouts.items c.look_ahead.ensures.kept
    c.look_ahead.ensures.more c.self.invariant

pub invariant_of-self-2 : goal.invariant_of-self-2
invariant_of-self-2 c =
    let m = c.self.inside in
    let now = c.look_ahead.new.self in
    explorer_more m.album.kept now.kept m.album.stock now.stock m.origins.items m.scouts.scouts.items c.look_ahead.ensures.kept
    c.look_ahead.ensures.more c.self.invariant
