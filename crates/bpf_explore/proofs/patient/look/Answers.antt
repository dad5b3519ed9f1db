use Rattle.std.proofs.Common.{◌∙◌, ◌++◌, true, ℕ, List, sym, ap, subst}
use Rattle.bpf_explore.specs.Scouts.{IsTurnAhead}
use Rattle.bpf_explore.proofs.ScoutLaws.{found_turn, taken_turn}
use Rattle.bpf_explore.proofs.patient.look.Goals as goal

pub numbers-requires : goal.numbers-requires
numbers-requires c =
    let a = c.args.album.now in
    let r = found_turn true a.kept a.stock c.args.scouts.now.scouts.items c.args.place c.args.cpu c.in-Some.found c.requires.scouts c.in-Some.ensures in
    (r.0, r.1)

pub returns-in-Some-clause-turn : goal.returns-in-Some-clause-turn
returns-in-Some-clause-turn c =
    let a = c.args.album.now in
    let found = c.in-Some.found in
    let numbers = c.numbers.result.now in
    let turn = taken_turn true a.kept a.stock c.args.scouts.now.scouts.items c.args.place c.args.cpu found numbers c.requires.scouts
    c.in-Some.ensures c.numbers.ensures in
    let read = c.in_ok-extend_from_slice.ensures.items ∙ ap (λ (ns : List ℕ). ns ++ numbers) c.clear.ensures.items in
    subst (IsTurnAhead true a.kept a.stock c.args.place c.args.cpu found.note.ahead) (sym read) turn
