use Rattle.std.proofs.Common.{List, sym, subst}
use Rattle.bpf_machine.specs.Machine.{MachineState}
use Rattle.bpf_races.specs.Races.{RaceFound, AreRacesIn}
use Rattle.bpf_races.specs.Private.Searching.{AreOrdered, AreRacesAt}
use Rattle.bpf_races.proofs.GatherLaws.{found_at, found_there}
use Rattle.bpf_races.proofs.gathering.add_at.Goals as goal

pub add_all-requires-clause-order : goal.add_all-requires-clause-order
add_all-requires-clause-order g c = subst AreOrdered (sym c.deref.ensures.value) c.in_ok-found.ensures.ordered

pub add_all-requires-clause-here : goal.add_all-requires-clause-here
add_all-requires-clause-here g c =
    let kept = g.S.Searched.kept in
    let m = c.current.result.now in
    let sync = c.args.sync.now in
    let found = c.deref.result.now in
    let are = subst (λ (xs : List RaceFound). AreRacesIn m sync xs) (sym c.deref.ensures.value) c.in_ok-found.ensures in
    subst (λ (ms : List MachineState). AreRacesAt ms sync c.args.place found) (sym c.take.ensures.same)
    (found_there (kept c.args.search.now) found sync c.args.place m (g.S.Searched.working c.take.new.self) c.in_ok-take.ensures.ok c.current.ensures are)

pub returns-clause-listed : goal.returns-clause-listed
returns-clause-listed g c is =
    let kept = g.S.Searched.kept in
    let m = c.current.result.now in
    let are = subst (λ (xs : List RaceFound). AreRacesIn m c.args.sync.now xs) (sym c.deref.ensures.value) c.in_ok-found.ensures in
    found_at (kept c.args.search.now) c.add_all.new.races.items c.deref.result.now c.args.sync.now c.args.place m
    (g.S.Searched.working c.take.new.self) c.in_ok-take.ensures.ok c.current.ensures are (c.in_ok-listed.ensures.listed is)
