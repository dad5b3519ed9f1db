use Rattle.std.proofs.Common.{List, subst, sym}
use Rattle.bpf_machine.specs.Machine.{MachineState, Shows}
use Rattle.bpf_machine.specs.Schedule.{World}
use Rattle.bpf_races.specs.Races.{RaceFound, AreRacesIn, RacesIn}
use Rattle.bpf_races.proofs.GatherLaws.{is_there_again}
use Rattle.bpf_races.proofs.gathering.is_there.Goals as goal

pub returns-clause-there : goal.returns-clause-there
returns-clause-there g c is =
    let m = c.current.result.now in
    let sync = c.args.sync.now in
    let races = c.deref.result.now in
    let are = subst (λ (xs : List RaceFound). AreRacesIn m sync xs) (sym c.deref.ensures.value) c.in_ok-races.ensures in
    subst (λ (x : MachineState). (w : World) → Shows x w → RacesIn w sync c.args.found.now) c.current.ensures
    (is_there_again m sync races c.args.found.now are (c.is_one_of.ensures is))
