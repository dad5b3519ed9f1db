use Rattle.std.proofs.Common.{sym, subst}
use Rattle.bpf_cpu.specs.Task.{Task}
use Rattle.bpf_machine.specs.Private.Lanes.{room_of}
use Rattle.bpf_machine.specs.Private.Parts.{IsFirstHand, FitsIn}
use Rattle.bpf_machine.proofs.FillLaws.{read_chosen, fits_first, none_first}
use Rattle.bpf_machine.proofs.machine.parts.can_fill.Goals as goal

pub returns-in-None : goal.returns-in-None
returns-in-None c is = none_first c.args.parts.now c.args.numbers.now c.args.cpu c.args.lane.now c.in-None.ensures.none

pub returns-in-Some : goal.returns-in-Some
returns-in-Some c is =
    let parts = c.args.parts.now in
    let numbers = c.args.numbers.now in
    let first : IsFirstHand parts numbers c.args.cpu c.in-Some.job = record
    { within = c.in-Some.ensures.within; of = c.in-Some.ensures.of; found = c.in-Some.ensures.found; first = c.in-Some.ensures.first } in
    let here = read_chosen parts numbers c.in-Some.job c.index-parts-numbers.result c.in-Some.ensures.within c.requires c.index-parts-numbers.is in
    fits_first parts numbers c.args.cpu c.in-Some.job c.args.lane.now first
    (subst (λ (t : Task). FitsIn t.stage (room_of c.args.lane.now)) (sym here) (c.fits_room.ensures is))
