use Rattle.std.proofs.Common.{refl}
use Rattle.bpf_shared.specs.Access.{bytes_in}
use Rattle.bpf_shared.specs.declared.events.Event.TheVariants.{Atomic}
use Rattle.hop_map.proofs.Taken.{writes_there, fits_after, quiet_after, runs_after}
use Rattle.hop_map.proofs.port.HopPort.atomic_part.Goals as goal

pub change_part-requires-clause-place : goal.change_part-requires-clause-place
change_part-requires-clause-place g c = writes_there c.self.inside c.in-Some.lane c.in-Some.is c.args.self.now c.self.view_is
    c.args.table.now c.requires.fits c.requires.in_run c.args.at.at (bytes_in c.args.size) c.requires.place

pub returns-clause-fits : goal.returns-clause-fits
returns-clause-fits g c =
    fits_after c.self.inside c.in-Some.lane c.in-Some.is c.args.self.now c.self.view_is c.args.table.now c.requires.fits c.requires.in_run
    c.change_part.new.lane.known (Atomic c.args.at.at c.args.size c.args.operation.op c.args.operation.operand c.args.operation.expected
    c.change_part.result) refl
    c.change_part.ensures.changed c.change_part.new.lane.table c.change_part.ensures.table

pub returns-clause-in_run : goal.returns-clause-in_run
returns-clause-in_run g c =
    runs_after c.self.inside c.in-Some.lane c.in-Some.is c.args.self.now c.self.view_is c.args.table.now c.requires.fits c.requires.in_run
    c.change_part.new.lane.known (Atomic c.args.at.at c.args.size c.args.operation.op c.args.operation.operand c.args.operation.expected
    c.change_part.result) refl
    c.change_part.ensures.changed

pub returns-clause-noted : goal.returns-clause-noted
returns-clause-noted g c =
    quiet_after c.self.inside c.in-Some.lane c.in-Some.is c.args.self.now c.self.view_is c.args.table.now c.requires.fits c.requires.in_run
    c.change_part.new.lane.known (Atomic c.args.at.at c.args.size c.args.operation.op c.args.operation.operand c.args.operation.expected
    c.change_part.result) refl
    c.change_part.ensures.changed refl
