use Rattle.std.proofs.Common.{refl}
use Rattle.bpf_shared.specs.declared.events.Size.TheVariants.{Double}
use Rattle.bpf_shared.specs.declared.events.Event.TheVariants.{Atomic}
use Rattle.hop_map.proofs.Taken.{writes_there, fits_after, quiet_after, runs_after}
use Rattle.hop_map.proofs.port.HopPort.atomic_word.Goals as goal

pub change_word-requires-clause-place : goal.change_word-requires-clause-place
change_word-requires-clause-place c = writes_there c.self.inside c.in-Some.lane c.in-Some.is c.args.self.now c.self.view_is c.args.table.now
    c.requires.fits c.requires.in_run c.args.at.at 8 c.requires.place

pub returns-clause-fits : goal.returns-clause-fits
returns-clause-fits c =
    fits_after c.self.inside c.in-Some.lane c.in-Some.is c.args.self.now c.self.view_is c.args.table.now c.requires.fits c.requires.in_run
    c.change_word.new.lane.known (Atomic c.args.at.at Double c.args.op c.args.operand c.args.expected c.change_word.result) refl
    c.change_word.ensures.changed c.change_word.new.lane.table c.change_word.ensures.table

pub returns-clause-in_run : goal.returns-clause-in_run
returns-clause-in_run c =
    runs_after c.self.inside c.in-Some.lane c.in-Some.is c.args.self.now c.self.view_is c.args.table.now c.requires.fits c.requires.in_run
    c.change_word.new.lane.known (Atomic c.args.at.at Double c.args.op c.args.operand c.args.expected c.change_word.result) refl c.change_word.ensures.changed

pub returns-clause-noted : goal.returns-clause-noted
returns-clause-noted c =
    quiet_after c.self.inside c.in-Some.lane c.in-Some.is c.args.self.now c.self.view_is c.args.table.now c.requires.fits c.requires.in_run
    c.change_word.new.lane.known (Atomic c.args.at.at Double c.args.op c.args.operand c.args.expected c.change_word.result) refl
    c.change_word.ensures.changed refl
