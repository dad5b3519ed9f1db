use Rattle.std.proofs.Common.{refl}
use Rattle.bpf_shared.specs.declared.events.Size.TheVariants.{Double}
use Rattle.bpf_shared.specs.declared.events.Event.TheVariants.{Store}
use Rattle.hop_map.proofs.Taken.{writes_there, fits_after, quiet_after, runs_after}
use Rattle.hop_map.proofs.port.HopPort.store_word.Goals as goal

pub store_word-requires-clause-place : goal.store_word-requires-clause-place
store_word-requires-clause-place c = writes_there c.self.inside c.in-Some.lane c.in-Some.is c.args.self.now c.self.view_is c.args.table.now
    c.requires.fits c.requires.in_run c.args.at.at 8 c.requires.place

pub returns-clause-fits : goal.returns-clause-fits
returns-clause-fits c =
    fits_after c.self.inside c.in-Some.lane c.in-Some.is c.args.self.now c.self.view_is c.args.table.now c.requires.fits c.requires.in_run
    c.store_word.new.lane.known (Store c.args.at.at Double c.args.word) refl c.store_word.ensures.stored c.store_word.new.lane.table c.store_word.ensures.table

pub returns-clause-in_run : goal.returns-clause-in_run
returns-clause-in_run c =
    runs_after c.self.inside c.in-Some.lane c.in-Some.is c.args.self.now c.self.view_is c.args.table.now c.requires.fits c.requires.in_run
    c.store_word.new.lane.known (Store c.args.at.at Double c.args.word) refl c.store_word.ensures.stored

pub returns-clause-noted : goal.returns-clause-noted
returns-clause-noted c =
    quiet_after c.self.inside c.in-Some.lane c.in-Some.is c.args.self.now c.self.view_is c.args.table.now c.requires.fits c.requires.in_run
    c.store_word.new.lane.known (Store c.args.at.at Double c.args.word) refl c.store_word.ensures.stored refl
