use Rattle.std.proofs.Common.{refl}
use Rattle.bpf_shared.specs.Access.{bytes_in}
use Rattle.bpf_shared.specs.declared.events.Event.TheVariants.{Load}
use Rattle.hop_map.proofs.Taken.{reads_there, fits_after, quiet_after, runs_after}
use Rattle.hop_map.proofs.port.HopPort.value_load.Goals as goal

pub load-requires-clause-place : goal.load-requires-clause-place
load-requires-clause-place c = reads_there c.self.inside c.in-Some.lane c.in-Some.is c.args.self.now c.self.view_is c.args.table.now
    c.requires.fits c.requires.in_run c.args.at.at (bytes_in c.args.size) c.requires.place

pub returns-clause-fits : goal.returns-clause-fits
returns-clause-fits c =
    fits_after c.self.inside c.in-Some.lane c.in-Some.is c.args.self.now c.self.view_is c.args.table.now c.requires.fits c.requires.in_run
    c.load.new.lane.known (Load c.args.at.at c.args.size c.load.result) refl c.load.ensures.loaded c.load.new.lane.table c.load.ensures.table

pub returns-clause-in_run : goal.returns-clause-in_run
returns-clause-in_run c =
    runs_after c.self.inside c.in-Some.lane c.in-Some.is c.args.self.now c.self.view_is c.args.table.now c.requires.fits c.requires.in_run
    c.load.new.lane.known (Load c.args.at.at c.args.size c.load.result) refl c.load.ensures.loaded

pub returns-clause-noted : goal.returns-clause-noted
returns-clause-noted c =
    quiet_after c.self.inside c.in-Some.lane c.in-Some.is c.args.self.now c.self.view_is c.args.table.now c.requires.fits c.requires.in_run
    c.load.new.lane.known (Load c.args.at.at c.args.size c.load.result) refl c.load.ensures.loaded refl
