use Rattle.std.proofs.Common.{refl}
use Rattle.hop_map.proofs.Dealing.{starts_idle, starts}
use Rattle.hop_map.proofs.store.new_port.Goals as goal

pub invariant_of-result : goal.invariant_of-result
invariant_of-result c = (refl, starts_idle c.args.table.now.about c.args.lane.known c.requires.new)

pub returns-clause-port : goal.returns-clause-port
returns-clause-port c =
    let l = c.args.lane in
    starts c.args.table.now l.table l.known c.in_ok-arenas.arenas.items c.in_ok-batches.batches.items c.requires.table c.requires.cpu
    c.requires.even c.requires.new c.in_ok-arenas.ensures c.in_ok-batches.ensures
