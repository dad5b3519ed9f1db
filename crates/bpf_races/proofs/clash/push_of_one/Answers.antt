use Rattle.std.proofs.Common.{get_or, arith}
use Rattle.bpf_races.specs.Touch.{AreAtOdds}
use Rattle.bpf_races.proofs.Clashing.{no_access, at_read, access_begins, access_ends, access_goes_on}
use Rattle.bpf_races.proofs.clash.push_of_one.Goals as goal

pub loop-k-init : goal.loop-k-init
loop-k-init c = access_begins c.args.sync.now (AreAtOdds c.args.first) c.args.seconds.now c.args.bytes.now.items

pub loop-k-preserved : goal.loop-k-preserved
loop-k-preserved c =
    let xs = c.args.seconds.now in
    access_goes_on c.args.sync.now (AreAtOdds c.args.first) xs c.loop-k.k (get_or xs c.loop-k.k no_access) c.args.bytes.now.items
    c.loop-k.bytes.items c.push_of_two.new.bytes.items (at_read xs c.loop-k.k (omega arith)) c.loop-k.invariant c.in_ok-push_of_two.ensures

pub returns : goal.returns
returns c = access_ends c.args.sync.now (AreAtOdds c.args.first) c.args.seconds.now c.loop-k.k c.args.bytes.now.items c.loop-k.bytes.items
    (omega arith) c.loop-k.invariant
