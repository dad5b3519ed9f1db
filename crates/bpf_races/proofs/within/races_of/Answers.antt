use Rattle.std.proofs.Common.{List, arith, sym, subst}
use Rattle.bpf_races.specs.Races.{RaceFound}
use Rattle.bpf_races.specs.Private.Within.{UpTo}
use Rattle.bpf_races.proofs.WithinLaws.{all_passed, none_yet}
use Rattle.bpf_races.proofs.within.races_of.Goals as goal

pub loop-cpu-init : goal.loop-cpu-init
loop-cpu-init c =
    let m = c.args.situation.now.machine.now in
    subst (λ (xs : List RaceFound). UpTo m c.args.situation.now.sync.now c.args.situation.now.nexts.now 0 0 xs) (sym c.new-races.ensures.items)
    (none_yet m c.args.situation.now.sync.now c.args.situation.now.nexts.now)

pub returns : goal.returns
returns c = all_passed c.args.situation.now.machine.now c.args.situation.now.sync.now c.args.situation.now.nexts.now c.loop-cpu.cpu
    c.loop-cpu.races.items (omega arith) c.requires c.loop-cpu.invariant
