use Rattle.bpf_races.proofs.ExchangingLaws.{equal_grows, equal_listed}
use Rattle.bpf_races.proofs.exchanging.add_if_equal.Goals as goal

pub returns-clause-listed : goal.returns-clause-listed
returns-clause-listed c =
    equal_listed c.races_are_exchanged.ensures c.args.peers.now c.args.jobs.0 c.args.jobs.1 _ _ c.requires.less c.requires.within c.if-one-other.false
    c.args.race.now c.in_ok-exchanged.exchanged c.args.races.now.items c.add_race.new.races.items c.requires.among c.in_ok-exchanged.ensures
    c.in_ok-add_race.ensures

pub returns-clause-grows : goal.returns-clause-grows
returns-clause-grows c =
    equal_grows c.races_are_exchanged.ensures c.args.peers.now c.args.jobs.0 c.args.jobs.1 _ _ c.requires.less c.requires.within c.if-one-other.false
    c.args.race.now c.in_ok-exchanged.exchanged c.args.races.now.items c.add_race.new.races.items c.requires.among c.in_ok-exchanged.ensures
    c.in_ok-add_race.ensures
