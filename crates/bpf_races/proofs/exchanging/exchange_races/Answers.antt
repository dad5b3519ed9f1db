use Rattle.std.proofs.Common.{◌∙◌, Some, List, [], length, sym, ap, subst, arith}
use Rattle.bpf_races.specs.Races.{RaceFound}
use Rattle.bpf_races.specs.Private.Exchanging.{CoversBelow, HaveExchangesBelow}
use Rattle.bpf_races.proofs.ExchangingLaws.{adds_closed, adds_within, all_closed, covers_none, covers_on, none_closed}
use Rattle.bpf_races.proofs.GatherLaws.{race_read}
use Rattle.bpf_races.proofs.exchanging.exchange_races.Goals as goal

pub loop-k-init : goal.loop-k-init
loop-k-init c =
    let peers = c.args.peers.now in
    let found = c.args.found.now in
    let none = sym c.new-races.ensures.items in
    record {
      all = ap (λ (rs : List RaceFound). length rs) none;
      closed = subst (λ (rs : List RaceFound). HaveExchangesBelow peers rs 0) none (none_closed peers []);
      covers = subst (λ (rs : List RaceFound). CoversBelow peers found rs 0) none (covers_none peers found);
    }

pub close_from-requires : goal.close_from-requires
close_from-requires c =
    let peers = c.args.peers.now in
    let old = c.loop-k.races.items in
    let mid = c.add_race.new.races.items in
    let adds = c.in_ok-add_race.ensures in
    record {
      within = omega (arith, c.loop-k.invariant.all, adds_within old mid c.in_ok-race.race adds);
      closed = adds_closed peers old mid c.in_ok-race.race c.loop-k.next c.loop-k.invariant.all adds c.loop-k.invariant.closed;
    }

pub loop-k-preserved : goal.loop-k-preserved
loop-k-preserved c =
    let peers = c.args.peers.now in
    let found = c.args.found.now in
    let old = c.loop-k.races.items in
    let mid = c.add_race.new.races.items in
    let new = c.close_from.new.races.items in
    let k = c.loop-k.k in
    let race = c.in_ok-race.race in
    let at = race_read found k c.index-found-k.result (omega arith) c.index-found-k.is ∙ ap Some (sym c.in_ok-race.ensures) in
    let step = c.in_ok-next.ensures in
    record {
      all = step.all;
      closed = step.closed;
      covers = covers_on peers found old mid new race k at c.in_ok-add_race.ensures step.grows c.loop-k.invariant.covers;
    }

pub returns-clause-closed : goal.returns-clause-closed
returns-clause-closed c =
    all_closed c.args.peers.now c.loop-k.races.items c.loop-k.next (omega (arith, c.loop-k.invariant.all)) c.loop-k.invariant.closed
