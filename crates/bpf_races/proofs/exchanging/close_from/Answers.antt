use Rattle.std.proofs.Common.{◌≡◌, ◌∙◌, ℕ, Some, length, sym, ap, subst, arith}
use Rattle.bpf_races.specs.Private.Exchanging.{HaveExchangesBelow}
use Rattle.bpf_races.proofs.ExchangingLaws.{around_all, closed_on, grows_longer, grows_not, grows_on}
use Rattle.bpf_races.proofs.GatherLaws.{race_read}
use Rattle.bpf_races.proofs.exchanging.close_from.Goals as goal

pub loop-next-init : goal.loop-next-init
loop-next-init c = record {
  within = c.requires.within;
  closed = c.requires.closed;
  grows = grows_not c.args.peers.now c.args.races.now.items;
}

pub add_around-requires : goal.add_around-requires
add_around-requires c =
    let races = c.loop-next.races.items in
    let next = c.loop-next.next in
    (next, race_read races next c.index.result.now (omega (arith, c.len.ensures)) c.index.ensures ∙ ap Some (sym c.in_ok-race.ensures))

pub loop-next-preserved : goal.loop-next-preserved
loop-next-preserved c =
    let peers = c.args.peers.now in
    let mid = c.loop-next.races.items in
    let new = c.add_around.new.races.items in
    let next = c.loop-next.next in
    let race = c.in_ok-race.race in
    let at = race_read mid next c.index.result.now (omega (arith, c.len.ensures)) c.index.ensures ∙ ap Some (sym c.in_ok-race.ensures) in
    let step = c.in_ok-add_around.ensures in
    record {
      within = omega (arith, c.len.ensures, grows_longer peers mid new step.grows);
      closed = closed_on peers mid new race next (omega (arith, c.len.ensures)) step.grows at c.loop-next.invariant.closed
          (around_all peers new race (length peers) (omega arith) step.listed);
      grows = grows_on peers c.args.races.now.items mid new c.loop-next.invariant.grows step.grows;
    }

pub returns-clause-all : goal.returns-clause-all
returns-clause-all c = omega (arith, c.len.ensures, c.loop-next.invariant.within)
