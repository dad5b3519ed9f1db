use Rattle.std.proofs.Common.{map, rules}
use Rattle.std.specs.Prelude.{string_bytes}
use Rattle.bpf_events.proofs.Told.{no_rounds, round_more}
use Rattle.bpf_events.proofs.telling.make_rounds.Goals as goal

pub loop-init : goal.loop-init
loop-init c = record { told = no_rounds (map string_bytes c.args.names.now) c.args.machine.now (string_bytes c.args.text.now); shape = c.requires.shape }

pub loop-preserved : goal.loop-preserved
loop-preserved c = record {
  told = round_more (map string_bytes c.args.names.now) c.args.machine.now c.loop.machine c.make_round.new.machine (string_bytes c.args.text.now)
      (string_bytes c.loop.text) (string_bytes c.make_round.new.text) c.loop.invariant.told c.in_ok-worked.ensures.told;
  shape = c.in_ok-worked.ensures.shape;
}

pub returns-then-not-worked-clause-told : goal.returns-then-not-worked-clause-told
returns-then-not-worked-clause-told c =
    round_more (map string_bytes c.args.names.now) c.args.machine.now c.loop.machine c.make_round.new.machine (string_bytes c.args.text.now)
    (string_bytes c.loop.text) (string_bytes c.make_round.new.text) c.loop.invariant.told c.in_ok-worked.ensures.told

pub returns-then-not-worked-clause-ended : goal.returns-then-not-worked-clause-ended
returns-then-not-worked-clause-ended c =
    let r = c.loop.invariant.told c.requires.shows.0 c.requires.shows.1 in
    c.in_ok-worked.ensures.ended (search rules) (r.0, r.3)
