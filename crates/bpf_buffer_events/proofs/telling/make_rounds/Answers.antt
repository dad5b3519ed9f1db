use Rattle.std.proofs.Common.{map, refl}
use Rattle.std.specs.Prelude.{string_bytes}
use Rattle.bpf_buffer_events.proofs.Joined.{last_round, not_begun, round_more}
use Rattle.bpf_buffer_events.proofs.telling.make_rounds.Goals as goal

pub loop-init : goal.loop-init
loop-init c = record { going = not_begun (map string_bytes c.args.names.now) c.args.scene.now; shape = c.requires }

pub loop-preserved : goal.loop-preserved
loop-preserved c = record {
  going = round_more (map string_bytes c.args.names.now) c.args.scene.now c.loop.scene c.make_round.new.scene (c.if-have_ended.ensures.open refl)
      c.loop.invariant.going c.in_ok-make_round.ensures.told;
  shape = c.in_ok-make_round.ensures.shape;
}

pub returns-then-have_ended : goal.returns-then-have_ended
returns-then-have_ended c = record {
  told = last_round (map string_bytes c.args.names.now) c.args.scene.now c.loop.scene (c.if-have_ended.ensures.ended refl) c.loop.invariant.going;
}
