use Rattle.bpf_explore.proofs.AlbumLaws.{fits_after}
use Rattle.bpf_explore.proofs.ScoutLaws.{leads_as}
use Rattle.bpf_explore.proofs.scouts.make_turn.Goals as goal

pub returns-clause-turned : goal.returns-clause-turned
returns-clause-turned c =
    let turns = c.turn_ahead-made.ensures in
    record {
      old = c.look.new.machine;
      mid = c.turn_ahead-made.new.self;
      at = c.in_ok-look.ensures.ok;
      leads = leads_as c.look.new.machine c.turn_ahead-made.new.self c.args.cpu c.turn_ahead-made.result c.in_ok-ahead.ahead c.in_ok-ahead.ensures
          turns.turns turns.ahead turns.runs;
      refilled = c.refill_in.ensures.refilled;
    }

pub returns-clause-fits : goal.returns-clause-fits
returns-clause-fits c =
    let stock = c.args.album.now.stock in
    c.refill_in.ensures.fits stock (fits_after stock c.look.new.machine c.turn_ahead-made.new.self c.turn_ahead-made.ensures.same c.look.ensures.fits)

pub returns-in_err-ahead-clause-fits : goal.returns-in_err-ahead-clause-fits
returns-in_err-ahead-clause-fits c =
    let stock = c.args.album.now.stock in
    c.refill_in.ensures.fits stock (fits_after stock c.look.new.machine c.turn_ahead-made.new.self c.turn_ahead-made.ensures.same c.look.ensures.fits)
