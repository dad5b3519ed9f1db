use Rattle.hop_words.proofs.Counts.{see_count_misflagged}
use Rattle.hop_words.proofs.lane.Lane.see_count_misflagged.Goals as goal

pub load_by-requires-clause-step : goal.load_by-requires-clause-step
load_by-requires-clause-step c = see_count_misflagged c.args.table.now.about c.args.self.now.known c.args.map c.args.request.now.key.now
    c.args.request.now.value.now c.args.request.now.flags c.requires.misflagged
