use Rattle.std.proofs.Common.{◌+◌}
use Rattle.hop_words.specs.Kinds.{Removed}
use Rattle.hop_words.specs.Locking.{lock_of}
use Rattle.std.proofs.Common.{◌%◌, ◌^◌, ◌-◌}
use Rattle.hop_words.proofs.CountDown.{count_down}
use Rattle.hop_words.proofs.Locked.{at_count}
use Rattle.hop_words.proofs.lane.Lane.count_down.Goals as goal

pub add_by-requires-clause-step : goal.add_by-requires-clause-step
add_by-requires-clause-step c = at_count c.args.table.now.about c.args.self.now.known c.args.map (λ n. (n + (2 ^ 64 - 1)) % 2 ^ 64)
    (λ ws n l. Removed c.args.table.now.about c.args.self.now.known (lock_of c.args.self.now.known) c.args.key.now c.args.element l)
    c.requires.map (count_down c.args.table.now.about c.args.self.now.known (lock_of c.args.self.now.known) c.args.key.now c.args.element
    c.requires.removes)
