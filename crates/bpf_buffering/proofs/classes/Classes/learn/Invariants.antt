use Rattle.std.proofs.Common.{◌≡◌}
use Rattle.bpf_buffering.proofs.classes.Classes.learn.Given as goal

-- the tables stay
abbrev pub invariant-loop-number : goal.invariant-loop-number
invariant-loop-number l = l.self-inside.tables.items ≡ l.fn.self
