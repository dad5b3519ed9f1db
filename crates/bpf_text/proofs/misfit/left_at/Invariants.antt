use Rattle.std.proofs.Common.{map, take}
use Rattle.bpf_text.specs.Symbols.{names_in}
use Rattle.bpf_text.specs.Misfit.{GoesOnWith}
use Rattle.bpf_text.specs.Private.Look.{look}
use Rattle.bpf_text.proofs.misfit.left_at.Given as goal

abbrev pub invariant-loop-n : goal.invariant-loop-n
invariant-loop-n l = GoesOnWith (names_in l.symbols) (take l.n (map look l.tokens))
