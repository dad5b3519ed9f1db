use Rattle.std.proofs.Common.{◌≡◌, ◌++◌, map, drop}
use Rattle.bpf_text.specs.Misfit.{with_numbers, zeroed}
use Rattle.bpf_text.specs.Private.Look.{look}
use Rattle.bpf_text.proofs.misfit.with_numbers.Given as goal

abbrev pub invariant-loop-token : goal.invariant-loop-token
invariant-loop-token l = map look l.made.items ++ map zeroed (map look (drop l.token-index l.others)) ≡ with_numbers l.count (map look l.tokens)
