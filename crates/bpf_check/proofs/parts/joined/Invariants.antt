use Rattle.std.proofs.Common.{◌≡◌, ◌++◌, map}
use Rattle.bpf_check.specs.Parts.{words_behind}
use Rattle.bpf_check.proofs.parts.joined.Given as goal

abbrev pub invariant-loop-word : goal.invariant-loop-word
invariant-loop-word l = l.line.items ≡ l.first ++ words_behind l.word-index (map (λ f. f.now) l.more)
