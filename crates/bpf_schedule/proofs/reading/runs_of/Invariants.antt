use Rattle.std.proofs.Common.{map, take}
use Rattle.bpf_schedule.specs.Spelling.{SpellRuns}
use Rattle.bpf_schedule.proofs.reading.runs_of.Given as goal

abbrev pub invariant-loop-word : goal.invariant-loop-word
invariant-loop-word l = SpellRuns (map (λ f. f.now) (take l.word-index l.words)) l.runs.items
