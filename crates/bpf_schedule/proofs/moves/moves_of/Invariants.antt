use Rattle.std.proofs.Common.{map, take}
use Rattle.bpf_schedule.specs.Moves.{SpellMoves}
use Rattle.bpf_schedule.proofs.moves.moves_of.Given as goal

abbrev pub invariant-loop-word : goal.invariant-loop-word
invariant-loop-word l = SpellMoves (map (λ f. f.now) (take l.word-index l.words)) l.moves.items
