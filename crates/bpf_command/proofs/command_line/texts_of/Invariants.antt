use Rattle.std.proofs.Common.{◌≡◌, ℕ, List, map, take}
use Rattle.bpf_command.proofs.command_line.texts_of.Given as goal
use denote.Ref.{Bor}

abbrev pub invariant-loop-word : goal.invariant-loop-word
invariant-loop-word g l = map (λ (w : Bor (List ℕ)). w.now) l.texts.items ≡ map g.S.AsStr.text (take l.word-index l.words)
