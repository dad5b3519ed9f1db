use Rattle.std.proofs.Common.{◌≡◌, ◌++◌}
use Rattle.std.specs.Prelude.{string_bytes}
use Rattle.bpf_schedule.specs.Moves.{all_moves_text}
use Rattle.bpf_schedule.proofs.moves.push_moves.Given as goal

abbrev pub invariant-loop-made : goal.invariant-loop-made
invariant-loop-made l = string_bytes l.text ≡ string_bytes l.fn.text ++ all_moves_text l.made-index l.moves
