use Rattle.std.proofs.Common.{◌≡◌, ◌++◌, string_bytes}
use Rattle.bpf_explore.specs.Listing.{answers_text}
use Rattle.bpf_explore.proofs.listing.push_answers.Given as goal

abbrev pub invariant-loop-answer : goal.invariant-loop-answer
invariant-loop-answer l = string_bytes l.text ≡ string_bytes l.fn.text ++ answers_text l.answer-index l.answers
