use Rattle.std.proofs.Common.{inl}
use Rattle.hop_bench.proofs.Held.{found_held, first_word}
use Rattle.hop_bench.proofs.calls.look.Goals as goal

pub value_load-requires-clause-place : goal.value_load-requires-clause-place
value_load-requires-clause-place g c =
    inl (first_word c.lookup.new.self c.in-Some.span c.in-Some-word_in.at.at
    (found_held _ _ _ _ _ _ c.in-Some.span c.lookup.ensures.found c.in-Some.is)
    c.in-Some-word_in.ensures)

pub atomic_word-requires-clause-place : goal.atomic_word-requires-clause-place
atomic_word-requires-clause-place g c =
    inl (first_word c.lookup.new.self c.in-Some.span c.in-Some-word_in.at.at
    (found_held _ _ _ _ _ _ c.in-Some.span c.lookup.ensures.found c.in-Some.is)
    c.in-Some-word_in.ensures)
