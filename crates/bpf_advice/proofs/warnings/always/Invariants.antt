use denote.Shadow.{shadow}
use denote.Text.{Utf8}
use Rattle.bpf_advice.proofs.warnings.always.Given as goal

-- the words before are text
abbrev pub invariant-loop-word : goal.invariant-loop-word
invariant-loop-word l =
    (goal.iterator-loop-word).can_next l.word-iterator ×
    (goal.iterator-loop-word).is_finite l.word-iterator ×
    (shadow (Utf8 l.before) × shadow (Utf8 l.sign))
