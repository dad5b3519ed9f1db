use denote.Shadow.{shadow}
use denote.Text.{Utf8}
use Rattle.bpf_advice.proofs.finding.finding_in.Given as goal

-- the word before is text
abbrev pub invariant-loop-word : goal.invariant-loop-word
invariant-loop-word l = shadow (Utf8 l.before)
