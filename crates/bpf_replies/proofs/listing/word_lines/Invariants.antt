use Rattle.std.proofs.Common.{◌≡◌}
use Rattle.std.specs.Prelude.{string_bytes}
use Rattle.bpf_replies.specs.Listing.{word_lines}
use Rattle.bpf_replies.proofs.listing.word_lines.Given as goal

abbrev pub invariant-loop-word : goal.invariant-loop-word
invariant-loop-word l = string_bytes l.text ≡ word_lines l.word l.bytes
