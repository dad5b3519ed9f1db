use Rattle.std.proofs.Common.{map}
use Rattle.bpf_file.proofs.Puts.{AreLeft}
use Rattle.bpf_file.proofs.putting.bytes_of.Given as goal

abbrev pub invariant-loop-word : goal.invariant-loop-word
invariant-loop-word l = AreLeft l.size (map (λ w. w.now) l.words) l.bytes.items l.word-index
