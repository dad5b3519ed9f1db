use Rattle.bpf_mem.proofs.WordReading.{AreLeft}
use Rattle.bpf_mem.proofs.words.read_words.Given as goal

abbrev pub invariant-loop-i : goal.invariant-loop-i
invariant-loop-i l = AreLeft l.bytes l.words l.i l.zeros l.rest
