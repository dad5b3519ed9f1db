use Rattle.std.proofs.Common.{◌≡◌, take, length}
use Rattle.bpf_mem.specs.Saved.{words_of}
use Rattle.bpf_mem.proofs.frames.saving.words_of.Given as goal

abbrev pub invariant-loop-i : goal.invariant-loop-i
invariant-loop-i l = (length l.words ≡ 64) × (take l.i l.words ≡ words_of l.i l.frame)
