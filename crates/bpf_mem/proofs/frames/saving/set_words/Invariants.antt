use Rattle.std.proofs.Common.{◌≡◌, ◌*◌, take, length}
use Rattle.std.specs.List.{flat_map}
use Rattle.bpf_mem.specs.Saved.{word_bytes}
use Rattle.bpf_mem.proofs.frames.saving.set_words.Given as goal

abbrev pub invariant-loop-i : goal.invariant-loop-i
invariant-loop-i l = (length l.frame ≡ 512) × (take (8 * l.i) l.frame ≡ flat_map word_bytes (take l.i l.words))
