use Rattle.std.specs.Prelude.{◌≡◌, ◌+◌, length}
use Rattle.hop_layout.specs.Layout.{mem, size}
use Rattle.hop_words.specs.Private.Made.{IsFilled}
use Rattle.hop_words.proofs.making.put_copy.Given as goal

abbrev pub invariant-words : goal.invariant-words
invariant-words l = (length l.words.items ≡ size l.fn.index.shape) × IsFilled l.fn.index (mem l.fn.index.shape l.words.items) l.fn.array (l.fn.first + l.word)
