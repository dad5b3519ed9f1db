use Rattle.std.specs.Prelude.{◌≡◌, ◌<◌, ◌*◌, ◌/◌, length}
use Rattle.bpf_shared.specs.Shape.{contents_of, copy_stride}
use Rattle.hop_layout.specs.Layout.{mem, size}
use Rattle.hop_layout.specs.Words.{AreBytes}
use Rattle.hop_words.specs.Ghost.{array_at}
use Rattle.hop_words.specs.Private.Made.{IsFilled}
use Rattle.hop_words.proofs.making.put_array.Given as goal

abbrev pub invariant-copies : goal.invariant-copies
invariant-copies l = (length l.words.items ≡ size l.fn.index.shape) × IsFilled l.fn.index (mem l.fn.index.shape l.words.items) l.fn.array
    (l.copy * (copy_stride (array_at l.fn.index l.fn.array) / 8))
    × (0 < l.copy → AreBytes (contents_of l.fn.index.shape l.fn.array))
