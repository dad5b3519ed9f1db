use Rattle.std.specs.Prelude.{◌≡◌, ◌<◌, ℕ, length}
use Rattle.bpf_shared.specs.Shape.{contents_of}
use Rattle.hop_layout.specs.Layout.{mem, size}
use Rattle.hop_layout.specs.Words.{AreBytes}
use Rattle.hop_words.specs.Private.Made.{IsFilled}
use Rattle.hop_words.proofs.making.put_arrays.Given as goal

abbrev pub invariant-arrays : goal.invariant-arrays
invariant-arrays l = (length l.words.items ≡ size l.fn.index.shape) × IsFilled l.fn.index (mem l.fn.index.shape l.words.items) l.array 0 ×
    ((b : ℕ) → b < l.array → AreBytes (contents_of l.fn.index.shape b))
