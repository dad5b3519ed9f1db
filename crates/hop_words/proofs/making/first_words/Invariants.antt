use Rattle.std.specs.Prelude.{◌≡◌, length}
use Rattle.hop_layout.specs.Layout.{mem, size}
use Rattle.hop_words.specs.Private.Made.{IsPartly}
use Rattle.hop_words.proofs.making.first_words.Given as goal

abbrev pub invariant-runs : goal.invariant-runs
invariant-runs l = (length l.words.items ≡ size l.fn.index.shape) × IsPartly l.fn.index (mem l.fn.index.shape l.words.items) l.cpu 0 0 0

abbrev pub invariant-maps : goal.invariant-maps
invariant-maps l = (length l.words.items ≡ size l.fn.index.shape) × IsPartly l.fn.index (mem l.fn.index.shape l.words.items) l.fn.index.shape.cpus l.map 0 0
