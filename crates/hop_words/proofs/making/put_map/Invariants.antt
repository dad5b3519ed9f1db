use Rattle.std.specs.Prelude.{◌≡◌, length}
use Rattle.hop_layout.specs.Layout.{mem, size, free_words}
use Rattle.hop_words.specs.Ghost.{shape_at}
use Rattle.hop_words.specs.Private.Made.{IsPartly}
use Rattle.hop_words.proofs.making.put_map.Given as goal

abbrev pub invariant-bits : goal.invariant-bits
invariant-bits l = (length l.words.items ≡ size l.fn.index.shape) × IsPartly l.fn.index (mem l.fn.index.shape l.words.items)
    l.fn.index.shape.cpus l.fn.map l.word 0

abbrev pub invariant-stamps : goal.invariant-stamps
invariant-stamps l = (length l.words.items ≡ size l.fn.index.shape) × IsPartly l.fn.index (mem l.fn.index.shape l.words.items)
    l.fn.index.shape.cpus l.fn.map (free_words (shape_at l.fn.index l.fn.map)) l.segment
