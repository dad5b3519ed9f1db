use Rattle.std.proofs.Common.{◌<◌, ◌≤◌, ◌+◌, ◌*◌, ◌∙◌, ap, take, length, get_or, refl, arith}
use Rattle.bpf_mem.proofs.FrameLemmas.{word_set}
use Rattle.bpf_mem.proofs.frames.saving.set_words.Goals as goal

pub loop-i-preserved : goal.loop-i-preserved
loop-i-preserved c =
    let size = c.loop-i.invariant.0 in
    let inside : c.loop-i.i < length c.args.words.now = omega (arith, c.told-words) in
    let fits : 8 * c.loop-i.i + 8 ≤ length c.loop-i.frame = omega (arith, size) in (
      omega (arith, c.store_double.auto.bytes, size),
      ap (take (8 * (c.loop-i.i + 1))) c.store_double.ensures ∙ word_set c.loop-i.frame
          c.args.words.now c.loop-i.i (get_or c.args.words.now c.loop-i.i 0) inside fits refl c.loop-i.invariant.1,
    )
