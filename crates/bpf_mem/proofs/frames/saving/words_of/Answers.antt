use Rattle.std.proofs.Common.{refl, arith, length-set, ◌∙◌}
use Rattle.bpf_mem.specs.Saved.{words_of}
use Rattle.bpf_mem.proofs.FrameLemmas.{word_got}
use Rattle.bpf_mem.proofs.frames.saving.words_of.Goals as goal

pub loop-i-preserved : goal.loop-i-preserved
loop-i-preserved c =
    let size = c.loop-i.invariant.0 in (
      length-set c.loop-i.words c.loop-i.i c.load_double.result ∙ size,
      word_got c.args.frame.now c.loop-i.words c.loop-i.i
          c.load_double.result (omega arith) c.load_double.ensures c.loop-i.invariant.1,
    )

pub loop-i-init : goal.loop-i-init
unfolding words_of
loop-i-init c = (refl, refl)
