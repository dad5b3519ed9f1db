use Rattle.std.proofs.Common.{ap, map, subst, sym, arith}
use Rattle.std.specs.List.{AllByRecursion}
use Rattle.std.proofs.lemmas.List.{take_all}
use Rattle.bpf_buffering.proofs.Waits.{items_of}
use Rattle.bpf_buffer_expand.specs.Saved.{AreSavable}
use Rattle.bpf_buffer_expand.proofs.Each.{each_push}
use Rattle.bpf_buffer_expand.proofs.Telling.{items_more}
use Rattle.bpf_buffer_expand.proofs.buffers.are_savable.Goals as goal

pub loop-buffer-preserved : goal.loop-buffer-preserved
loop-buffer-preserved c =
    let is = subst AreSavable c.deref.ensures.value c.buffer_is_savable.ensures in
    subst (AllByRecursion AreSavable)
    (sym (items_more c.args.buffers.now c.loop-buffer.buffer-index c.buffer-item.result c.loop-buffer-test.true c.buffer-item.is))
    (each_push AreSavable _ _ c.loop-buffer.invariant is)

pub returns : goal.returns
returns c = subst (AllByRecursion AreSavable) (ap (map items_of) (take_all c.loop-buffer.buffer-index c.args.buffers.now (omega arith))) c.loop-buffer.invariant
