use Rattle.std.proofs.Common.{◌∙◌, ◌++◌, List, ap}
use Rattle.bpf_buffering.specs.declared.waiting.Stored.{Stored}
use Rattle.bpf_buffer_expand.specs.Saved.{buffer_saved}
use Rattle.bpf_buffer_expand.proofs.Telling.{buffers_more}
use Rattle.bpf_buffer_expand.proofs.buffers.save_buffers.Goals as goal

pub loop-buffer-preserved : goal.loop-buffer-preserved
loop-buffer-preserved c =
    buffers_more c.args.out.now.items c.loop-buffer.out.items c.save_buffer.new.out.items c.args.buffers.now c.loop-buffer.buffer-index
    c.buffer-item.result c.loop-buffer-test.true c.buffer-item.is c.loop-buffer.invariant
    (c.in_ok-save_buffer.ensures ∙ ap (λ (l : List Stored). c.loop-buffer.out.items ++ buffer_saved l) c.deref.ensures.value)
