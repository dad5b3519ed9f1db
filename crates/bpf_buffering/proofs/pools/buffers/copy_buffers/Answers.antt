use Rattle.std.proofs.Common.{map, ap, ◌∙◌, List, ◌++◌, arith}
use Rattle.bpf_buffering.specs.declared.waiting.Stored.{Stored}
use Rattle.bpf_buffering.proofs.Copying.{next_copied, all_copied}
use Rattle.bpf_buffering.proofs.Waits.{items_of}
use Rattle.bpf_buffering.proofs.pools.buffers.copy_buffers.Goals as goal

pub loop-buffer-preserved : goal.loop-buffer-preserved
loop-buffer-preserved c =
    let own = c.in_ok-extend_from_slice.ensures.items ∙ ap (λ (l : List Stored). l ++ c.deref.result.now) c.in_ok-copy.ensures.items ∙ c.deref.ensures.value in
    ap (map items_of) c.in_ok-push.ensures.items ∙ next_copied items_of c.loop-buffer.copies.items c.args.buffers.now
    c.loop-buffer.buffer-index c.extend_from_slice.new.self c.buffer-item.result c.loop-buffer-test.true c.buffer-item.is own
    c.loop-buffer.invariant

pub returns : goal.returns
returns c = all_copied items_of c.loop-buffer.copies.items c.args.buffers.now c.loop-buffer.buffer-index (omega arith) c.loop-buffer.invariant
