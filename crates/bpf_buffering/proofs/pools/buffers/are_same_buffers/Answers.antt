use Rattle.std.proofs.Common.{refl, sym, ◌∙◌, arith}
use Rattle.bpf_buffering.proofs.Copying.{next_same}
use Rattle.bpf_buffering.proofs.Waits.{items_of}
use Rattle.bpf_buffering.proofs.pools.buffers.are_same_buffers.Goals as goal

pub loop-cpu-preserved : goal.loop-cpu-preserved
loop-cpu-preserved c =
    let same = sym c.deref.ensures.value ∙ c.if-not-is_same_buffer.ensures refl ∙ c.deref-in-loop-cpu.ensures.value in
    next_same items_of c.args.one.now c.args.other.now c.loop-cpu.cpu c.index-one-cpu.result c.index-other-cpu.result (omega arith)
    (omega arith) c.index-one-cpu.is c.index-other-cpu.is same c.loop-cpu.invariant
