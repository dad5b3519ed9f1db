use Rattle.std.proofs.Common.{take_all, rules}
use Rattle.bpf_insn.proofs.Bytes.{written_none, written_next, written_all}
use Rattle.bpf_insn.proofs.encoder.encode.Goals as goal

pub loop-insn-init : goal.loop-insn-init
loop-insn-init c = written_none _ c.new-bytes.ensures.items

pub loop-insn-preserved : goal.loop-insn-preserved
loop-insn-preserved c =
    let written = c.push.ensures.ok in
    written_next _ _ _ _ _ c.loop-insn-test.true c.loop-insn.invariant (search rules) c.push.ensures.writable

pub returns-clause-encoded : goal.returns-clause-encoded
returns-clause-encoded c = written_all c.args.insns.now c.loop-insn.bytes.items c.loop-insn.insn-index (take_all _ _ c.loop-insn-test.false)
    c.loop-insn.invariant
