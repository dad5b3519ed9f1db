use Rattle.bpf_insn.specs.declared.instruction.Insn.TheVariants.{CallHelper}
use Rattle.bpf_equal.proofs.finding.asks_at.Goals as goal

pub returns : goal.returns
returns c = λ e n begins.
    c.is_mark_call.ensures e n (c.one_instruction_begins.ensures c.args.program.now.instructions c.args.pc c.instruction_at.result.now
    (CallHelper n) c.instruction_at.ensures.begins begins)
