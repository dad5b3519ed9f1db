use Rattle.bpf_insn.specs.declared.instruction.Insn.TheVariants.{CallLocal}
use Rattle.bpf_live.proofs.finding.calls_at.Goals as goal

pub returns : goal.returns
returns c = λ e offset begins.
    c.is_call.ensures e offset (c.one_instruction_begins.ensures c.args.program.now.instructions c.args.pc c.instruction_at.result.now
    (CallLocal offset) c.instruction_at.ensures.begins begins)
