use Rattle.std.proofs.Common.{subst}
use Rattle.bpf_insn.specs.declared.instruction.Insn.{Insn}
use Rattle.bpf_live.specs.Private.Needs.{HasNeeded}
use Rattle.bpf_live.proofs.finding.is_right_at.Goals as goal

pub returns : goal.returns
returns c = λ e i begins.
    let one = c.one_instruction_begins.ensures c.args.program.now.instructions c.args.pc c.instruction_at.result.now i c.instruction_at.ensures.begins begins in
    let P : Insn → Type 0 = HasNeeded c.args.sets.now c.args.calls c.args.pc in
    subst P one (c.has_needed.ensures e)
