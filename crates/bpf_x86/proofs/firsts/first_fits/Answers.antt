use Rattle.std.proofs.Common.{subst}
use Rattle.bpf_insn.specs.Encoding.{Fits}
use Rattle.bpf_x86.proofs.firsts.first_fits.Goals as goal

pub returns : goal.returns
returns c i begins = subst Fits (c.one_instruction_begins.ensures c.args.program.now.instructions 0 c.instruction_at.result.now i
    c.instruction_at.ensures.begins begins) c.fits.ensures
