use Rattle.std.proofs.Common.{subst}
use Rattle.bpf_loader.proofs.DeterminedPlaces.{one_instruction_begins}
use Rattle.bpf_threads.specs.Private.Outside.{ReadsOutsideAt}
use Rattle.bpf_threads.proofs.outside.spot_reads_outside.Goals as goal

pub returns : goal.returns
returns c t insn begins =
    let same = one_instruction_begins c.args.program.now.instructions c.args.spot.now.pc c.instruction_at.result.now insn
    c.instruction_at.ensures.begins begins in
    subst (ReadsOutsideAt c.args.arrays.now c.args.spot.now) same (c.reads_outside.ensures t)
