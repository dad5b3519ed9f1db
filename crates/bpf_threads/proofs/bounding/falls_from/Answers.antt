use Rattle.std.proofs.Common.{◌∙◌, ℕ, ap, subst}
use Rattle.bpf_loader.proofs.DeterminedPlaces.{one_instruction_begins}
use Rattle.bpf_threads.specs.Counting.{FallsBy, weight}
use Rattle.bpf_threads.proofs.bounding.falls_from.Goals as goal

pub returns : goal.returns
returns c t insn begins =
    let same = one_instruction_begins c.args.program.now.instructions c.args.spot.now.pc c.instruction_at.result.now insn
    c.instruction_at.ensures.begins begins in
    let own = c.weight-own.ensures.weight ∙ ap (weight c.args.counted c.args.spot.now) same in
    subst (λ (k : ℕ). FallsBy c.args.spot.now c.args.most.now k c.args.number) own (c.falls_by.ensures t)
