use Rattle.std.proofs.Common.{◌≡◌, [], length, refl, arith}
use Rattle.bpf_base.proofs.Lists.{same_elements}
use Rattle.bpf_mem.proofs.frames.same_frames.Goals as goal

pub returns : goal.returns
returns c =
    let frames = c.args.frames.now in
    let others = c.args.others.now in
    let size : length frames ≡ length others = omega arith in
    (λ is. same_elements [] frames others size (λ k less. c.loop-depth.invariant k (omega arith)), λ is. refl)
