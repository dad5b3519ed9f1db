use Rattle.std.proofs.Common.{take}
use Rattle.std.specs.List.{flat_map}
use Rattle.bpf_mem.specs.Saved.{frame_saved}
use Rattle.bpf_mem.proofs.Fronts.{still_starts}
use Rattle.bpf_mem.proofs.frames.saving.save_frames.Goals as goal

pub returns-in_err-save_frame-clause-err : goal.returns-in_err-save_frame-clause-err
returns-in_err-save_frame-clause-err c =
    let before = flat_map frame_saved (take c.loop-frame.frame-index c.args.frames.now) in
    still_starts c.from_residual.result c.args.out.now.items c.loop-frame.out.items c.save_frame.new.out.items before c.loop-frame.invariant
    c.in_err-save_frame.ensures.err
