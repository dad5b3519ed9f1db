use Rattle.std.proofs.Common.{take}
use Rattle.std.specs.List.{flat_map}
use Rattle.bpf_mem.specs.Saved.{caller_saved}
use Rattle.bpf_mem.proofs.Fronts.{still_starts}
use Rattle.bpf_mem.proofs.frames.saving.save_callers.Goals as goal

pub returns-in_err-save_caller-clause-err : goal.returns-in_err-save_caller-clause-err
returns-in_err-save_caller-clause-err c =
    let before = flat_map caller_saved (take c.loop-caller.caller-index c.args.callers.now) in
    still_starts c.from_residual.result c.args.out.now.items c.loop-caller.out.items c.save_caller.new.out.items before
    c.loop-caller.invariant c.in_err-save_caller.ensures.err
