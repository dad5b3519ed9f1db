use Rattle.std.proofs.Transfers.{starts_with_of_append}
use Rattle.bpf_mem.proofs.Fronts.{starts_more, starts_on}
use Rattle.bpf_mem.proofs.frames.Frames.save.Goals as goal

pub returns-clause-err : goal.returns-clause-err
returns-clause-err c =
    let old = c.args.out.now.items in
    let pushed = c.push.new.self.items in
    let mid = c.save_frames.new.out.items in
    starts_on c.save_callers.result c.save_callers.new.out.items mid old
    (starts_more mid pushed old _ c.in_ok-save_frames.ensures.ok (starts_with_of_append pushed old _ c.in_ok-push.ensures.items))
    c.save_callers.ensures.err
