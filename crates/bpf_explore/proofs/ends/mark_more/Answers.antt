use Rattle.std.proofs.Common.{◌-◌, length, arith}
use Rattle.bpf_explore.proofs.MarkLaws.{next_counted, next_stuck_from, all_stuck}
use Rattle.bpf_explore.proofs.ends.mark_more.Goals as goal

pub loop-step-preserved : goal.loop-step-preserved
loop-step-preserved c =
    let inv = c.loop-step.invariant in
    let kept = c.args.explorer.now.kept in
    record {
      count = c.mark_at-marked.ensures.marks;
      lead = c.mark_at-marked.ensures.lead;
      counted = next_counted c.args.marks.now.items c.loop-step.marks.items c.mark_at-marked.new.marks.items c.loop-step.more
          c.mark_at-marked.result c.either-more.result inv.counted c.mark_at-marked.ensures.fewer c.mark_at-marked.ensures.same
          c.either-more.ensures.some;
      stuck = λ is. (let two = c.either-more.ensures.none is in next_stuck_from c.args.turns.now.peers.items kept c.loop-step.marks.items
          c.mark_at-marked.new.marks.items (length kept) c.loop-step.step (c.len-count.result - 1 - c.loop-step.step) (omega arith) (omega arith)
          (inv.stuck two.0) (c.mark_at-marked.ensures.same two.1) (c.mark_at-marked.ensures.stuck two.1));
    }

pub returns-clause-stuck : goal.returns-clause-stuck
returns-clause-stuck c is = all_stuck c.args.turns.now.peers.items c.args.explorer.now.kept c.loop-step.marks.items
    (length c.args.explorer.now.kept) c.loop-step.step
    (omega arith) (c.loop-step.invariant.stuck is)
