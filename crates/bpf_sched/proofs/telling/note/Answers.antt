use Rattle.std.proofs.Common.{◌+◌, arith}
use Rattle.bpf_sched.proofs.Noting.{has_next, moved, noted_one, noted_none}
use Rattle.bpf_sched.proofs.telling.note.Goals as goal
use Rattle.bpf_sched.proofs.telling.note.Goals.{then-jobs-place+else-prove, else-jobs-place}

pub prove-unreachable-requires : goal.prove-unreachable-requires
prove-unreachable-requires c =
    let there = has_next c.args.cpu c.args.jobs.now c.args.work.now c.args.ends.now c.loop-place.place c.loop-place.next c.loop-place.ends
    c.loop-place.invariant c.index-jobs-place.result c.loop-place-test.true c.requires.room c.requires.work c.if-jobs-place.true in
    grind arith

pub loop-place-preserved : goal.loop-place-preserved
loop-place-preserved c =
    let jobs = c.args.jobs.now in
    let work = c.args.work.now in
    let first = c.args.ends.now in
    let l = c.loop-place in
    let job = c.index-jobs-place.result in
    let inside = c.loop-place-test.true in
    elim c.if-jobs-place.branch [
      | then-jobs-place+else-prove w ↦ moved c.args.cpu jobs work first (l.place + 1) w.next-is w.ends-is
          (noted_one c.args.cpu jobs work first l.place l.next l.ends l.invariant job inside c.requires.room c.requires.work
          w.index-work-next.result w.if-jobs-place.true)
      | else-jobs-place w ↦ moved c.args.cpu jobs work first (l.place + 1) w.next-is w.ends-is
          (noted_none c.args.cpu jobs work first l.place l.next l.ends l.invariant job inside c.requires.room c.requires.work w.if-jobs-place.false)
    ]
