use Rattle.std.proofs.Common.{◌≡◌, ◌+◌, length, arith}
use Rattle.bpf_debug.proofs.CourseLaws.{last_longer, one_run_more, other_cpu, is_full}
use Rattle.bpf_debug.proofs.course.lengthen_last.Goals as goal

pub returns-then-last-cpu-clause-no : goal.returns-then-last-cpu-clause-no
returns-then-last-cpu-clause-no c =
    let at : c.in-Some.place + 1 ≡ length c.args.runs.now.items = omega (arith, c.in-Some.ensures, c.len.ensures) in
    one_run_more c.args.runs.now.items c.index-last.result.now c.args.cpu c.in-Some.place at c.index-last.ensures
    (other_cpu c.index-last.result.now c.args.cpu c.if-last-cpu.true)

pub returns-then-last-ge-MOST_TURNS-clause-no : goal.returns-then-last-ge-MOST_TURNS-clause-no
returns-then-last-ge-MOST_TURNS-clause-no c =
    let at : c.in-Some.place + 1 ≡ length c.args.runs.now.items = omega (arith, c.in-Some.ensures, c.len.ensures) in
    one_run_more c.args.runs.now.items c.index-last.result.now c.args.cpu c.in-Some.place at c.index-last.ensures
    (is_full c.index-last.result.now c.args.cpu c.if-last-cpu.false c.if-last-ge-MOST_TURNS.true)

pub returns-clause-yes : goal.returns-clause-yes
returns-clause-yes c =
    let at : c.in-Some.place + 1 ≡ length c.args.runs.now.items = omega (arith, c.in-Some.ensures, c.len.ensures) in
    last_longer c.args.runs.now.items c.index-last.result.now c.args.cpu c.in-Some.place at c.index-last.ensures c.if-last-cpu.false
    c.if-last-ge-MOST_TURNS.false
