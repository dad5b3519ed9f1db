use Rattle.std.proofs.Common.{◌≡◌, ◌+◌, ◌-◌, length, refl, arith}
use Rattle.std.specs.Prelude.{slice_set}
use Rattle.bpf_debug.proofs.CourseLaws.{drops_none, drops_one, drops_run}
use Rattle.bpf_debug.proofs.course.drop_turn.Goals as goal

pub returns-in_default : goal.returns-in_default
returns-in_default c =
    let none : length c.args.runs.now.items ≡ 0 = omega (arith, c.in_default.ensures, c.len.ensures) in
    drops_none c.args.runs.now.items c.args.runs.now.items 0 none

pub returns-then-last-gt1 : goal.returns-then-last-gt1
returns-then-last-gt1 c =
    let at : c.in-Some.place + 1 ≡ length c.args.runs.now.items = omega (arith, c.in-Some.ensures, c.len.ensures) in
    let last = c.index-last.result.now in
    drops_one c.args.runs.now.items (slice_set c.args.runs.now.items c.in-Some.place (last.0, last.1 - 1)) last c.in-Some.place at
    c.index-last.ensures c.if-last-gt1.true refl

pub returns-else-last-gt1 : goal.returns-else-last-gt1
returns-else-last-gt1 c =
    let at : c.in-Some.place + 1 ≡ length c.args.runs.now.items = omega (arith, c.in-Some.ensures, c.len.ensures) in
    drops_run c.args.runs.now.items c.truncate.new.self.items c.index-last.result.now c.in-Some.place at c.index-last.ensures
    (omega (arith, c.if-last-gt1.false)) c.truncate.ensures.items
