use Rattle.std.proofs.Common.{ℕ, ◌+◌, List, drop, get_or, replicate, subst, sym}
use Rattle.bpf_machine.specs.Schedule.{unrolled}
use Rattle.bpf_debug.specs.Course.{KeepsOn}
use Rattle.bpf_debug.proofs.CourseLaws.{keeps_none, keeps_more, run_next, none_left}
use Rattle.bpf_debug.proofs.course.Course.add_runs.Goals as goal

pub loop-run-init : goal.loop-run-init
loop-run-init c end keeps = keeps

pub loop-run-preserved : goal.loop-run-preserved
loop-run-preserved c end keeps =
    let runs = c.args.runs.now in
    let at = c.loop-run.run-index in
    let run = get_or runs at (0, 0) in
    let now = c.add_times.new.self in
    let K : List (ℕ × ℕ) → Type 0 = λ rs. KeepsOn c.loop-run.self (unrolled rs) end in
    c.loop-run.invariant end (subst K (sym (run_next runs at c.loop-run-test.true))
    (keeps_more c.loop-run.self now end (replicate run.1 run.0) (unrolled (drop (at + 1) runs)) c.add_times.ensures keeps))

pub returns : goal.returns
returns c =
    let runs = c.args.runs.now in
    let at = c.loop-run.run-index in
    let K : List (ℕ × ℕ) → Type 0 = λ rs. KeepsOn c.loop-run.self (unrolled rs) c.loop-run.self in
    c.loop-run.invariant c.loop-run.self (subst K (sym (none_left runs at c.loop-run-test.false)) (keeps_none c.loop-run.self))
