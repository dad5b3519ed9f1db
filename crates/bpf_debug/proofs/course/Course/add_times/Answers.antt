use Rattle.std.proofs.Common.{◌≡◌, ℕ, List, [], ◌∷◌, replicate, subst, arith}
use Rattle.std.proofs.lemmas.List.{replicate-append-replicate}
use Rattle.bpf_debug.specs.Course.{KeepsOn}
use Rattle.bpf_debug.proofs.CourseLaws.{keeps_none, keeps_more}
use Rattle.bpf_debug.proofs.course.Course.add_times.Goals as goal

pub loop-init : goal.loop-init
loop-init c = keeps_none c.args.self.now

pub loop-preserved : goal.loop-preserved
loop-preserved c =
    let before = replicate c.loop.counter c.args.cpu in
    let K : List ℕ → Type 0 = λ cs. KeepsOn c.args.self.now cs c.add.new.self in
    subst K (replicate-append-replicate c.loop.counter 1 c.args.cpu)
    (keeps_more c.args.self.now c.loop.self c.add.new.self before (c.args.cpu ∷ []) c.loop.invariant c.add.ensures)

pub returns : goal.returns
returns c =
    let last = c.loop-test.false in
    let end = c.loop.auto.counter-end in
    let same : c.loop.counter ≡ c.args.count = omega arith in
    let K : ℕ → Type 0 = λ n. KeepsOn c.args.self.now (replicate n c.args.cpu) c.loop.self in
    subst K same c.loop.invariant
