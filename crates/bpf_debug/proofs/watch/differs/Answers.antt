use Rattle.std.proofs.Common.{◌≡◌, ◌∙◌, ℕ, arith, subst, sym}
use Rattle.bpf_debug.specs.Watch.{copies_of, kept_values, values_of, watched}
use Rattle.bpf_debug.proofs.WatchLaws.{all_agree, one_agrees, one_differs, size_differs}
use Rattle.bpf_debug.proofs.watch.differs.Goals as goal

pub returns-then-before-copies-clause-changed : goal.returns-then-before-copies-clause-changed
returns-then-before-copies-clause-changed c = λ e s sound stands same.
    size_differs (watched c.args.watch.now) s c.args.before.now (copies_of (watched c.args.watch.now))
    (λ size. let sized = c.copies.ensures in c.if-before-copies.true (omega (arith, size, sized))) same

pub loop-cpu-preserved : goal.loop-cpu-preserved
loop-cpu-preserved c =
    let size = c.if-before-copies.false in
    let first = c.copies.ensures in
    let last = c.copies-cpu-end.ensures in
    let less = c.loop-cpu-test.true in
    one_agrees c.args.store.now (watched c.args.watch.now) c.args.before.now c.loop-cpu.cpu c.index-before-cpu.result
    (omega (arith, size, first, last, less)) c.index-before-cpu.is
    (λ s sound stands. c.value_at.ensures s sound stands ∙ c.is_same.ensures.same c.if-not-is_same.false) c.loop-cpu.invariant

pub returns-then-not-is_same-clause-changed : goal.returns-then-not-is_same-clause-changed
returns-then-not-is_same-clause-changed c = λ e s sound stands same.
    let size = c.if-before-copies.false in
    let first = c.copies.ensures in
    let last = c.copies-cpu-end.ensures in
    let less = c.loop-cpu-test.true in
    one_differs (watched c.args.watch.now) s c.args.before.now (copies_of (watched c.args.watch.now)) c.loop-cpu.cpu
    c.index-before-cpu.result (omega (arith, last, less)) (omega (arith, size, first, last, less)) c.index-before-cpu.is
    (λ alike. c.is_same.ensures.other c.if-not-is_same.true (sym (c.value_at.ensures s sound stands) ∙ alike)) same

pub returns-clause-same : goal.returns-clause-same
returns-clause-same c = λ e s sound stands.
    let size = c.if-before-copies.false in
    let first = c.copies.ensures in
    let last = c.copies-cpu-end.ensures in
    let all : c.loop-cpu.cpu ≡ copies_of (watched c.args.watch.now) = omega (arith, c.loop-cpu-test.false, c.loop-cpu.auto.cpu-end, last) in
    subst (λ (n : ℕ). values_of (watched c.args.watch.now) s n ≡ kept_values c.args.before.now) all
    (all_agree c.args.store.now (watched c.args.watch.now) c.args.before.now c.loop-cpu.cpu (omega (arith, size, first, all))
    c.loop-cpu.invariant s sound stands)
