use Rattle.std.proofs.Common.{◌≡◌, ap, arith, subst, sym, ◌∙◌, List, Option}
use Rattle.std.specs.Prelude.{Vec, ℕ}
use Rattle.std.specs.declared.alloc.Global.{Global}
use Rattle.bpf_debug.specs.Watch.{copies_of, kept_values, values_of, watched}
use Rattle.bpf_debug.proofs.WatchLaws.{one_kept_more}
use Rattle.bpf_debug.proofs.watch.values.Goals as goal

pub loop-cpu-preserved : goal.loop-cpu-preserved
loop-cpu-preserved c = λ s sound stands.
    one_kept_more (watched c.args.watch.now) s c.loop-cpu.values.items c.loop-cpu.cpu c.in_ok-value.value
    (c.loop-cpu.invariant s sound stands) (c.in_ok-value.ensures s sound stands)
    ∙ ap (λ (vs : List (Option (Vec ℕ Global))). kept_values vs) (sym c.in_ok-push.ensures.items)

pub returns : goal.returns
returns c = λ s sound stands.
    let all : c.loop-cpu.cpu ≡ copies_of (watched c.args.watch.now) = omega (arith, c.loop-cpu-test.false, c.loop-cpu.auto.cpu-end, c.copies-cpu-end.ensures) in
    subst (λ (n : ℕ). values_of (watched c.args.watch.now) s n ≡ kept_values c.loop-cpu.values.items) all (c.loop-cpu.invariant s sound stands)
