use Rattle.std.proofs.Common.{ℕ, ◌+◌, ap, sym, ◌∙◌, arith}
use Rattle.bpf_pairs.specs.declared.pairs.Pair.{Pair}
use Rattle.bpf_pairs.proofs.Counting.{one_of_its, one_of_others}
use Rattle.bpf_pairs.proofs.pairs.count_in.Goals as goal
use Rattle.bpf_pairs.proofs.pairs.count_in.Goals.{then-pair-number, else-pair-number}

pub loop-pair-preserved : goal.loop-pair-preserved
loop-pair-preserved c =
    let i = c.loop-pair.invariant in
    let b = i.1 in
    elim c.if-pair-number.branch [
      | then-pair-number w ↦ (
        w.count-is ∙ ap (λ (n : ℕ). n + 1) i.0 ∙ sym (one_of_its c.args.pairs.now c.loop-pair.pair-index c.pair-item.result
            c.loop-pair-test.true c.args.number (ap (λ (p : Pair). p.map) (sym c.pair-item.is) ∙ w.if-pair-number.true)),
        let e = w.count-is in omega arith,
      )
      | else-pair-number w ↦ (
        w.count-is ∙ i.0 ∙ sym (one_of_others c.args.pairs.now c.loop-pair.pair-index c.pair-item.result c.loop-pair-test.true c.args.number
            (λ same. w.if-pair-number.false (ap (λ (p : Pair). p.map) c.pair-item.is ∙ same))),
        let e = w.count-is in omega arith,
      )
    ]
