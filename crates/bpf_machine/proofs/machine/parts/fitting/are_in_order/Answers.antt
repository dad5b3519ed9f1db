use Rattle.std.proofs.Common.{◌≡◌, ◌<◌, ℕ, inl, inr, refl, sym, subst, arith}
use Rattle.std.proofs.lemmas.Bool.{cases_lt}
use Rattle.bpf_machine.specs.Parts.{chosen_at}
use Rattle.bpf_machine.specs.Private.Standing.{Follows}
use Rattle.bpf_machine.proofs.machine.parts.fitting.are_in_order.Goals as goal

pub loop-first-preserved : goal.loop-first-preserved
loop-first-preserved c j k l less inside =
    let first = c.loop-first.first in
    elim (cases_lt j first) [
      | inl below ↦ c.loop-first.invariant j k below less inside
      | inr past ↦
          let same : j ≡ first = omega arith in
          let behind : first < k = omega arith in
          subst (λ (n : ℕ). Follows (chosen_at c.args.parts.now c.args.numbers.now n) (chosen_at c.args.parts.now c.args.numbers.now k))
          (sym same) (c.if-not-all_follow.ensures.0 refl k behind inside)
    ]
