use Rattle.std.proofs.Common.{◌≡◌, ℕ, ◌+◌, ◌-◌, ◌≤◌, false, length, take, drop, get_or, inl, inr, sym, ap, ◌∙◌, arith, length-drop}
use Rattle.std.proofs.lemmas.Bool.{cases_lt}
use Rattle.std.proofs.lemmas.List.{get_or-take, get_or-drop, length-take-le}
use Rattle.bpf_hash.proofs.marks.past_marked.Goals as goal

pub loop-first-preserved : goal.loop-first-preserved
loop-first-preserved c =
    let f : ℕ = c.loop-first.first in
    let xs = c.args.marks.now in
    let fits : f + 32 ≤ length xs = omega arith in
    let long : length (take (f + 32 - f) (drop f xs)) ≡ f + 32 - f = length-take-le (f + 32 - f) (drop f xs) (omega (arith, length-drop f xs)) in
    record {
      further = omega (arith, c.loop-first.invariant.further);
      marked = λ i l m. elim (cases_lt i f) [
        | inl k ↦ c.loop-first.invariant.marked i l k
        | inr k ↦
            sym (get_or-take (f + 32 - f) (drop f xs) (i - f) false (omega arith)
            ∙ (get_or-drop f xs (i - f) false ∙ ap (λ (n : ℕ). get_or xs n false) (let e : f + (i - f) ≡ i = omega arith in e)))
            ∙ c.are_all.ensures c.if-are_all.true (i - f) (omega (arith, long))
      ];
    }
