use Rattle.std.proofs.Common.{◌≡◌, ℕ, ◌+◌, ◌<◌, ◌⊎◌, true, inl, inr, refl, sym, arith}
use borrow.Author.Count.{below_more}
use Rattle.bpf_helpers.specs.Arrays.{IsInArray, array_start}
use Rattle.bpf_helpers.specs.Held.{reaches}
use Rattle.bpf_helpers.proofs.Reaching.{covered_reached, value_address}
use Rattle.bpf_helpers.proofs.reading.are_reached.Goals as goal

pub returns-then-covers-clause-are : goal.returns-then-covers-clause-are
returns-then-covers-clause-are g c = (
  λ t k l. inl (covered_reached c.args.held.now c.args.at c.args.count k (sym c.if-covers.ensures) l),
  λ are. refl,
)

pub returns-then-covers-clause-low : goal.returns-then-covers-clause-low
returns-then-covers-clause-low g c = λ t.
    let first : reaches c.args.held.now (c.args.at + 0) ≡ true = covered_reached c.args.held.now c.args.at c.args.count 0
    (sym c.if-covers.ensures) (let some = c.requires.some in omega arith) in
    let low = value_address c.args.held.now (c.args.at + 0) c.requires.values first in
    omega arith

pub returns-then-is_in_array-clause-are : goal.returns-then-is_in_array-clause-are
returns-then-is_in_array-clause-are g c = (λ t k l. inr (c.if-is_in_array.ensures.each refl k l), λ are. refl)

pub loop-k-preserved : goal.loop-k-preserved
loop-k-preserved g c =
    let old = c.loop-k.invariant in
    let at = c.args.at in
    let P : ℕ → Type 0 = λ j. (reaches c.args.held.now (at + j) ≡ true) ⊎ IsInArray (g.S.Shared.shapes c.args.shared.now) (at + j) 1 in
    let Q : ℕ → Type 0 = λ j. at + j < array_start 16 in
    let yes = c.if-not-is_reached.false in
    record {
      reached = below_more P c.loop-k.k old.reached (c.is_reached.ensures.is.0 yes);
      low = below_more Q c.loop-k.k old.low (c.is_reached.ensures.low yes);
    }
