use Rattle.std.proofs.Common.{◌≡◌, ℕ, ◌+◌, ◌%◌, [], ◌∷◌, ap, arith, rules}
use Rattle.hop_seg.specs.Words.{Words}
use Rattle.hop_seg.specs.Content.{HasPair}
use Rattle.hop_seg.specs.Plain.{plain_words}
use Rattle.hop_seg.proofs.Placing.{unique}
use Rattle.hop_seg.proofs.tests.swap.Goals as goal

-- if it were linked, the key would have two elements
pub replace-requires-clause-fresh : goal.replace-requires-clause-fresh
replace-requires-clause-fresh c l =
    let w : Words = plain_words c.found.new.words in
    let e : ℕ = c.args.element in
    let n : ℕ = (e + 128) % 256 in
    let keyed : n % 128 ≡ e % 128 = omega arith in
    let new : HasPair w ((e % 128) ∷ []) n = record { keyed = ap (λ (k : ℕ). k ∷ []) keyed; linked = l } in
    let old : HasPair w ((e % 128) ∷ []) e = search rules in
    let same : n ≡ e = unique w c.found.ensures.sound ((e % 128) ∷ []) n e new old in
    absurd (omega arith)
