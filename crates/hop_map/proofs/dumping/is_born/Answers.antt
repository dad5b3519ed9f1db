use Rattle.std.proofs.Common.{◌≡◌, ℕ, suc, ◌+◌, ◌-◌, ◌<◌, ◌≤◌, ap, sym, subst, ◌∙◌, arith}
use Rattle.hop_layout.specs.Births.{is_born}
use Rattle.hop_layout.specs.Layout.{depth, power}
use Rattle.hop_layout.proofs.Depths.{segments_are}
use Rattle.hop_words.specs.Depths.{stamp_depth}
use Rattle.hop_words.specs.Ghost.{shape_at}
use Rattle.hop_map.specs.Dumping.{rest_depths}
use Rattle.hop_map.proofs.Dumps.{bit_low, bit_high, bit_none}
use Rattle.hop_map.proofs.dumping.is_born.Goals as goal

pub bits-preserved-then-at-bit : goal.bits-preserved-then-at-bit
bits-preserved-then-at-bit c =
    let d = rest_depths c.args.rest.now c.args.map in
    let deepest = c.depth-deepest.result in
    let n = deepest - 1 - c.bits.passed in
    let o = is_born d (depth (shape_at c.args.rest.now.about c.args.map)) c.args.segment in
    let few : n ≤ 10 = (let z = c.depth-deepest.ensures.most in omega arith) in
    let p = segments_are n few in
    let up : deepest - c.bits.passed ≡ suc n = omega arith in
    let down : n ≡ deepest - (c.bits.passed + 1) = omega arith in
    let now : is_born d (suc n) c.bits.at ≡ o = subst (λ (i : ℕ). is_born d i c.bits.at ≡ o) up c.bits.invariant.born in
    let less : c.bits.at < power n = (let z = c.if-at-bit.true in omega arith) in
    record { inside = c.bits.invariant.inside; born = subst (λ (i : ℕ). is_born d i c.bits.at ≡ o) down (bit_low d n c.bits.at o now less) }

pub returns-then-stamp-bit : goal.returns-then-stamp-bit
returns-then-stamp-bit c =
    let d = rest_depths c.args.rest.now c.args.map in
    let deepest = c.depth-deepest.result in
    let n = deepest - 1 - c.bits.passed in
    let o = is_born d (depth (shape_at c.args.rest.now.about c.args.map)) c.args.segment in
    let few : n ≤ 10 = (let z = c.depth-deepest.ensures.most in omega arith) in
    let p = segments_are n few in
    let up : deepest - c.bits.passed ≡ suc n = omega arith in
    let down : n ≡ deepest - (c.bits.passed + 1) = omega arith in
    let now : is_born d (suc n) c.bits.at ≡ o = subst (λ (i : ℕ). is_born d i c.bits.at ≡ o) up c.bits.invariant.born in
    let g : power n ≤ c.bits.at = (let z = c.if-at-bit.false in omega arith) in
    let e : d (c.bits.at - power n) ≡ stamp_depth c.word-stamp.result = ap (λ (i : ℕ). d (c.bits.at - i)) (sym p) ∙ ap stamp_depth
    (sym c.word-stamp.ensures.word) in
    record { born = sym (bit_none d n c.bits.at g (let z = c.if-stamp-bit.true in omega arith)) ∙ now }

pub bits-preserved : goal.bits-preserved
bits-preserved c =
    let d = rest_depths c.args.rest.now c.args.map in
    let deepest = c.depth-deepest.result in
    let n = deepest - 1 - c.bits.passed in
    let o = is_born d (depth (shape_at c.args.rest.now.about c.args.map)) c.args.segment in
    let few : n ≤ 10 = (let z = c.depth-deepest.ensures.most in omega arith) in
    let p = segments_are n few in
    let up : deepest - c.bits.passed ≡ suc n = omega arith in
    let down : n ≡ deepest - (c.bits.passed + 1) = omega arith in
    let now : is_born d (suc n) c.bits.at ≡ o = subst (λ (i : ℕ). is_born d i c.bits.at ≡ o) up c.bits.invariant.born in
    let g : power n ≤ c.bits.at = (let z = c.if-at-bit.false in omega arith) in
    let e : d (c.bits.at - power n) ≡ stamp_depth c.word-stamp.result = ap (λ (i : ℕ). d (c.bits.at - i)) (sym p) ∙ ap stamp_depth
    (sym c.word-stamp.ensures.word) in
    let deep : n < d (c.bits.at - power n) = (let z = c.if-stamp-bit.false in omega arith) in
    record {
      inside = (let z = c.bits.invariant.inside in omega arith);
      born = subst (λ (i : ℕ). is_born d (deepest - (c.bits.passed + 1)) (c.bits.at - i) ≡ o) (sym p)
          (subst (λ (i : ℕ). is_born d i (c.bits.at - power n) ≡ o) down (bit_high d n c.bits.at o now g deep));
    }
