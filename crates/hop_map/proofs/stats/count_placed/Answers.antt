use Rattle.std.proofs.Common.{◌≡◌, ℕ, suc, ◌+◌, Bool, true, if◌then◌else◌, sym, ap, subst, ◌∙◌, arith}
use Rattle.hop_layout.specs.Births.{is_born}
use Rattle.hop_layout.specs.Layout.{depth}
use Rattle.hop_words.specs.Ghost.{shape_at}
use Rattle.hop_map.specs.Dumping.{rest_depths}
use Rattle.hop_map.specs.Stats.{placed_in, placed_below}
use Rattle.hop_map.proofs.stats.count_placed.Goals as goal

pub segments-preserved : goal.segments-preserved
segments-preserved c =
    let e = c.args.rest.now in
    let m = c.args.map in
    let s = c.segments.segment in
    let k = c.from-placed.result in
    let few = c.placed_in.ensures.most in
    let most = c.segments.invariant.most in
    let same : k ≡ placed_in e m s 64 = c.from-placed.ensures ∙ c.placed_in.ensures.counted in
    let born : is_born (rest_depths e m) (depth (shape_at e.about m)) s ≡ true = sym c.if-not-is_born.ensures.born in
    let sum : c.segments.placed + k ≡ placed_below e m s + placed_in e m s 64 = λ j. c.segments.invariant.counted j + same j in
    let next : suc s ≡ s + 1 = omega arith in
    record {
      counted = subst (λ (n : ℕ). c.segments.placed + k ≡ placed_below e m n) next
          (sum ∙ ap (λ (b : Bool). if b then placed_below e m s + placed_in e m s 64 else placed_below e m s) (sym born));
      most = (let f = c.from-placed.ensures in omega arith);
    }
