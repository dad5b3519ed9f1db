use Rattle.std.proofs.Common.{◌≡◌, ℕ, true≢false, subst, ap, sym, ◌∙◌, arith, ⊎_elim}
use Rattle.std.proofs.lemmas.Bool.{cases_eq}
use Rattle.hop_layout.specs.Births.{is_born}
use Rattle.hop_layout.specs.Layout.{segments, depth}
use Rattle.hop_words.specs.Ghost.{shape_at}
use Rattle.hop_map.specs.Private.Dumping.{key_in, IsReached}
use Rattle.hop_map.specs.Dumping.{rest_depths}
use Rattle.hop_map.proofs.dumping.pairs_of.Goals as goal

pub segments-preserved : goal.segments-preserved
segments-preserved c =
    let e = c.args.rest.now in
    let m = c.args.map in
    record {
      found = c.in_ok-add_segment.ensures.adds.found c.segments.invariant.found;
      keys = λ s i l inside r. ⊎_elim
          (λ (at : s ≡ c.segments.segment). c.in_ok-add_segment.ensures.keys i (subst (λ (t : ℕ). IsReached e m t i) at r))
          (λ ne. c.in_ok-add_segment.ensures.adds.kept (key_in e m i) (c.segments.invariant.keys s i (omega arith) inside r))
          (cases_eq s c.segments.segment);
    }

pub segments-preserved-then-not-is_born : goal.segments-preserved-then-not-is_born
segments-preserved-then-not-is_born c =
    let e = c.args.rest.now in
    let m = c.args.map in
    record {
      found = c.segments.invariant.found;
      keys = λ s i l inside r. ⊎_elim
          (λ (at : s ≡ c.segments.segment). absurd (true≢false (sym inside.2 ∙
          (ap (is_born (rest_depths e m) (depth (shape_at e.about m))) at ∙ sym c.if-not-is_born.ensures.born))))
          (λ ne. c.segments.invariant.keys s i (omega arith) inside r)
          (cases_eq s c.segments.segment);
    }

pub returns-clause-keys : goal.returns-clause-keys
returns-clause-keys c = λ s i inside r. c.segments.invariant.keys s i
    (let t = c.segments-test.false in let n = c.segments-count.ensures in let l = inside.1 in omega (arith, n ∙ ap segments c.shape_of.ensures.shape))
    inside r
