use Rattle.std.proofs.Common.{◌≡◌, ℕ, List, [], length, ap, sym, subst, ◌∙◌, arith}
use Rattle.atomic_table.specs.Table.{Me, opening}
use Rattle.hop_layout.specs.declared.about.About.{About}
use Rattle.hop_words.specs.declared.known.View.{View}
use Rattle.hop_layout.specs.Layout.{mem, size}
use Rattle.hop_words.specs.Rule.{Kept}
use Rattle.hop_words.specs.Private.Made.{AreNewWords}
use Rattle.hop_words.specs.Opens.{opens}
use Rattle.hop_words.specs.Seats.{view}
use Rattle.hop_words.specs.Private.Dealing.{AreNumbered}
use Rattle.hop_words.proofs.Openings.{opening_kept}
use Rattle.hop_words.proofs.Dealt.{lane_count, numbered}
use Rattle.hop_words.proofs.table.HopTable.new.Goals as goal

pub of_words-requires : goal.of_words-requires
of_words-requires c =
    let a = c.about.result.now in
    let v = sym c.about.ensures in
    let ws = c.in_ok-words.words.items in
    subst (λ (ws : List ℕ). Kept a (opening ws [] (opens a))) (sym c.deref.ensures.value)
    (opening_kept a ws (subst (λ (x : About). length ws ≡ size x.shape) v c.in_ok-words.ensures.sized)
    (subst (λ (x : About). AreNewWords x (mem x.shape ws)) v c.in_ok-words.ensures.made))

pub invariant_of-lanes : goal.invariant_of-lanes
invariant_of-lanes c =
    let a = c.about.result.now in
    let e = c.in_ok-table.ensures.4 in
    let same = ap (λ (x : About). x.shape.cpus) (c.about.ensures ∙ c.in_ok-index.ensures) in (
      e ∙ ap (λ (x : Me (Unit {0}) View). (view x.0.lanes [], [])) (sym e),
      ap (λ (x : Me (Unit {0}) View). length x.0.lanes) e ∙ (lane_count a 0 a.shape.cpus ∙ (same ∙ sym c.cpus-left.ensures.cpus)),
      subst (λ (x : Me (Unit {0}) View). AreNumbered 0 x.0.lanes) (sym e) (numbered a 0 a.shape.cpus),
      (let m = c.cpus-left.ensures.in_range.cpus.1 in let k = c.cpus-left.ensures.cpus in omega arith),
    )

pub invariant_of-result : goal.invariant_of-result
invariant_of-result c =
    let key = c.in_ok-table.ensures.5 in (
      c.in_ok-table.ensures.0 ∙ (ap length c.deref.ensures.value ∙
          (c.in_ok-words.ensures.sized ∙ ap (λ (x : About). size x.shape) (sym c.about.ensures ∙ sym key))),
      c.in_ok-table.ensures.1,
      sym c.about.ensures ∙ sym key,
    )
