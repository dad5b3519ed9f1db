use Rattle.std.proofs.Common.{◌≡◌, ◌≢◌, ℕ, ◌<◌, List, ◌∷◌, length, ap, sym, subst, ◌∙◌, arith}
use Rattle.atomic_table.specs.Table.{Me, Splits}
use Rattle.bpf_shared.specs.Shape.{IsShape}
use Rattle.hop_layout.specs.declared.about.About.{About}
use Rattle.hop_words.specs.declared.known.Known.{Known}
use Rattle.hop_words.specs.declared.known.View.{View}
use Rattle.hop_words.specs.Rule.{Kept}
use Rattle.hop_words.specs.Inside.{Shown}
use Rattle.hop_words.specs.Dealing.{Dealing}
use Rattle.hop_words.specs.Private.Seats.{dealer, dealt}
use Rattle.hop_words.proofs.Dealt.{deals_first, some_words}
use Rattle.hop_words.proofs.closing.Returned.give.Goals as goal

pub split_seat-seat-requires : goal.split_seat-seat-requires
split_seat-seat-requires c =
    let s = c.self.inside in
    let t = c.table.inside.table.shared in
    let me = ap (λ (x : Me (Unit {0}) View). x.0) c.self.invariant in
    let lanes : s.seat.me.0.lanes ≡ c.requires.first.0 ∷ c.requires.first.1 = ap (λ (d : Dealing). d.lanes) c.self.view_is ∙ c.requires.first.2 in
    let some : length s.seat.me.0.lanes ≢ 0 = (λ z. let n = ap length lanes in absurd (omega arith)) in (
      ap (λ (q : Dealing). q.table) c.self.view_is ∙ (c.requires.table ∙ sym (ap (λ (x : Shown). x.id) c.table.view_is)),
      subst (λ (n : ℕ). 0 < n) (sym c.table.invariant.0) (some_words t.key.shape
          (subst (λ (x : About). IsShape x.shape) (c.about.ensures ∙ sym (ap (λ (x : Shown). x.about) c.table.view_is))
          c.cpus-cpus.ensures.in_range)),
      subst (λ (v : View). Splits (Kept t.key) s.seat.id v (dealer v) (dealt v)) (sym me) (deals_first t.key s.seat.id s.seat.me.0.lanes some),
    )
