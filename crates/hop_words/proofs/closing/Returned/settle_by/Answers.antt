use Rattle.std.proofs.Common.{◌≡◌, ℕ, ◌<◌, List, ap, sym, subst, ◌∙◌}
use Rattle.bpf_shared.specs.Shape.{IsShape}
use Rattle.hop_layout.specs.declared.about.About.{About}
use Rattle.hop_words.specs.declared.known.Known.{Known}
use Rattle.hop_words.specs.Inside.{Shown}
use Rattle.hop_words.specs.Dealing.{Dealing}
use Rattle.hop_words.specs.Seats.{AreSettled}
use Rattle.hop_words.proofs.Settling.{settles}
use Rattle.hop_words.proofs.Dealt.{some_words}
use Rattle.hop_words.proofs.closing.Returned.settle_by.Goals as goal

pub load-requires : goal.load-requires
load-requires g c =
    let t = c.table.inside.table.shared in
    let s = c.self.inside.seat in
    let lanes = ap (λ (d : Dealing). d.lanes) c.self.view_is in
    let about = ap (λ (x : Shown). x.about) c.table.view_is in (
      ap (λ (q : Dealing). q.table) c.self.view_is ∙ (c.requires.table ∙ sym (ap (λ (x : Shown). x.id) c.table.view_is)),
      subst (λ (n : ℕ). 0 < n) (sym c.table.invariant.0) (some_words t.key.shape
          (subst (λ (x : About). IsShape x.shape) (c.about.ensures ∙ sym about) c.cpus-cpus.ensures.in_range)),
      settles t.key t.table_id.slots s.id s.me g.E.TellAll.told
          (λ new is. subst (λ (ls : List Known). g.E.TellAll.told ls new) (sym lanes)
          (c.requires.told new (subst (λ (ls : List Known). AreSettled c.args.table.now.about ls new) lanes
          (subst (λ (x : About). AreSettled x s.me.0.lanes new) about is)))),
    )
