use Rattle.std.proofs.Common.{ℕ, ◌<◌, ap, sym, subst, ◌∙◌}
use Rattle.bpf_shared.specs.Shape.{IsShape}
use Rattle.hop_layout.specs.declared.about.About.{About}
use Rattle.hop_words.specs.Inside.{Shown}
use Rattle.hop_words.specs.Dealing.{Dealing}
use Rattle.hop_words.specs.Private.Seats.{Sat}
use Rattle.hop_words.proofs.Gathers.{gathers}
use Rattle.hop_words.proofs.Dealt.{some_words}
use Rattle.hop_words.proofs.closing.Returned.take.Goals as goal

pub join_seat-requires : goal.join_seat-requires
join_seat-requires c =
    let t = c.table.inside.table.shared in
    let id = sym (ap (λ (x : Shown). x.id) c.table.view_is) in
    let s = c.self.inside.seat in
    let l = c.into_seat-seat.result in (
      ap (λ (q : Dealing). q.table) c.self.view_is ∙ (c.requires.table ∙ id),
      c.into_seat-seat.ensures.table ∙ (c.requires.lane ∙ id),
      ap (λ (m : Sat). m.1) c.into_seat-seat.ensures.known,
      subst (λ (n : ℕ). 0 < n) (sym c.table.invariant.0) (some_words t.key.shape
          (subst (λ (x : About). IsShape x.shape) (c.about.ensures ∙ sym (ap (λ (x : Shown). x.about) c.table.view_is))
          c.cpus-cpus.ensures.in_range)),
      gathers t.key s.id l.id s.me.0 l.me.0,
    )
