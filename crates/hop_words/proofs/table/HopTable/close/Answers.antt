use Rattle.std.proofs.Common.{◌≡◌, ℕ, ◌<◌, List, [], ap, sym, subst, ◌∙◌}
use Rattle.std.specs.Mem.Slots.{slots_items}
use Rattle.atomic_table.specs.Table.{Final, Seen}
use Rattle.bpf_shared.specs.Shape.{IsShape}
use Rattle.bpf_shared.specs.declared.events.Entry.{Entry}
use Rattle.hop_layout.specs.declared.about.About.{About}
use Rattle.hop_words.specs.declared.known.View.{View}
use Rattle.hop_words.specs.Inside.{Shown}
use Rattle.hop_layout.specs.Layout.{size}
use Rattle.hop_words.specs.Rule.{Kept}
use Rattle.hop_words.specs.Private.Seats.{Sat}
use Rattle.hop_words.specs.Seats.{view, HasSeenBeginning, KeepsWholeHistory}
use Rattle.hop_words.specs.Closing.{AreAllBack}
use Rattle.hop_words.proofs.Gathers.{copies}
use Rattle.hop_words.proofs.Dealt.{some_words}
use Rattle.hop_words.proofs.Closings.{ends}
use Rattle.hop_words.proofs.table.HopTable.close.Goals as goal

pub split_seat-keeper-requires : goal.split_seat-keeper-requires
split_seat-keeper-requires c =
    let t = c.self.inside.table.shared in
    let s = c.learn-seat.result in (
      c.learn-seat.ensures.table ∙ sym (ap (λ (x : Shown). x.id) c.self.view_is),
      subst (λ (n : ℕ). 0 < n) (sym c.self.invariant.0) (some_words t.key.shape
          (subst (λ (x : About). IsShape x.shape) (c.about.ensures ∙ sym (ap (λ (x : Shown). x.about) c.self.view_is)) c.cpus-cpus.ensures.in_range)),
      copies t.key s.id s.me.0,
    )

-- the last answer is the invariant's last part
pub returns-clause-whole : goal.returns-clause-whole
returns-clause-whole c =
    let t = c.self.inside.table.shared in
    let s = c.learn-seat.result in
    let k = c.split_seat-keeper.new.seat in
    let ws = slots_items c.close_with-words.result.words in
    let xs = slots_items c.close_with-words.result.slots in
    let same : k.me.0 ≡ s.me.0 = ap (λ (m : Sat). m.0) c.split_seat-keeper.ensures.2 in
    let kept : c.split_seat-keeper.result.me.0.kept ≡ s.me.0.kept = ap (λ (m : Sat). m.0.kept) c.split_seat-keeper.ensures.4 in
    let about = ap (λ (x : Shown). x.about) c.self.view_is in
    let final = subst (λ (x : View). Final (Seen (Kept t.key) k.id x) ws xs) same c.close_with-words.ensures.values.2 in
    let whole = ends t.key k.id s.me.0 c.args.returned.lanes ws xs c.learn-seat.ensures.lanes final
    (subst (λ (x : About). AreAllBack x c.args.returned.lanes) (sym about) c.requires.all) c.learn-seat.ensures.within in
    subst (λ (x : About). KeepsWholeHistory x (view [] c.split_seat-keeper.result.me.0.kept) ws) (sym c.self.invariant.2)
    (subst (λ (l : List Entry). KeepsWholeHistory t.key (view [] l) ws) (sym kept) whole)

pub invariant_of-result : goal.invariant_of-result
invariant_of-result c = (
  c.close_with-words.ensures.values.0,
  c.close_with-words.ensures.counts.0 ∙ (c.self.invariant.0 ∙ ap (λ (x : About). size x.shape) (sym c.self.invariant.2)),
  c.close_with-words.ensures.counts.1 ∙ c.self.invariant.1,
  returns-clause-whole c,
)

pub returns-clause-within : goal.returns-clause-within
returns-clause-within c =
    let kept : c.split_seat-keeper.result.me.0.kept ≡ c.learn-seat.result.me.0.kept = ap (λ (m : Sat). m.0.kept) c.split_seat-keeper.ensures.4 in
    λ k l e. subst (HasSeenBeginning l) (sym kept) (c.learn-seat.ensures.within k l e)
