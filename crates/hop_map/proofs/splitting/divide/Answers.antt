use Rattle.std.proofs.Common.{◌≡◌, ℕ, ◌+◌, ◌<◌, ap, sym, subst, ◌∙◌, arith}
use Rattle.hop_layout.specs.Layout.{power}
use Rattle.hop_layout.proofs.Depths.{segments_are}
use Rattle.hop_words.specs.Depths.{stamp_depth}
use Rattle.hop_words.specs.Ghost.{shape_at}
use Rattle.hop_words.specs.Locking.{lock_of}
use Rattle.hop_seg.specs.Segment.{Sound}
use Rattle.hop_seg.specs.Split.{Splits}
use Rattle.hop_seg.specs.Words.{Words}
use Rattle.hop_map.specs.LockedSegment.{Locked, StaysBeside, child_front}
use Rattle.hop_map.specs.Lemmas.Keeping.{stays_beside_on}
use Rattle.hop_map.specs.Private.LockedSegment.{seen_words}
use Rattle.hop_map.proofs.Dividing.{child_inside, sound_locked, parts_after}
use Rattle.hop_map.proofs.splitting.divide.Goals as goal

pub overflow_add-child : goal.overflow_add-child
overflow_add-child c =
    let g = shape_at c.args.words.about c.args.words.map in
    let i = child_inside g c.args.words.segment c.args.depth c.requires.room c.requires.less in
    let p = segments_are c.args.depth (omega arith) in
    let s = c.segment.ensures.segment in
    omega arith

pub new-pair-requires : goal.new-pair-requires
new-pair-requires c =
    let x = c.args.words in
    let g = shape_at x.about x.map in
    let i = child_inside g x.segment c.args.depth c.requires.room c.requires.less in
    let p = segments_are c.args.depth (omega arith) in
    let s = c.segment.ensures.segment in
    let d : c.args.depth ≡ stamp_depth (lock_of x.known).stamp = c.requires.depth ∙ ap stamp_depth c.requires.stamp in
    record {
      child = (
        (λ j. s j + p j) ∙ (λ j. sym c.requires.contents.segment j + power (d j)),
        (c.segment.ensures.inside.0, omega arith),
      );
    }

pub split-requires-clause-sound : goal.split-requires-clause-sound
split-requires-clause-sound c =
    let x = c.args.words in
    let d : c.args.depth ≡ stamp_depth (lock_of x.known).stamp = c.requires.depth ∙ ap stamp_depth c.requires.stamp in
    subst (λ (w : Words). Sound w) (sym (c.clear.ensures.words ∙ ap seen_words c.new-pair.ensures.same))
    (sound_locked x.about x.known x.map x.segment c.requires.contents (subst (λ (n : ℕ). x.segment < power n) d c.requires.room))

pub publish-requires-clause-parted : goal.publish-requires-clause-parted
publish-requires-clause-parted c = λ r.
    let x = c.args.words in
    let y = c.split.new.words in
    let d : c.args.depth ≡ stamp_depth (lock_of x.known).stamp = c.requires.depth ∙ ap stamp_depth c.requires.stamp in
    let stays = stays_beside_on x c.clear.new.self y (subst (λ (z : Locked). StaysBeside z c.clear.new.self) c.new-pair.ensures.same
    c.clear.ensures.stays) c.split.ensures.stays in
    let sp = subst (λ (w : Words). Splits w (seen_words y) (child_front y)) (c.clear.ensures.words ∙ ap seen_words c.new-pair.ensures.same)
    c.split.ensures.splits in
    parts_after x c.requires.contents (subst (λ (n : ℕ). x.segment < power n) d c.requires.room) y stays sp r
