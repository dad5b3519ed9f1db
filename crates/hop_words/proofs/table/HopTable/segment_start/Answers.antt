use Rattle.std.proofs.Common.{◌≡◌, ◌<◌, ap, ◌∙◌, arith}
use Rattle.hop_layout.specs.Layout.{at, size}
use Rattle.hop_layout.specs.declared.place.Place.TheVariants.{Slot}
use Rattle.hop_layout.proofs.Indexes.{at_stamp, at_slot}
use Rattle.hop_layout.proofs.Layouts.{at_inside}
use Rattle.hop_layout.specs.declared.about.About.{About}
use Rattle.hop_words.specs.Inside.{Shown}
use Rattle.hop_words.proofs.Locked.{slot_there}
use Rattle.hop_words.proofs.table.HopTable.segment_start.Goals as goal

pub returns-clause-room : goal.returns-clause-room
returns-clause-room c =
    let a = c.args.self.now.about in
    let m = c.args.map in
    let s = c.args.segment in
    let last : at a.shape (Slot m s 63) < size a.shape = at_inside a.shape (Slot m s 63) (slot_there a m s 63 c.requires.inside (omega arith)) in
    let from = at_slot a.shape m s 63 in
    let first = at_stamp a.shape m s in
    let here = c.word_of.ensures.word in
    let all : c.words-words.result ≡ size a.shape = c.words-words.ensures ∙ ap (λ (x : About). size x.shape)
    (c.self.invariant.2 ∙ ap (λ (s : Shown). s.about) c.self.view_is) in
    let fits = c.words-words.type_inv in
    omega arith
