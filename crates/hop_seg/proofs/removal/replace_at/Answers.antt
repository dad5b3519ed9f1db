use Rattle.std.proofs.Common.{◌≡◌, ◌<◌, ℕ, List, sym, subst, ap, ◌∙◌}
use Rattle.hop_seg.specs.Words.{Words}
use Rattle.hop_seg.specs.Segment.{element_key}
use Rattle.hop_seg.specs.Edits.{item_changed, relinked}
use Rattle.hop_seg.specs.Places.{bucket_of}
use Rattle.hop_seg.specs.Content.{Changes}
use Rattle.hop_seg.specs.Spots.{bucket_for, IsKeyed, IsLink, IsSpot}
use Rattle.hop_seg.proofs.Listing.{relink_changes}
use Rattle.hop_seg.proofs.Placing.{change_changes}
use Rattle.hop_seg.proofs.removal.replace_at.Goals as goal

pub returns-in-Near-clause-changes : goal.returns-in-Near-clause-changes
returns-in-Near-clause-changes g c =
    let w = g.S.SegWords.words c.args.words.now in
    let d = c.in-Near.distance in
    let e = c.in-Near.element in
    let b = bucket_for w c.args.key.now in
    let near : IsKeyed w b c.args.key.now d e = subst (IsSpot w c.args.key.now) c.in-Near.is c.requires.found in
    let bucket : c.bucket_of.result ≡ b = c.bucket_of.ensures.value ∙ ap bucket_of c.requires.home in
    let small : b < 64 = subst (λ (x : ℕ). x < 64) bucket c.bucket_of.ensures.in_range in
    let written : g.S.SegWords.words c.change_item.new.words ≡ item_changed w b d c.args.new =
    c.change_item.ensures.words ∙ ap (λ (x : ℕ). item_changed w x d c.args.new) bucket in
    subst (λ (v : Words). Changes w v c.args.key.now e c.args.new) (sym written)
    (subst (λ (k : List ℕ). Changes w (item_changed w b d c.args.new) k e c.args.new) near.1
    (change_changes w c.requires.sound b d e small near.0.near near.0.bit near.0.slot c.args.new (c.requires.keyed ∙ sym near.1) c.requires.own))

pub returns-in-Listed-clause-changes : goal.returns-in-Listed-clause-changes
returns-in-Listed-clause-changes g c =
    let w = g.S.SegWords.words c.args.words.now in
    let o = c.in-Listed.before in
    let e = c.in-Listed.element in
    let at : IsLink w o e × (element_key w e ≡ c.args.key.now) = subst (IsSpot w c.args.key.now) c.in-Listed.is c.requires.found in
    let written : g.S.SegWords.words c.relink.new.words ≡ relinked w o e c.args.new = c.relink.ensures.words in
    subst (λ (v : Words). Changes w v c.args.key.now e c.args.new) (sym written)
    (subst (λ (k : List ℕ). Changes w (relinked w o e c.args.new) k e c.args.new) at.1
    (relink_changes w c.requires.sound o e c.args.new at.0 c.requires.own (c.requires.keyed ∙ sym at.1) c.requires.fresh))
