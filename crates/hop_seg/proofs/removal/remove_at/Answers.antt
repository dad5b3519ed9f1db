use Rattle.std.proofs.Common.{◌≡◌, ◌<◌, ℕ, List, sym, subst, ap, ◌∙◌}
use Rattle.hop_seg.specs.Words.{Words}
use Rattle.hop_seg.specs.Places.{bucket_of}
use Rattle.hop_seg.specs.Content.{Loses}
use Rattle.hop_seg.specs.Segment.{element_key}
use Rattle.hop_seg.specs.Edits.{item_taken, unlinked}
use Rattle.hop_seg.specs.Spots.{bucket_for, IsKeyed, IsLink, IsSpot}
use Rattle.hop_seg.proofs.Listing.{unlink_loses}
use Rattle.hop_seg.proofs.Placing.{take_loses}
use Rattle.hop_seg.proofs.removal.remove_at.Goals as goal

pub returns-in-Near-clause-loses : goal.returns-in-Near-clause-loses
returns-in-Near-clause-loses g c =
    let w = g.S.SegWords.words c.args.words.now in
    let d = c.in-Near.distance in
    let e = c.in-Near.element in
    let b = bucket_for w c.args.key.now in
    let near : IsKeyed w b c.args.key.now d e = subst (IsSpot w c.args.key.now) c.in-Near.is c.requires.found in
    let bucket : c.bucket_of.result ≡ b = c.bucket_of.ensures.value ∙ ap bucket_of c.requires.home in
    let small : b < 64 = subst (λ (x : ℕ). x < 64) bucket c.bucket_of.ensures.in_range in
    let taken : g.S.SegWords.words c.take_item.new.words ≡ item_taken w b d = c.take_item.ensures.words ∙ ap (λ (x : ℕ). item_taken w x d) bucket in
    subst (λ (v : Words). Loses w v c.args.key.now e) (sym taken)
    (subst (λ (k : List ℕ). Loses w (item_taken w b d) k e) near.1 (take_loses w c.requires.sound b d e small near.0.near near.0.bit near.0.slot))

pub returns-in-Listed-clause-loses : goal.returns-in-Listed-clause-loses
returns-in-Listed-clause-loses g c =
    let w = g.S.SegWords.words c.args.words.now in
    let o = c.in-Listed.before in
    let e = c.in-Listed.element in
    let at : IsLink w o e × (element_key w e ≡ c.args.key.now) = subst (IsSpot w c.args.key.now) c.in-Listed.is c.requires.found in
    let taken : g.S.SegWords.words c.unlink.new.words ≡ unlinked w o e = c.unlink.ensures.words in
    subst (λ (v : Words). Loses w v c.args.key.now e) (sym taken)
    (subst (λ (k : List ℕ). Loses w (unlinked w o e) k e) at.1 (unlink_loses w c.requires.sound o e at.0))
