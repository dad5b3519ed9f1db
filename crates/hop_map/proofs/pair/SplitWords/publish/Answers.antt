use Rattle.std.proofs.Common.{◌≡◌, ℕ, ◌+◌, ◌*◌, ◌%◌, ◌^◌, ◌<◌, ap, sym, subst, ◌∙◌, arith}
use Rattle.hop_layout.specs.declared.place.Place.{Place}
use Rattle.hop_layout.specs.declared.place.Place.TheVariants.{Stamp}
use Rattle.hop_layout.specs.Layout.{depth}
use Rattle.hop_layout.proofs.Depths.{depth_most}
use Rattle.hop_words.specs.Depths.{stamp_depth}
use Rattle.hop_words.specs.Ghost.{shape_at, child, IsSegment}
use Rattle.hop_words.specs.Locking.{lock_of}
use Rattle.hop_map.specs.LockedSegment.{Locked, Ready}
use Rattle.hop_map.specs.Private.LockedSegment.{written}
use Rattle.hop_map.specs.Private.Splitting.{IsParted}
use Rattle.hop_map.proofs.Dividing.{splits_after, stamp_place, child_deep, child_version}
use Rattle.hop_map.proofs.pair.SplitWords.publish.Goals as goal

pub unlock_split-requires-clause-splits : goal.unlock_split-requires-clause-splits
unlock_split-requires-clause-splits c = λ r.
    let x = c.self.inside.words in
    let v = c.self.view_is in
    let cx = child (lock_of x.known) in
    let k : ℕ = stamp_depth (lock_of x.known).stamp in
    let d = c.from.result in
    let n : ℕ = c.version.result % 2 ^ 56 * 256 + 2 * (d + 1) in
    let same : c.args.depth ≡ k = c.requires.depth ∙ (ap stamp_depth c.requires.stamp ∙ ap (λ (x : Locked). stamp_depth (lock_of x.known).stamp) (sym v)) in
    let here : d ≡ k = c.from.ensures ∙ same in
    let less : k < depth (shape_at x.about x.map) = subst (λ (i : ℕ). i < depth (shape_at x.about x.map)) same
    (subst (λ (x : Locked). c.args.depth < depth (shape_at x.about x.map)) (sym v) c.requires.less) in
    let few : d < 31 = (let ten = depth_most (shape_at x.about x.map) in omega arith) in
    let at : Stamp c.map.result c.self.inside.child ≡ Stamp x.map cx = λ j. Stamp (c.map.ensures.map j) (c.self.invariant.0 j) in
    let is = c.write_stamp_beside.ensures.written ∙ ap (λ (p : Place). written x p n) at in
    let parted = subst (λ (x : Locked). Ready x.about x.known x.map x.segment → IsParted x.about (lock_of x.known)) (sym v)
    c.requires.parted c.map.ensures.ready in
    let seg = subst (IsSegment x.about x.map) c.self.invariant.0 c.self.invariant.1 in
    splits_after x c.map.ensures.ready parted n c.write_stamp_beside.new.self (stamp_place x.about x.map cx seg) is (omega arith)
    (child_deep (c.version.result % 2 ^ 56) d few ∙ ap (λ (i : ℕ). i + 1) here)
    (let old = child_version c.version.result d few in let z = c.version.ensures in omega arith)
    less
