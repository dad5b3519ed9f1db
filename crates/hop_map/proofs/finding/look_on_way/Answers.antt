use Rattle.std.proofs.Common.{◌≡◌, ℕ, Option, ap, sym, subst, ◌∙◌}
use Rattle.hop_words.specs.Content.{item}
use Rattle.hop_words.specs.Kinds.{found_span}
use Rattle.hop_map.specs.declared.finding.Tried.{Tried}
use Rattle.hop_map.specs.Private.Finding.{TryEnds, LooksUp}
use Rattle.hop_map.proofs.Onces.{tries_none, tries_more, reading_spares}
use Rattle.hop_map.proofs.Writings.{item_word}
use Rattle.hop_map.proofs.finding.look_on_way.Goals as goal

pub returns-in-Read-clause-found : goal.returns-in-Read-clause-found
returns-in-Read-clause-found g c = λ k asks near.
    let a = c.args.table.now.about in
    let m = c.args.from.map in
    let key = c.args.key.now in
    let y = c.try_on_way-lane.result.0.known in
    let e = subst (λ (t : Tried). TryEnds a k m key t y) c.in-Read.is (c.try_on_way-lane.ensures.ends k asks near) in
    let is : item c.link_word.result ≡ c.in-Read.found = ap item c.link_word.ensures.word ∙ item_word c.in-Read.found c.link_word.ensures.small in
    subst (λ (f : Option ℕ). LooksUp a k m key f y) (sym is) (e.0, reading_spares a k m key 0 k (tries_none a k m key) (found_span a m c.in-Read.found) y e.1)

pub look_again-requires-clause-begins : goal.look_again-requires-clause-begins
look_again-requires-clause-begins g c =
    let (k, asks, near) = c.requires.begins in
    let a = c.args.table.now.about in
    let m = c.args.from.map in
    let key = c.args.key.now in
    let y = c.try_on_way-lane.result.0.known in (
      k,
      asks,
      tries_more a k m key 0 k (tries_none a k m key) c.in-Disturbed.field-0 c.in-Disturbed.field-1 y
          (subst (λ (t : Tried). TryEnds a k m key t y) c.in-Disturbed.is (c.try_on_way-lane.ensures.ends k asks near)),
    )

pub returns-in-Disturbed-clause-found : goal.returns-in-Disturbed-clause-found
returns-in-Disturbed-clause-found g c = λ k asks near.
    let a = c.args.table.now.about in
    let m = c.args.from.map in
    let key = c.args.key.now in
    let y = c.try_on_way-lane.result.0.known in
    c.look_again.ensures.found k asks (tries_more a k m key 0 k (tries_none a k m key) c.in-Disturbed.field-0 c.in-Disturbed.field-1 y
    (subst (λ (t : Tried). TryEnds a k m key t y) c.in-Disturbed.is (c.try_on_way-lane.ensures.ends k asks near)))
