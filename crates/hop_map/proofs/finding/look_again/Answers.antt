use Rattle.std.proofs.Common.{◌≡◌, ℕ, Option, ap, sym, subst, ◌∙◌, arith}
use Rattle.hop_words.specs.Content.{item}
use Rattle.hop_words.specs.Kinds.{found_span}
use Rattle.hop_map.specs.declared.finding.Tried.{Tried}
use Rattle.hop_map.specs.Private.Finding.{TryEnds, LooksUp}
use Rattle.hop_map.proofs.Onces.{asks_still, looked_then, tries_more, reading_spares, lock_spares}
use Rattle.hop_map.proofs.Writings.{item_word}
use Rattle.hop_map.proofs.finding.look_again.Goals as goal

pub tries-init : goal.tries-init
tries-init g c = record { table = c.requires.table; tried = λ k s. s }

pub try_once-after-requires-clause-asks : goal.try_once-after-requires-clause-asks
try_once-after-requires-clause-asks g c =
    let (k, asks, sees) = c.requires.begins in
    asks_still c.args.table.now.about k c.args.map c.args.key.now c.tries._tried c.tries.lane.known (c.tries.invariant.tried k sees) asks

pub tries-preserved : goal.tries-preserved
tries-preserved g c =
    let a = c.args.table.now.about in
    let m = c.args.map in
    let key = c.args.key.now in
    let x = c.tries.lane.known in
    let y = c.try_once-after.result.0.known in
    record {
      table = c.try_once-after.ensures.table;
      tried = λ k sees. tries_more a k m key c.tries._tried x (c.tries.invariant.tried k sees) c.in-Disturbed.field-0 c.in-Disturbed.field-1 y
          (subst (λ (t : Tried). TryEnds a x m key t y) c.in-Disturbed.is c.try_once-after.ensures.ends);
    }

pub returns-in-Read-clause-found : goal.returns-in-Read-clause-found
returns-in-Read-clause-found g c = λ k asks sees.
    let a = c.args.table.now.about in
    let m = c.args.map in
    let key = c.args.key.now in
    let x = c.tries.lane.known in
    let y = c.try_once-after.result.0.known in
    let n = c.tries._tried in
    let tried = c.tries.invariant.tried k sees in
    let o = found_span a m c.in-Read.found in
    let e = subst (λ (t : Tried). TryEnds a x m key t y) c.in-Read.is c.try_once-after.ensures.ends in
    let is : item c.link_word.result ≡ c.in-Read.found = ap item c.link_word.ensures.word ∙ item_word c.in-Read.found c.link_word.ensures.small in
    subst (λ (f : Option ℕ). LooksUp a k m key f y) (sym is) (looked_then a k m key n x tried o y e.0, reading_spares a k m key n x tried o y e.1)

pub locate_locked-lane-requires-clause-asks : goal.locate_locked-lane-requires-clause-asks
locate_locked-lane-requires-clause-asks g c =
    let (k, asks, sees) = c.requires.begins in
    asks_still c.args.table.now.about k c.args.map c.args.key.now c.tries._tried c.tries.lane.known (c.tries.invariant.tried k sees) asks

pub returns-clause-found : goal.returns-clause-found
returns-clause-found g c = λ k asks sees.
    let a = c.args.table.now.about in
    let m = c.args.map in
    let key = c.args.key.now in
    let x = c.tries.lane.known in
    let r = c.locate_locked-lane in
    let y = r.result.0.known in
    let n = c.tries._tried in
    let tried = c.tries.invariant.tried k sees in
    let o = found_span a m r.result.1 in
    let eight : c.tries._tried ≡ 8 = omega arith in
    let is : item c.link_word-2.result ≡ r.result.1 = ap item c.link_word-2.ensures.word ∙ item_word r.result.1 c.link_word-2.ensures.small in
    subst (λ (f : Option ℕ). LooksUp a k m key f y) (sym is) (
      looked_then a k m key n x tried o y r.ensures.found,
      lock_spares a k m key n x
          tried o y eight r.ensures.locked,
    )
