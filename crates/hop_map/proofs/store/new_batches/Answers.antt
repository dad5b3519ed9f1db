use Rattle.std.proofs.Common.{◌+◌, List, ap, sym, subst, ◌∙◌, arith, length}
use Rattle.hop_words.specs.declared.known.Limbo.{Limbo}
use Rattle.hop_words.specs.Ghost.{limbo_at}
use Rattle.hop_map.specs.Port.{AreBatches}
use Rattle.hop_map.proofs.Dealing.{none_taken, limbo_size, batches_more}
use Rattle.hop_map.proofs.store.new_batches.Goals as goal

pub maps-preserved : goal.maps-preserved
maps-preserved c =
    let i = c.maps.invariant in
    let a = c.args.table.now.about in
    let l = c.args.lane.now.known in
    let n = c.maps.map in
    let size = ap length c.requires.limbo ∙ limbo_size (length a.shape.maps) in
    let none = ap (λ (x : List Limbo). limbo_at x n) c.requires.limbo ∙ none_taken (length a.shape.maps) n in
    let test = c.maps-test.true in
    let whole = i.1 in (
      subst (AreBatches a l (n + 1)) (sym c.in_ok-push.ensures.items)
          (batches_more a l n c.maps.batches.items c.new.result i.0 c.new.ensures.map c.new.ensures.young c.new.ensures.aged (omega (arith, size, whole)) none),
      i.1,
    )
