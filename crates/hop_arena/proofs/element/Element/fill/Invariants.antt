use Rattle.std.specs.Prelude.{◌≡◌, [], length}
use Rattle.hop_layout.specs.Layout.{words_for}
use Rattle.hop_arena.specs.Filling.{with_words, word_list}
use Rattle.hop_arena.proofs.element.Element.fill.Given as goal

abbrev pub invariant-key : goal.invariant-key
invariant-key l =
    (l.lane.table ≡ l.fn.table.id) × (l.lane.known ≡ record l.fn.lane.known { fresh = with_words l.fn.lane.known.fresh (word_list l.word l.fn.key) [] })

abbrev pub invariant-value : goal.invariant-value
invariant-value l =
    (l.lane.table ≡ l.fn.table.id)
    × (l.lane.known ≡ record l.fn.lane.known {
      fresh = with_words l.fn.lane.known.fresh (word_list (words_for (length l.fn.key)) l.fn.key)
          (word_list l.word l.fn.value);
    })
