use Rattle.std.proofs.Common.{ℕ, ◌+◌, ◌++◌, sym, ◌∙◌}
use Rattle.bpf_base.specs.Bytes.{low_bytes}
use Rattle.hop_layout.specs.declared.place.Place.TheVariants.{FixedWord}
use Rattle.hop_layout.specs.Layout.{mem}
use Rattle.hop_map.proofs.Dumps.{spelled_more}
use Rattle.hop_map.proofs.indexed.read_words.Goals as goal

pub words-preserved : goal.words-preserved
words-preserved c =
    let f = λ (k : ℕ). mem c.args.rest.now.about.shape c.args.rest.now.words (FixedWord c.args.array (c.args.first + k)) in
    c.in_ok-push_word.ensures
    ∙ ((λ j. c.words.invariant j ++ low_bytes 8 (c.word.ensures.word j)) ∙ sym (spelled_more c.words.word f))
