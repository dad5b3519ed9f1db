use Rattle.std.proofs.Common.{◌++◌, sym, ◌∙◌}
use Rattle.bpf_base.specs.Bytes.{low_bytes}
use Rattle.hop_map.specs.Private.Dumping.{words_in}
use Rattle.hop_map.proofs.Dumps.{spelled_more}
use Rattle.hop_map.proofs.dumping.read_key.Goals as goal

pub words-preserved : goal.words-preserved
words-preserved c =
    let f = (words_in c.args.rest.now).key c.args.map c.args.element in
    c.in_ok-push_word.ensures
    ∙ ((λ j. c.words.invariant j ++ low_bytes 8 (c.word.ensures.word j)) ∙ sym (spelled_more c.words.word f))
