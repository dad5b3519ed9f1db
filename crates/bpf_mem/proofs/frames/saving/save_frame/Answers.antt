use Rattle.std.proofs.Common.{◌++◌, ◌∙◌, ap, List, ℕ}
use Rattle.std.proofs.lemmas.Result.{on_ok_weaker}
use Rattle.bpf_mem.specs.Saved.{frame_saved, words_saved}
use Rattle.bpf_mem.proofs.frames.saving.save_frame.Goals as goal

pub returns-clause-ok : goal.returns-clause-ok
unfolding frame_saved
returns-clause-ok c = on_ok_weaker c.save_words.result (λ e. e ∙ ap (λ (l : List ℕ). c.args.out.now.items ++ words_saved 0 l)
    c.words_of.ensures) c.save_words.ensures.ok
