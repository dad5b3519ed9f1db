use Rattle.std.proofs.Common.{[], ◌∷◌}
use Rattle.bpf_mem.proofs.Fronts.{starts_more, still_same}
use Rattle.bpf_mem.proofs.words.save_words.Goals as goal

pub returns-in_err-push-clause-err : goal.returns-in_err-push-clause-err
returns-in_err-push-clause-err c =
    still_same c.from_residual.result c.push.new.self.items c.loop-word.out.items c.args.out.now.items c.in_err-push.ensures.items c.loop-word.invariant.starts

pub returns-in_err-push_word-clause-err : goal.returns-in_err-push_word-clause-err
returns-in_err-push_word-clause-err c =
    let more = starts_more c.push.new.self.items c.loop-word.out.items c.args.out.now.items (c.loop-word.zeros ∷ [])
    c.in_ok-push.ensures.items c.loop-word.invariant.starts in
    still_same c.from_residual-in_err-push_word.result c.push_word.new.out.items c.push.new.self.items c.args.out.now.items c.in_err-push_word.ensures.err more

pub returns-in_err-push-2-clause-err : goal.returns-in_err-push-2-clause-err
returns-in_err-push-2-clause-err c =
    still_same c.from_residual-in_err-push-2.result c.push-2.new.self.items c.loop-word.out.items c.args.out.now.items
    c.in_err-push-2.ensures.items c.loop-word.invariant.starts
