use Rattle.std.proofs.Common.{Bool, sym, subst}
use Rattle.bpf_replies.specs.Answer.{Replies}
use Rattle.bpf_replies.specs.Reordering.{IsExploredFileOnX86}
use Rattle.bpf_replies.proofs.reordering.explore_file_with_buffers.Goals as goal

pub returns-then-options : goal.returns-then-options
returns-then-options g c =
    subst (λ (b : Bool). Replies (IsExploredFileOnX86 b c.args.options.now.limit c.args.text.now) c.explore_patiently.result)
    (sym c.if-options.true) c.explore_patiently.ensures

pub returns-else-options : goal.returns-else-options
returns-else-options g c =
    subst (λ (b : Bool). Replies (IsExploredFileOnX86 b c.args.options.now.limit c.args.text.now) c.explore_all.result)
    (sym c.if-options.false) c.explore_all.ensures
