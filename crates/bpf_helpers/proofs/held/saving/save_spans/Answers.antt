use Rattle.std.proofs.Common.{take}
use Rattle.std.specs.List.{flat_map}
use Rattle.bpf_mem.proofs.Fronts.{still_starts}
use Rattle.bpf_helpers.specs.Saved.{span_saved}
use Rattle.bpf_helpers.proofs.held.saving.save_spans.Goals as goal

pub returns-in_err-save_words-clause-err : goal.returns-in_err-save_words-clause-err
returns-in_err-save_words-clause-err c =
    let before = flat_map span_saved (take c.loop-span.span-index c.args.spans.now) in
    still_starts c.from_residual.result c.args.out.now.items c.loop-span.out.items c.save_words.new.out.items before c.loop-span.invariant
    c.in_err-save_words.ensures.err
