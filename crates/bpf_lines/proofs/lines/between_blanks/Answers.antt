use Rattle.std.proofs.Common.{rules, tests, ap, ◌∙◌}
use Rattle.std.specs.Slice.Iter as slice
use Rattle.std.proofs.lemmas.Iterator.Consumers.{map_from_collect, YieldsList-from_filter}
use Rattle.std.proofs.lemmas.Iterator.Splits.{YieldsList-from_slice_split}
use Rattle.bpf_lines.specs.Lines.{is_field}
use Rattle.bpf_lines.specs.Lines.{is_blank}
use Rattle.bpf_lines.proofs.lines.between_blanks.Goals as goal

pub returns : goal.returns
returns c =
    let same = c.filter.ensures.source in
    map_from_collect _ c.collect.ensures.ran
    (YieldsList-from_filter {s = c.filter.result} _ is_field
    (YieldsList-from_slice_split {s = c.filter.result.iter} _ is_blank c.args.line.now
    (ap slice.split_rest same ∙ c.split.ensures.rest) (ap slice.split_done same ∙ c.split.ensures.done)
    (ap slice.split_callee same ∙ c.split.ensures.closure) (λ x r q k. search (rules, tests)))
    c.filter.ensures.closure (λ x r q k. search (rules, tests)))
