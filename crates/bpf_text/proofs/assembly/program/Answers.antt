use Rattle.std.proofs.Common.{ap, sym, ◌∙◌, map, arith}
use Rattle.bpf_text.specs.Private.Labels.{found}
use Rattle.bpf_text.specs.Private.Sources.{kept_view, kept_program}
use Rattle.bpf_text.proofs.TextLemmas.{behind, behind_nothing, meant_next, meant_whole}
use Rattle.bpf_text.proofs.assembly.program.Goals as goal

pub loop-kept-init : goal.loop-kept-init
loop-kept-init c =
    let whole = kept_program (found c.args.labels.now) 0 (map kept_view c.args.lines.now) in
    record { meant = ap (λ x. behind x whole) c.new-insns.ensures.items ∙ behind_nothing whole; small = omega arith }

pub loop-kept-preserved : goal.loop-kept-preserved
loop-kept-preserved c = record {
  meant = meant_next (found c.args.labels.now) c.args.lines.now c.loop-kept.kept-index c.loop-kept.pc _ c.loop-kept.insns.items _
      c.in_ok-meant.meant c.words_of-pc.result _ c.loop-kept-test.true c.loop-kept.invariant.meant
      (sym c.in_ok-meant.was ∙ c.meaning.ensures) c.in_ok-push_meant.ensures.ok c.words_of-pc.ensures.value;
  small = omega (arith, c.words_of-pc.ensures.small, c.loop-kept.invariant.small);
}

pub meaning-requires-clause-short : goal.meaning-requires-clause-short
meaning-requires-clause-short c = c.requires c.loop-kept.kept-index _ c.loop-kept-test.true

pub returns : goal.returns
returns c = meant_whole (found c.args.labels.now) c.args.lines.now c.loop-kept.kept-index c.loop-kept.pc _ _ c.loop-kept-test.false c.loop-kept.invariant.meant
