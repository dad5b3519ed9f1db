use Rattle.std.proofs.Common.{ℕ, ◌≡◌, List, map, Option, Some, None, refl, ap, subst, arith}
use Rattle.std.specs.Option.{option_copied}
use Rattle.bpf_text.specs.Private.Labels.{found}
use Rattle.bpf_text.specs.Symbols.{names_in}
use Rattle.bpf_text.specs.Private.Sources.{source_of, kept_view}
use Rattle.bpf_text.proofs.TextLemmas.{Gathered, gathered_start, gathered_next, gathered_end, small_next, short_lines}
use Rattle.bpf_text.proofs.assembly.gather.Goals as goal

pub text-init : goal.text-init
text-init c = record {
  lines = gathered_start (names_in c.args.symbols) c.args.text.now (found c.new-labels.result) (map kept_view c.new-kept.result.items)
      (λ q. rw c.new-labels.ensures.empty refl) (ap (map kept_view) c.new-kept.ensures.items);
  small = omega arith;
}

pub text-preserved : goal.text-preserved
text-preserved c =
    let R : Option (List ℕ) → Type 0 = λ r. Gathered (names_in c.args.symbols) c.args.text.now r (found c.text.labels) c.text.line c.text.pc
    c.text.refused (map kept_view c.text.kept.items) in
    let rest : option_copied c.text.rest ≡ Some c.in-Some.left.now = ap option_copied c.in-Some.is in record {
      lines = gathered_next (names_in c.args.symbols) c.args.text.now c.in-Some.left.now _ _ (found c.text.labels)
          (found c.note_line.new.labels) c.text.line c.text.pc c.words_of-size.result c.text.refused c.refuses-refused.result _ _
          (source_of c.in_ok-source.source)
          (subst R rest c.text.invariant.lines) c.first_line.ensures.lines c.first_line.ensures.shorter c.in_ok-source.ensures.read
          c.in_ok-note_line.ensures.first c.words_of-size.ensures.value c.in_ok-keep.ensures.ok c.refuses-refused.ensures;
      small = small_next c.text.refused _ _ (source_of c.in_ok-source.source) c.text.line c.text.pc c.words_of-size.result _ _
          c.in_ok-keep.ensures.ok c.words_of-size.ensures.value c.words_of-size.ensures.small c.text.kept.ok.0 c.keep.new.lines.ok.0
          c.text.invariant.small;
    }

pub returns-clause-gathered : goal.returns-clause-gathered
returns-clause-gathered c =
    let R : Option (List ℕ) → Type 0 = λ r. Gathered (names_in c.args.symbols) c.args.text.now r (found c.text.labels) c.text.line c.text.pc
    c.text.refused (map kept_view c.text.kept.items) in
    let ended : option_copied c.text.rest ≡ None = ap option_copied c.in_default.is in
    gathered_end (names_in c.args.symbols) c.args.text.now _ c.text.line c.text.pc c.text.refused _ (subst R ended c.text.invariant.lines)

pub returns-clause-short : goal.returns-clause-short
returns-clause-short c = short_lines (names_in c.args.symbols) c.args.text.now _ _ c.text.line c.text.pc _ c.text.refused c.text.kept.items
    c.text.invariant.lines (omega (arith, c.text.invariant.lines.bound))
