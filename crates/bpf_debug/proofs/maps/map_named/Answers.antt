use Rattle.std.proofs.Common.{List, ℕ, Some, sym, ap, ◌∙◌, arith}
use Rattle.std.specs.Cmp.Lexicographic.{same_text, other_text}
use Rattle.bpf_debug.proofs.ReadLaws.{name_there, name_not_there, no_more_names}
use Rattle.bpf_debug.proofs.maps.map_named.Goals as goal

pub returns-then-eq-clause-named : goal.returns-then-eq-clause-named
returns-then-eq-clause-named c =
    let same = sym c.as_bytes.ensures.value ∙ same_text c.as_bytes.result.now c.args.name.now c.if-eq.ensures in (
      name_there c.args.names.now c.index-names-number.result c.loop-number.number c.loop-number-test.true c.index-names-number.is
          ∙ ap (λ (n : List ℕ). Some n) same,
      c.loop-number.invariant,
    )

pub loop-number-preserved : goal.loop-number-preserved
loop-number-preserved c =
    name_not_there c.args.names.now c.index-names-number.result c.args.name.now c.loop-number.number c.loop-number-test.true c.index-names-number.is
    (λ same. other_text c.as_bytes.result.now c.args.name.now c.if-eq.ensures (c.as_bytes.ensures.value ∙ same)) c.loop-number.invariant

pub returns-clause-none : goal.returns-clause-none
returns-clause-none c = no_more_names c.args.names.now c.args.name.now c.loop-number.number c.loop-number.invariant
    (let past = c.loop-number-test.false in omega arith)
