use Rattle.std.proofs.Common.{rules, ◌≡◌, ◌<◌, length, Some, slice_get, refl, sym, ap, ◌∙◌, subst, arith}
use Rattle.std.proofs.lemmas.Bool.{ltb-true}
use Rattle.std.proofs.lemmas.Option.{slice_get_read}
use Rattle.bpf_helpers.proofs.Binned.{IsAt, missed, stepped}
use Rattle.bpf_helpers.proofs.bins.Bins.have.Goals as goal

pub returns-then-number-eq0 : goal.returns-then-number-eq0
returns-then-number-eq0 c =
    let there = c.in-Some.ensures.lookup in
    let within : c.loop-other.number < length c.args.spans.now = ltb-true c.loop-other.number (length c.args.spans.now) (sym there.0) in
    let here : slice_get c.args.spans.now c.loop-other.number ≡ Some c.in-Some.other.now =
    slice_get_read c.args.spans.now (length c.args.spans.now) c.loop-other.number c.in-Some.other.now refl within there.1 in
    let first : slice_get c.args.spans.now 0 ≡ Some c.in-Some.other.now =
    ap (λ k. slice_get c.args.spans.now k) (sym c.if-number-eq0.true) ∙ here in
    let at : IsAt c.args.spans.now c.args.span 0 = subst (λ k. IsAt c.args.spans.now c.args.span k) c.if-number-eq0.true c.loop-other.invariant.at in
    sym (missed c.args.spans.now c.args.span c.in-Some.other.now first (sym c.if-is_same.ensures) at)

pub loop-other-preserved : goal.loop-other-preserved
loop-other-preserved c =
    let there = c.in-Some.ensures.lookup in
    let within : c.loop-other.number < length c.args.spans.now = ltb-true c.loop-other.number (length c.args.spans.now) (sym there.0) in
    let here : slice_get c.args.spans.now c.loop-other.number ≡ Some c.in-Some.other.now =
    slice_get_read c.args.spans.now (length c.args.spans.now) c.loop-other.number c.in-Some.other.now refl within there.1 in
    let least = c.if-number-eq0.false in
    record {
      small = search rules;
      at = stepped c.args.self.now.latest c.args.self.now.earlier c.args.spans.now c.args.span c.loop-other.number c.in-Some.other.now
          c.requires.binned here (sym c.if-is_same.ensures) (omega arith) c.loop-other.invariant.at;
    }
