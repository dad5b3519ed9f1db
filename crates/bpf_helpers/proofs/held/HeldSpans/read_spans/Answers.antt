use Rattle.std.proofs.Common.{◌<◌, List, [], ◌∷◌, length, length-append, refl, sym, ap, subst, arith}
use Rattle.std.specs.Prelude.{All}
use Rattle.std.proofs.lemmas.List.Elements.{All-push}
use Rattle.bpf_shared.specs.declared.events.Span.{Span}
use Rattle.bpf_helpers.specs.Saved.{AreOnce, IsWide}
use Rattle.bpf_mem.proofs.Fronts.{if_none}
use Rattle.bpf_helpers.proofs.SpanLemmas.{none_next, none_held, once_more, one_read}
use Rattle.bpf_helpers.proofs.held.HeldSpans.read_spans.Goals as goal

pub returns-in_err-span-clause-none : goal.returns-in_err-span-clause-none
returns-in_err-span-clause-none c = if_none c.from_residual.result (λ others more size h e.
    let at = c.loop-number.invariant in
    let inside : length c.loop-number.self < length others = omega (arith, at.count, size) in
    none_next c.args.bytes.now c.loop-number.self c.loop-number.rest.now at.wide at.read others more inside h e c.in_err-span.ensures.none)

pub returns-then-not-take_in-clause-none : goal.returns-then-not-take_in-clause-none
returns-then-not-take_in-clause-none c = λ others more size h e.
    let at = c.loop-number.invariant in
    let inside : length c.loop-number.self < length others = omega (arith, at.count, size) in
    none_held c.args.bytes.now c.loop-number.self c.loop-number.rest.now at.wide at.read others more inside h e
    c.in_ok-span.span c.in_ok-span.behind.now c.in_ok-span.ensures.wide c.in_ok-span.ensures.some (c.if-not-take_in.ensures.refused refl)

pub loop-number-preserved : goal.loop-number-preserved
loop-number-preserved c =
    let at = c.loop-number.invariant in
    let span = c.in_ok-span.span in
    let is = c.take_in.ensures.held c.if-not-take_in.false in
    record {
      count = omega (arith, ap length is, length-append c.loop-number.self (span ∷ []), at.count);
      once = subst AreOnce (sym is) (once_more c.loop-number.self span at.once (c.take_in.ensures.fresh c.if-not-take_in.false));
      wide = subst (λ (l : List Span). All IsWide l) (sym is) (All-push IsWide c.loop-number.self span at.wide c.in_ok-span.ensures.wide);
      read = one_read c.args.bytes.now c.loop-number.self c.take_in.new.self span c.loop-number.rest.now c.in_ok-span.behind.now at.read
          c.in_ok-span.ensures.some is;
    }
