use Rattle.std.proofs.Common.{◌≡◌, ◌+◌, ◌*◌, ◌%◌, ◌≤◌, ◌∙◌, ap, sym, arith}
use Rattle.std.proofs.lemmas.Bool.{eqb-true}
use Rattle.std.proofs.lemmas.Bool.Decides.{nat_tests}
use Rattle.bpf_helpers.specs.Private.Grid.{IsOffset, stride_of}
use Rattle.bpf_helpers.proofs.OnGrid.{passes, passed}
use Rattle.bpf_helpers.proofs.grid.Grid.has.Goals as goal

pub returns-in_default : goal.returns-in_default
returns-in_default c =
    (λ t. absurd (grind (arith, nat_tests)), λ on. absurd (c.in_default.ensures.none on.map (on.element * stride_of c.args.span.size) on.start))

pub returns-then-offset-stride-eq0 : goal.returns-then-offset-stride-eq0
returns-then-offset-stride-eq0 c =
    let sizes = c.args.self.now.sizes in
    let p = c.args.span in
    let o = c.in-Some.offset in
    let size = c.from.result in
    let offset : IsOffset p.at c.in-Some.map o = c.in-Some.ensures.some in
    let long : c.from-stride.result ≡ stride_of size = c.from-stride.ensures ∙ (c.stride_of.ensures.stride ∙ ap stride_of (sym c.from.ensures)) in
    let some : size ≡ 0 → ⊥ = λ z. c.if-size-eq0.false (sym c.from.ensures ∙ z) in
    let on : o % c.from-stride.result ≡ 0 = c.if-offset-stride-eq0.true in (
      λ t. (let room : o + p.size ≤ 0x1000_0000 = grind (arith, nat_tests) in
          passes sizes p c.in-Some.map o size c.from-stride.result offset c.from.ensures c.if-from-span.false some long on room),
      λ is. (let fits = passed sizes p c.in-Some.map o size c.from-stride.result offset c.from.ensures c.if-from-span.false some long is in
          let room : o + p.size ≤ 0x1000_0000 = fits.1 in
          grind (arith, nat_tests)),
    )

pub returns-else-offset-stride-eq0 : goal.returns-else-offset-stride-eq0
returns-else-offset-stride-eq0 c =
    let sizes = c.args.self.now.sizes in
    let p = c.args.span in
    let o = c.in-Some.offset in
    let size = c.from.result in
    let offset : IsOffset p.at c.in-Some.map o = c.in-Some.ensures.some in
    let long : c.from-stride.result ≡ stride_of size = c.from-stride.ensures ∙ (c.stride_of.ensures.stride ∙ ap stride_of (sym c.from.ensures)) in
    let some : size ≡ 0 → ⊥ = λ z. c.if-size-eq0.false (sym c.from.ensures ∙ z) in
    let off : o % c.from-stride.result ≡ 0 → ⊥ = c.if-offset-stride-eq0.false in (
      λ t. (let on : o % c.from-stride.result ≡ 0 = eqb-true (o % c.from-stride.result) 0 t in absurd (off on)),
      λ is. absurd (off (passed sizes p c.in-Some.map o size c.from-stride.result offset c.from.ensures c.if-from-span.false some long is).0),
    )
