use Rattle.std.proofs.Common.{map, arith}
use Rattle.std.proofs.lemmas.List.{length-map}
use Rattle.bpf_text.specs.Symbols.{names_in}
use Rattle.bpf_text.specs.Private.Look.{look}
use Rattle.bpf_text.proofs.Misfits.{none_unfit, some_unfit}
use Rattle.bpf_text.proofs.misfit.unfit_at.Goals as goal

pub loop-n-preserved : goal.loop-n-preserved
loop-n-preserved c = none_unfit (names_in c.args.symbols) (map look c.args.tokens.now) c.in_ok-some.some.items c.deref.result.now c.loop-n.n
    c.is_unfit.result c.loop-n.invariant c.deref.ensures.value c.in_ok-some.ensures.same c.if-is_unfit.false c.is_unfit.ensures

pub unreachable-requires : goal.unreachable-requires
unreachable-requires c =
    let tokens = c.args.tokens.now in
    some_unfit (names_in c.args.symbols) (map look tokens) c.requires
    (λ k lt u. c.loop-n.invariant k (omega (arith, lt, length-map tokens look, c.loop-n-test.false)) u)
