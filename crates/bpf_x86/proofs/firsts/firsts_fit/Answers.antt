use Rattle.std.proofs.Common.{◌≡◌, ◌<◌, Some, length, inl, inr, refl, sym, ap, subst, ◌∙◌, arith}
use Rattle.std.specs.Prelude.{slice_get}
use Rattle.std.proofs.lemmas.Bool.{cases_lt}
use Rattle.std.proofs.lemmas.Option.{slice_get_read}
use Rattle.bpf_x86.specs.Laws.{FirstFits}
use Rattle.bpf_x86.proofs.StepShapes.{below_length}
use Rattle.bpf_x86.proofs.firsts.firsts_fit.Goals as goal

pub loop-program-preserved : goal.loop-program-preserved
loop-program-preserved c k program less listed = elim (cases_lt k c.loop-program.program-index) [
  | inl below ↦ c.loop-program.invariant k program below listed
  | inr past ↦
      let here : k ≡ c.loop-program.program-index = omega arith in
      let item : slice_get c.args.programs.now c.loop-program.program-index ≡ Some c.program-item.result =
      slice_get_read c.args.programs.now (length c.args.programs.now) c.loop-program.program-index c.program-item.result refl
      c.loop-program-test.true c.program-item.is in
      let both : Some c.program-item.result ≡ Some program = sym item ∙ ap (slice_get c.args.programs.now) (sym here) ∙ listed in
      let one : c.program-item.result ≡ program = cc in
      subst FirstFits one c.first_fits.ensures
]

pub returns : goal.returns
returns c k program listed = c.loop-program.invariant k program
    (let less : k < length c.args.programs.now = below_length c.args.programs.now k program listed in let end = c.loop-program-test.false in omega arith)
    listed
