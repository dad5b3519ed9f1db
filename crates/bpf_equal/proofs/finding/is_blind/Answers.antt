use Rattle.std.proofs.Common.{◌≡◌, Some, ap, sym, subst, arith, refl, length, ◌∙◌}
use Rattle.std.specs.Prelude.{slice_get}
use Rattle.std.specs.List.{list_any}
use Rattle.std.proofs.lemmas.Option.{slice_get_read}
use Rattle.bpf_shared.specs.declared.shapes.ArrayShape.{ArrayShape}
use Rattle.bpf_equal.specs.States.{AsksNoMarks}
use Rattle.bpf_equal.proofs.FoundLaws.{none_passes, not_so, same_program}
use Rattle.bpf_equal.proofs.finding.is_blind.Goals as goal

pub returns : goal.returns
returns c is =
    let shape = c.args.shape.now in
    let programs = c.args.programs.now in
    let i = c.index-programs-program in
    let none = ap (list_any (λ (g : ArrayShape). g.per_cpu)) (sym c.arrays.ensures.arrays) ∙ (sym c.are_some_by_cpu.ensures ∙ c.if-are_some_by_cpu.false)
    in
    let there : slice_get programs c.args.program ≡ Some i.result =
    slice_get_read programs (length programs) c.args.program i.result refl (omega (arith, c.if-program-programs.false)) i.is in
    let asks : AsksNoMarks i.result = c.asks_marks.ensures (not_so c.asks_marks.result is) in (
      (λ a g at. none_passes (λ (x : ArrayShape). x.per_cpu) shape.arrays a g none at),
      (λ program at. subst AsksNoMarks (same_program programs c.args.program i.result program there at) asks),
    )
