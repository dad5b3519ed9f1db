use Rattle.std.proofs.Common.{ap, ◌∙◌, ℕ, List}
use Rattle.std.specs.Ordering.{nat_cmp}
use Rattle.std.specs.Cmp.Lexicographic.{slice_cmp}
use Rattle.bpf_explore.proofs.AnswerLaws.{is_found, next_less, place_before, place_behind}
use Rattle.bpf_reorderings.proofs.answers.place_of.Goals as goal

pub returns-in-Equal-clause-found : goal.returns-in-Equal-clause-found
returns-in-Equal-clause-found c =
    is_found c.args.answers.now c.loop-place.place c.index-answers-place.result c.args.text.now c.loop-place-test.true c.index-answers-place.is
    (c.in-Equal.ensures ∙ ap (λ (t : List ℕ). slice_cmp nat_cmp t c.args.text.now) c.text.ensures)

pub returns-in-Greater-clause-between : goal.returns-in-Greater-clause-between
returns-in-Greater-clause-between c =
    place_before c.args.answers.now c.loop-place.place c.index-answers-place.result c.args.text.now c.loop-place-test.true
    c.index-answers-place.is c.requires c.loop-place.invariant
    (c.in-Greater.ensures ∙ ap (λ (t : List ℕ). slice_cmp nat_cmp t c.args.text.now) c.text.ensures)

pub loop-place-preserved : goal.loop-place-preserved
loop-place-preserved c =
    next_less c.args.answers.now c.loop-place.place c.index-answers-place.result c.args.text.now c.loop-place-test.true
    c.index-answers-place.is c.loop-place.invariant
    (c.in-Less.ensures ∙ ap (λ (t : List ℕ). slice_cmp nat_cmp t c.args.text.now) c.text.ensures)

pub returns-clause-between : goal.returns-clause-between
returns-clause-between c = place_behind c.args.answers.now c.args.text.now c.loop-place.place c.loop-place-test.false c.loop-place.invariant
