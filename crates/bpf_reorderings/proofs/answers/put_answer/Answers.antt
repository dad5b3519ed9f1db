use Rattle.std.proofs.Common.{List, ◌∙◌, ap, sym, subst}
use Rattle.std.specs.Prelude.{slice_get}
use Rattle.bpf_explore.specs.Outcomes.{Found}
use Rattle.bpf_explore.specs.Private.Answers.{AreSorted, KeepsAll}
use Rattle.bpf_explore.proofs.AnswerLaws.{sorted_still, kept_all, at_here}
use Rattle.bpf_reorderings.specs.Private.Answers.{AllEnd}
use Rattle.bpf_reorderings.proofs.Printing.{all_end_still}
use Rattle.bpf_reorderings.proofs.answers.put_answer.Goals as goal

pub returns-clause-sorted : goal.returns-clause-sorted
returns-clause-sorted c = subst AreSorted (sym c.in_ok-insert.ensures.items)
    (sorted_still c.args.answers.now.items c.args.at c.args.answer c.requires.place.within c.requires.sorted c.requires.place)

pub returns-clause-keeps : goal.returns-clause-keeps
returns-clause-keeps c = subst (KeepsAll c.args.answers.now.items) (sym c.in_ok-insert.ensures.items)
    (kept_all c.args.answers.now.items c.args.at c.args.answer c.requires.place.within)

pub returns-clause-ends : goal.returns-clause-ends
returns-clause-ends c patient w names maps one all = subst (AllEnd patient w names maps) (sym c.in_ok-insert.ensures.items)
    (all_end_still c.args.answers.now.items c.args.at c.args.answer c.requires.place.within patient w names maps one all)

pub returns-clause-put : goal.returns-clause-put
returns-clause-put c = ap (λ (xs : List Found). slice_get xs c.args.at) c.in_ok-insert.ensures.items ∙ at_here c.args.answers.now.items
    c.args.at c.args.answer c.requires.place.within
