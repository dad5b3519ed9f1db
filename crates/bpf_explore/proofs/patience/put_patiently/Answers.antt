use Rattle.std.proofs.Common.{List, ◌∙◌, ap, sym, subst}
use Rattle.std.specs.Prelude.{slice_get}
use Rattle.bpf_explore.specs.Outcomes.{Found}
use Rattle.bpf_explore.specs.Private.Answers.{AreSorted, KeepsAll}
use Rattle.bpf_explore.specs.Private.Patience.{AllEndPatiently}
use Rattle.bpf_explore.proofs.AnswerLaws.{none_lost, sorted_still, kept_all, at_here}
use Rattle.bpf_explore.proofs.PatienceLaws.{all_end_patiently}
use Rattle.bpf_explore.proofs.patience.put_patiently.Goals as goal

pub returns-in_err-insert-clause-sorted : goal.returns-in_err-insert-clause-sorted
returns-in_err-insert-clause-sorted c = subst AreSorted (sym c.in_err-insert.ensures.items) c.requires.sorted

pub returns-in_err-insert-clause-keeps : goal.returns-in_err-insert-clause-keeps
returns-in_err-insert-clause-keeps c = subst (KeepsAll c.args.answers.now.items) (sym c.in_err-insert.ensures.items) (none_lost c.args.answers.now.items)

pub returns-in_err-insert-clause-ends : goal.returns-in_err-insert-clause-ends
returns-in_err-insert-clause-ends c w names maps one all = subst (AllEndPatiently w names maps) (sym c.in_err-insert.ensures.items) all

pub returns-clause-sorted : goal.returns-clause-sorted
returns-clause-sorted c = subst AreSorted (sym c.in_ok-insert.ensures.items)
    (sorted_still c.args.answers.now.items c.args.at c.args.answer c.requires.place.within c.requires.sorted c.requires.place)

pub returns-clause-keeps : goal.returns-clause-keeps
returns-clause-keeps c = subst (KeepsAll c.args.answers.now.items) (sym c.in_ok-insert.ensures.items)
    (kept_all c.args.answers.now.items c.args.at c.args.answer c.requires.place.within)

pub returns-clause-ends : goal.returns-clause-ends
returns-clause-ends c w names maps one all = subst (AllEndPatiently w names maps) (sym c.in_ok-insert.ensures.items)
    (all_end_patiently c.args.answers.now.items c.args.at c.args.answer c.requires.place.within w names maps one all)

pub returns-clause-put : goal.returns-clause-put
returns-clause-put c = ap (λ (xs : List Found). slice_get xs c.args.at) c.in_ok-insert.ensures.items ∙ at_here c.args.answers.now.items
    c.args.at c.args.answer c.requires.place.within
