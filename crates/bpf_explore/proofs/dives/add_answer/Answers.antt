use Rattle.std.proofs.Common.{List, ℕ, sym, subst}
use Rattle.bpf_explore.specs.Outcomes.{Found}
use Rattle.bpf_explore.specs.Private.Answers.{AreOneMore, AreSorted, IsPlaceOf, KeepsAll}
use Rattle.bpf_explore.proofs.AnswerLaws.{kept_all, none_lost, sorted_still}
use Rattle.bpf_explore.proofs.DiveLaws.{one_more}
use Rattle.bpf_explore.proofs.dives.add_answer.Goals as goal

pub returns-in_ok-insert-clause-sorted : goal.returns-in_ok-insert-clause-sorted
returns-in_ok-insert-clause-sorted c =
    let items = c.args.answers.now.items in
    let at = c.in-Err.at in
    let place = subst (λ (t : List ℕ). IsPlaceOf items t at) c.text.ensures
    (subst (λ (xs : List Found). IsPlaceOf xs c.text.result.now at) c.deref.ensures.value c.in-Err.ensures.between) in
    subst AreSorted (sym c.in_ok-insert.ensures.items) (sorted_still items at c.args.answer place.within c.requires place)

pub returns-in_ok-insert-clause-adds : goal.returns-in_ok-insert-clause-adds
returns-in_ok-insert-clause-adds c =
    let items = c.args.answers.now.items in
    let at = c.in-Err.at in
    let place = subst (λ (xs : List Found). IsPlaceOf xs c.text.result.now at) c.deref.ensures.value c.in-Err.ensures.between in
    subst (AreOneMore items c.args.answer) (sym c.in_ok-insert.ensures.items) (one_more items at c.args.answer place.within)

pub returns-in_err-insert-clause-keeps : goal.returns-in_err-insert-clause-keeps
returns-in_err-insert-clause-keeps c = subst (KeepsAll c.args.answers.now.items) (sym c.in_err-insert.ensures.items) (none_lost c.args.answers.now.items)

pub returns-in_ok-insert-clause-keeps : goal.returns-in_ok-insert-clause-keeps
returns-in_ok-insert-clause-keeps c =
    let items = c.args.answers.now.items in
    let at = c.in-Err.at in
    let place = subst (λ (xs : List Found). IsPlaceOf xs c.text.result.now at) c.deref.ensures.value c.in-Err.ensures.between in
    subst (KeepsAll items) (sym c.in_ok-insert.ensures.items) (kept_all items at c.args.answer place.within)
