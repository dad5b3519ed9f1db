use Rattle.std.proofs.Common.{rules, ◌≡◌, ◌-◌, ◌<◌, ℕ, Bool, true, false, List, Some, length, refl, subst, sym}
use Rattle.std.specs.Prelude.{slice_get}
use Rattle.std.proofs.lemmas.Bool.{ltb-true}
use Rattle.std.proofs.lemmas.Option.{slice_get_read}
use Rattle.bpf_explore.specs.Outcomes.{Found}
use Rattle.bpf_replies.specs.Answer.{Replies}
use Rattle.bpf_replies.specs.Exploring.{AreFoundBy, IsShownBy}
use Rattle.bpf_replies.specs.Running.{IsHistoryBy}
use Rattle.bpf_replies.proofs.ShownReplies.{all_shown}
use Rattle.bpf_replies.proofs.exploring.show_file.Goals as goal

pub returns : goal.returns
returns g c =
    let explored = c.in_ok-explored.explored in
    let text = c.args.text.now in
    let found = c.in-Some.answer.now in
    let place = c.args.outcome - 1 in
    let items = c.deref.result.now in
    let history = subst (λ (runs : List (ℕ × ℕ)). Replies (IsShownBy (IsHistoryBy runs false true) explored.all
    (length explored.answers.items) explored.states text) c.show_by.result) c.by.ensures c.show_by.ensures in
    let are : AreFoundBy c.args.options.patient text explored.answers.items explored.all c.args.options.limit explored.states = search rules in
    let inside : place < length items = ltb-true place (length items) (sym c.in-Some.ensures.lookup.0) in
    let read : slice_get items place ≡ Some found = slice_get_read items (length items) place found refl inside c.in-Some.ensures.lookup.1 in
    let at = subst (λ (xs : List Found). slice_get xs place ≡ Some found) c.deref.ensures.value read in
    all_shown (λ (answers : List Found) (all : Bool) (states : ℕ). AreFoundBy c.args.options.patient text answers all c.args.options.limit states)
    (λ (by : List (ℕ × ℕ)). IsHistoryBy by false true) c.args.outcome text explored.answers.items explored.all explored.states found are at
    c.show_by.result history
