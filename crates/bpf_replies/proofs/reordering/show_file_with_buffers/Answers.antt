use Rattle.std.proofs.Common.{rules, ◌≡◌, ◌-◌, ◌<◌, ℕ, true, List, Some, length, refl, subst, sym}
use Rattle.std.specs.Prelude.{slice_get}
use Rattle.std.proofs.lemmas.Bool.{ltb-true}
use Rattle.std.proofs.lemmas.Option.{slice_get_read}
use Rattle.bpf_explore.specs.Outcomes.{Found}
use Rattle.bpf_replies.specs.Answer.{Replies}
use Rattle.bpf_replies.specs.Exploring.{IsShownBy}
use Rattle.bpf_replies.specs.Reordering.{AreFoundOnX86}
use Rattle.bpf_replies.specs.Running.{IsBufferHistory}
use Rattle.bpf_replies.proofs.ShownReplies.{all_shown, none_shown}
use Rattle.bpf_replies.proofs.reordering.show_file_with_buffers.Goals as goal

pub returns : goal.returns
returns g c =
    let explored = c.in_ok-explored.explored in
    let text = c.args.text.now in
    let found = c.in-Some.answer.now in
    let place = c.args.outcome - 1 in
    let items = c.deref.result.now in
    let history = subst (λ (runs : List (ℕ × ℕ)). Replies (IsShownBy (IsBufferHistory runs true) explored.all
    (length explored.answers.items) explored.states text) c.show_by.result) c.by.ensures c.show_by.ensures in
    let are : AreFoundOnX86 c.args.options.now.patient text c.args.options.now.limit explored.answers.items explored.all explored.states =
    c.in_ok-explored.ensures.found in
    let inside : place < length items = ltb-true place (length items) (sym c.in-Some.ensures.lookup.0) in
    let read : slice_get items place ≡ Some found = slice_get_read items (length items) place found refl inside c.in-Some.ensures.lookup.1 in
    let at = subst (λ (xs : List Found). slice_get xs place ≡ Some found) c.deref.ensures.value read in
    all_shown (AreFoundOnX86 c.args.options.now.patient text c.args.options.now.limit) (λ (by : List (ℕ × ℕ)). IsBufferHistory by true)
    c.args.outcome text explored.answers.items
    explored.all explored.states found are at c.show_by.result history

pub returns-in_default : goal.returns-in_default
returns-in_default g c =
    let explored = c.in_ok-explored.explored in
    let text = c.args.text.now in
    let items = explored.answers.items in
    let are : AreFoundOnX86 c.args.options.now.patient text c.args.options.now.limit items explored.all explored.states = c.in_ok-explored.ensures.found in
    let few : length items < c.args.outcome = search rules in
    none_shown (AreFoundOnX86 c.args.options.now.patient text c.args.options.now.limit) (λ (by : List (ℕ × ℕ)). IsBufferHistory by true)
    c.args.outcome text items explored.all
    explored.states are few c.in_ok-missing.field-0 c.in_ok-missing.ensures
