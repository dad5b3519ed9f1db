use Rattle.std.proofs.Common.{◌≡◌, ◌∙◌, Bool, List, length, sym, ap, subst}
use Rattle.bpf_names.specs.Names.{names_of}
use Rattle.bpf_machine.specs.Machine.{MachineState}
use Rattle.bpf_explore.specs.Outcomes.{IsExplored}
use Rattle.bpf_explore.specs.Search.{is_whole, is_refused}
use Rattle.bpf_explore.proofs.ExploreLaws.{explored}
use Rattle.bpf_explore.proofs.exploring.conclude.Goals as goal

pub returns : goal.returns
returns c w limit begins came =
    let names = names_of c.args.names.now in
    let maps = c.args.maps in
    let kept = c.args.explorer.now.kept in
    let answers = c.in_ok-answers.answers.items in
    let count : c.len-states.result ≡ length kept = c.len-states.ensures ∙ ap (λ (ms : List MachineState). length ms) c.find_answers.ensures.same in
    let extent = c.args.extent in
    let all : c.is_whole.result ≡ is_whole extent = c.is_whole.ensures in
    let refused : c.is_refused.result ≡ is_refused extent = c.is_refused.ensures in
    subst (λ (b : Bool). IsExplored w names maps answers b c.is_refused.result limit c.len-states.result) (sym all)
    (subst (λ (b : Bool). IsExplored w names maps answers (is_whole extent) b limit c.len-states.result) (sym refused)
    (subst (IsExplored w names maps answers (is_whole extent) (is_refused extent) limit) (sym count)
    (explored c.cover_tells_all.ensures kept w names maps answers extent limit begins came c.in_ok-answers.ensures.outcomes
    (λ whole. c.in_ok-answers.ensures.answered) c.leads.ensures c.apart.ensures)))
