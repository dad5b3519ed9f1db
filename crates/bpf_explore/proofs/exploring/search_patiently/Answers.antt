use Rattle.std.proofs.lemmas.Result.{IfOk-weaker}
use Rattle.bpf_names.specs.Names.{names_of}
use Rattle.bpf_machine.specs.Schedule.{World}
use Rattle.bpf_jobs.specs.Printed.{first_of}
use Rattle.bpf_explore.specs.declared.exploring.ExploredPatiently.{ExploredPatiently}
use Rattle.bpf_explore.specs.Album.{BeginsAt}
use Rattle.bpf_explore.specs.Patient.{IsSearchedPatiently}
use Rattle.bpf_explore.specs.Search.{CameTo, Richly}
use Rattle.bpf_explore.proofs.ExploreLaws.{still_begins, starts_fresh}
use Rattle.bpf_explore.proofs.exploring.search_patiently.Goals as goal

pub conclude_patiently-requires-clause-fresh : goal.conclude_patiently-requires-clause-fresh
conclude_patiently-requires-clause-fresh g c =
    let w = first_of c.args.setup in
    let kept = c.explore-extent.new.frontier.kept in
    starts_fresh kept w (still_begins c.in_ok-explorer.explorer.kept kept w c.in_ok-explorer.ensures.begins c.explore-extent.ensures.extends)

pub conclude_patiently-requires-clause-made : goal.conclude_patiently-requires-clause-made
conclude_patiently-requires-clause-made g c is = c.explore-extent.ensures.made is c.in_ok-explorer.ensures.none

pub returns : goal.returns
returns g c =
    let w = first_of c.args.setup in
    let names = names_of c.args.names.now in
    let maps = c.args.maps in
    let limit = c.args.scope.limit in
    let kept = c.explore-extent.new.frontier.kept in
    let peers = c.explore-extent.new.frontier.peers in
    let extent = c.explore-extent.result in
    let begins : BeginsAt kept w = still_begins c.in_ok-explorer.explorer.kept kept w c.in_ok-explorer.ensures.begins c.explore-extent.ensures.extends in
    let came : CameTo (Richly peers) kept extent limit = record {
      whole = c.explore-extent.ensures.whole;
      covers = c.explore-extent.ensures.covers;
      met = c.explore-extent.ensures.met;
      short = c.explore-extent.ensures.short;
    } in
    IfOk-weaker c.conclude_patiently.result
    (λ (e : ExploredPatiently). (v : World) → BeginsAt kept v → CameTo (Richly peers) kept extent limit → IsSearchedPatiently v names maps
    e.answers.items e.all e.refused limit e.states e.hung.items e.budgets)
    (λ (e : ExploredPatiently). IsSearchedPatiently w names maps e.answers.items e.all e.refused limit e.states e.hung.items e.budgets)
    (λ e found. found w begins came) c.conclude_patiently.ensures
