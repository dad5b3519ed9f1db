use Rattle.std.proofs.Common.{ℕ}
use Rattle.std.proofs.lemmas.Result.{IfOk-weaker}
use Rattle.bpf_names.specs.Names.{names_of}
use Rattle.bpf_machine.specs.Schedule.{World}
use Rattle.bpf_jobs.specs.Printed.{first_of}
use Rattle.bpf_explore.specs.declared.exploring.Explored.{Explored}
use Rattle.bpf_explore.specs.Album.{BeginsAt}
use Rattle.bpf_explore.specs.Outcomes.{IsExplored}
use Rattle.bpf_explore.specs.Search.{CameToEnds, ShowsEnds}
use Rattle.bpf_explore.proofs.ExploreLaws.{starts_fresh, still_begins}
use Rattle.bpf_explore.proofs.exploring.explore_jobs.Goals as goal

pub close_ends-spread-requires : goal.close_ends-spread-requires
close_ends-spread-requires g c =
    let w = first_of c.args.setup in
    let kept = c.explore-came.new.frontier.found.kept in
    starts_fresh kept w (still_begins c.in_ok-explorer.explorer.found.kept kept w c.in_ok-explorer.ensures c.explore-came.ensures.extends)

pub conclude-requires : goal.conclude-requires
conclude-requires g c =
    let w = first_of c.args.setup in
    let kept = c.explore-came.new.frontier.found.kept in
    let begins = still_begins c.in_ok-explorer.explorer.found.kept kept w c.in_ok-explorer.ensures c.explore-came.ensures.extends in
    (w, (c.close_ends-spread.ensures.begins w begins).1)

pub returns : goal.returns
returns g c =
    let w = first_of c.args.setup in
    let names = names_of c.args.names.now in
    let maps = c.args.maps in
    let limit = c.args.scope.limit in
    let kept = c.explore-came.new.frontier.found.kept in
    let begins : BeginsAt kept w = still_begins c.in_ok-explorer.explorer.found.kept kept w c.in_ok-explorer.ensures c.explore-came.ensures.extends in
    let all = c.close_ends-spread.result.0.kept in
    let extent = c.close_ends-spread.result.1 in
    let came : CameToEnds ShowsEnds all extent limit = c.close_ends-spread.ensures.ends (record {
      whole = c.explore-came.ensures.whole;
      covers = c.explore-came.ensures.covers;
      met = c.explore-came.ensures.met;
      short = c.explore-came.ensures.short;
    }) in
    IfOk-weaker c.conclude.result (λ (e : Explored). (v : World) (n : ℕ) → BeginsAt all v → CameToEnds ShowsEnds all extent n → IsExplored v names
    maps e.answers.items e.all e.refused n e.states) (λ (e : Explored). IsExplored w names maps e.answers.items e.all e.refused limit e.states)
    (λ e found. found w limit (c.close_ends-spread.ensures.begins w begins) came) c.conclude.ensures
