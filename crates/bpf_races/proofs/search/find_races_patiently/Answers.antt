use Rattle.std.proofs.Common.{subst, ℕ, true}
use Rattle.std.proofs.lemmas.Result.{IfOk-weaker}
use Rattle.bpf_machine.specs.Schedule.{World}
use Rattle.bpf_jobs.specs.Printed.{first_of}
use Rattle.bpf_explore.specs.Album.{BeginsAt}
use Rattle.bpf_explore.specs.Search.{CameTo, Richly}
use Rattle.bpf_explore.proofs.ExploreLaws.{still_begins}
use Rattle.bpf_x86.specs.Laws.{FirstsFit}
use Rattle.bpf_races.specs.declared.search.Races.{Races}
use Rattle.bpf_races.specs.Races.{AreRaces}
use Rattle.bpf_races.proofs.search.find_races_patiently.Goals as goal

pub returns : goal.returns
returns g c =
    let w = first_of c.args.setup in
    let sync = c.args.sync.now in
    let limit = c.args.scope.limit in
    let fits : FirstsFit w.programs = subst FirstsFit c.deref.ensures.value c.firsts_fit.ensures in
    let kept = c.explore-extent.new.frontier.kept in
    let peers = c.explore-extent.new.frontier.peers in
    let extent = c.explore-extent.result in
    let searched = c.explore-extent.ensures in
    let begins : BeginsAt kept w = still_begins c.in_ok-watcher.explorer.kept kept w c.in_ok-watcher.ensures searched.extends in
    let came : CameTo (Richly peers) kept extent limit = record
    { whole = searched.whole; covers = searched.covers; met = searched.met; short = searched.short } in
    IfOk-weaker c.conclude_patiently.result (λ (r : Races). (v : World) (n : ℕ) → FirstsFit v.programs → BeginsAt kept v → CameTo (Richly peers) kept
    extent n → AreRaces true v sync r.list.items r.all r.refused n) (λ (r : Races). AreRaces true w sync r.list.items r.all r.refused limit)
    (λ r found. found w limit fits begins came) c.conclude_patiently.ensures
