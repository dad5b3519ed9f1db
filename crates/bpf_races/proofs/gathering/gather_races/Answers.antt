use Rattle.std.proofs.Common.{◌≡◌, List, arith, subst, sym, false, true}
use Rattle.bpf_races.specs.Races.{RaceFound}
use Rattle.bpf_races.proofs.GatherLaws.{KeptSoFar, kept_begins, kept_goes_on, all_kept}
use Rattle.bpf_races.proofs.gathering.gather_races.Goals as goal

pub loop-place-init : goal.loop-place-init
loop-place-init g c =
    let kept = g.S.Searched.kept in
    subst (λ (xs : List RaceFound). KeptSoFar (g.S.Searched.patient ≡ false) (kept c.args.search.now) c.args.sync.now 0
    (kept c.args.search.now) xs true) (sym c.new-races.ensures.items)
    (kept_begins (g.S.Searched.patient ≡ false) (kept c.args.search.now) c.args.sync.now)

pub loop-place-preserved : goal.loop-place-preserved
loop-place-preserved g c =
    let kept = g.S.Searched.kept in
    kept_goes_on (g.S.Searched.patient ≡ false) (kept c.args.search.now) (kept c.loop-place.search) (kept c.add_at.new.search)
    c.args.sync.now c.loop-place.races.items c.add_at.new.races.items c.loop-place.place
    c.loop-place.all c.in_ok-listed.listed c.both-all.result c.loop-place.invariant c.add_at.ensures.same c.in_ok-listed.ensures.gathered
    c.in_ok-listed.ensures.keeps c.in_ok-listed.ensures.listed c.both-all.ensures.both
    c.in_ok-listed.ensures.exact c.both-all.ensures.not

pub returns-clause-listed : goal.returns-clause-listed
returns-clause-listed g c is =
    let kept = g.S.Searched.kept in
    all_kept (kept c.args.search.now) c.loop-place.races.items c.args.sync.now c.loop-place.place (omega arith) (c.loop-place.invariant.listed is)

pub returns-clause-exact : goal.returns-clause-exact
returns-clause-exact g c exact = c.loop-place.invariant.sure exact
