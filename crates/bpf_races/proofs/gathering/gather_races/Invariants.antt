use Rattle.std.proofs.Common.{◌≡◌, false}
use Rattle.bpf_races.proofs.GatherLaws.{KeptSoFar}
use Rattle.bpf_races.proofs.gathering.gather_races.Given as goal

abbrev pub invariant-loop-place : goal.invariant-loop-place
invariant-loop-place g l =
    let kept = g.S.Searched.kept in
    KeptSoFar (g.S.Searched.patient ≡ false) (kept l.fn.search) l.sync l.place (kept l.search) l.races.items l.all
