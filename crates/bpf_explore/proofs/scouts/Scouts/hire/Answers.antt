use Rattle.std.proofs.Common.{List, sym, subst}
use Rattle.bpf_explore.specs.declared.scouts.Scout.{Scout}
use Rattle.bpf_explore.specs.Scouts.{AreScouts}
use Rattle.bpf_explore.proofs.ScoutLaws.{one_more_scout}
use Rattle.bpf_explore.proofs.scouts.Scouts.hire.Goals as goal

pub loop-preserved : goal.loop-preserved
loop-preserved c =
    let a = c.args.album.now in
    subst (λ (ss : List Scout). AreScouts c.args.patient a.kept a.stock ss) (sym c.in_ok-push.ensures.items)
    (one_more_scout c.args.patient a.kept a.stock c.loop.self.scouts.items c.in_ok-scout.scout c.loop.invariant
    (c.in_ok-scout.ensures a.kept a.stock c.in_ok-machine.ensures))
