use Rattle.bpf_expand.proofs.Racing.{lines_have_races}
use Rattle.bpf_expand.proofs.laws.lines_have_races.Goals as goal

pub returns : goal.returns
returns c = lines_have_races c.saved_alike_look_alike.ensures c.alike_stand_alike.ensures c.races_are_kept.ensures c.patient_races_are_kept.ensures
