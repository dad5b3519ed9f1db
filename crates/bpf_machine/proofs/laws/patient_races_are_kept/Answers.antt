use Rattle.bpf_machine.proofs.PatientRaceLaws.{patient_races_are_kept as law}
use Rattle.bpf_machine.proofs.laws.patient_races_are_kept.Goals as goal

pub returns : goal.returns
returns c = law c.writes_are_determined.ensures c.one_instruction_begins.ensures c.calls_have_one_reply.ensures
