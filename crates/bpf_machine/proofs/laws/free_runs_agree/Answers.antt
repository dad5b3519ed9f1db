use Rattle.bpf_machine.proofs.EndLaws.{free_runs_agree as law}
use Rattle.bpf_machine.proofs.laws.free_runs_agree.Goals as goal

pub returns : goal.returns
returns c = law c.writes_are_determined.ensures c.one_instruction_begins.ensures c.calls_have_one_reply.ensures
