use Rattle.bpf_replies.proofs.CheckedPatientlyOnX86.{tests_on_x86_rest}
use Rattle.bpf_replies.proofs.laws.tests_on_x86_rest_on_searches.Goals as goal

pub returns : goal.returns
returns c = tests_on_x86_rest
