use Rattle.bpf_replies.proofs.printing.write_line.Goals as goal

pub returns-in-Err-clause-memory : goal.returns-in-Err-clause-memory
returns-in-Err-clause-memory g c = rw c.in-Err.is c.write_text-in-Err.ensures
