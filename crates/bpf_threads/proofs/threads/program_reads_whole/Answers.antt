use Rattle.bpf_threads.proofs.threads.program_reads_whole.Goals as goal

pub returns : goal.returns
returns c t = (c.program_at.result.now, c.program_at.ensures, c.reads_whole.ensures t)
