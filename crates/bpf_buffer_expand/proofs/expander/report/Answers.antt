use Rattle.bpf_buffer_expand.proofs.expander.report.Goals as goal

pub returns : goal.returns
returns c = (c.in_ok-report.report.stopped, λ x shows. c.in_ok-report.ensures x shows)
