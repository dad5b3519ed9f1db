use Rattle.bpf_threads.proofs.chart.begin.Goals as goal

pub returns : goal.returns
returns c t = (c.spot_at-first.result.now, c.spot_at-first.ensures, c.is_first.ensures t)
