use Rattle.bpf_equal.proofs.finding.is_told.Goals as goal

pub returns-then-peer : goal.returns-then-peer
returns-then-peer c is blind = c.is_blind.ensures is
