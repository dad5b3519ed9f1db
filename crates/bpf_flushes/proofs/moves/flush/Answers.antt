use Rattle.bpf_flushes.proofs.Turning.{flush_made, passed_over}
use Rattle.bpf_flushes.proofs.moves.flush.Goals as goal

pub returns-clause-makes : goal.returns-clause-makes
returns-clause-makes c = flush_made c.args.machine.now c.flush.new.self c.args.cpu c.flush.result c.flush.ensures.flushed
    c.flush.ensures.empty c.flush.ensures.unchanged

pub returns-clause-idle : goal.returns-clause-idle
returns-clause-idle c = λ still n. passed_over c.args.machine.now c.flush.new.self c.args.cpu (c.flush.ensures.unchanged still) (c.flush.ensures.empty still) n
