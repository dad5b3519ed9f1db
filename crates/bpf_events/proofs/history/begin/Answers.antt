use Rattle.std.proofs.Common.{map}
use Rattle.bpf_pairs.specs.Pairs.{pair_of}
use Rattle.bpf_pairs.proofs.Filling.{filled_shape}
use Rattle.bpf_jobs.specs.Printed.{asked_of}
use Rattle.bpf_events.proofs.Histories.{same_shape}
use Rattle.bpf_events.proofs.history.begin.Goals as goal

pub returns-clause-shape : goal.returns-clause-shape
returns-clause-shape c =
    same_shape c.args.setup.shape c.in_ok-machine.machine (asked_of c.args.keys c.args.setup) c.in_ok-recorder.recorder c.in_ok-machine.ensures
    (filled_shape c.args.setup.shape (map pair_of c.args.setup.pairs.items)) c.in_ok-recorder.ensures
