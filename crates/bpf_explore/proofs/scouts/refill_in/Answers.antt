use Rattle.bpf_explore.proofs.AlbumLaws.{fits_after}
use Rattle.bpf_explore.proofs.scouts.refill_in.Goals as goal

pub returns-then-patient-clause-fits : goal.returns-then-patient-clause-fits
returns-then-patient-clause-fits c stock fits = fits_after stock c.args.machine.now c.refill.new.self c.refill.ensures.same fits
