use Rattle.bpf_cpu.proofs.DeterminedRuns.{no_maps_no_events as law}
use Rattle.bpf_cpu.proofs.laws.no_maps_no_events.Goals as goal

pub returns : goal.returns
returns c = law
