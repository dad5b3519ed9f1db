use Rattle.bpf_file.proofs.Fits.{files_can_run as law}
use Rattle.bpf_file.proofs.laws.files_can_run.Goals as goal

pub returns : goal.returns
returns c = law
