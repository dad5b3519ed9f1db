use Rattle.std.proofs.Common.{inr}
use Rattle.bpf_run.proofs.objects.write_objects.Goals as goal

pub returns-in-Err : goal.returns-in-Err
returns-in-Err g c = inr c.write_text-in-Err.ensures
