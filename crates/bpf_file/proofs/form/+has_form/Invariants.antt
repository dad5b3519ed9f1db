use Rattle.std.proofs.Common.{length}
use Rattle.bpf_file.proofs.form.+has_form.Given as goal

abbrev pub decreases-has_form : goal.decreases-has_form
decreases-has_form l = length l.form.now
