-- What is printed where no job is begun: J1 to J4. Our own choice.
use Rattle.bpf_codes.specs.declared.code.Code.TheVariants as code
use Rattle.bpf_codes.specs.declared.diagnostic.Diagnostic.{Diagnostic}
use Rattle.bpf_codes.specs.Diagnostic.{nowhere}
use Rattle.bpf_sched.specs.declared.refusal.SchedError.{SchedError}
use Rattle.bpf_sched.specs.declared.refusal.SchedError.TheVariants as error

abbrev pub sched_diagnostic : SchedError → Diagnostic
sched_diagnostic error.NoWorkers = nowhere code.J1
sched_diagnostic error.TooManyWorkers = nowhere code.J2
sched_diagnostic error.NoSuchCpu = nowhere code.J3
sched_diagnostic error.OutOfMemory = nowhere code.J4
