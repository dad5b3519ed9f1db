use Rattle.std.specs.Prelude.{◌<◌, All}
use Rattle.bpf_cpu.specs.Input.{IsShort}
use Rattle.hop_tests.proofs.jobs.jobs.Given as goal

abbrev pub invariant-jobs : goal.invariant-jobs
invariant-jobs l = All (λ job. job.program < l.fn.programs) l.jobs.items × All (λ job. IsShort job.input) l.jobs.items
