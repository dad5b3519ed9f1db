use Rattle.std.proofs.Common.{◌≡◌}
use Rattle.std.specs.Prelude.{map, take}
use Rattle.bpf_shared.specs.Contents.{bytes_of_all}
use Rattle.bpf_cpu.specs.declared.job.Job.{Job}
use Rattle.bpf_packets.proofs.keeping.given_packets.Given as goal

abbrev pub invariant-loop-job : goal.invariant-loop-job
invariant-loop-job l = bytes_of_all l.packets.items ≡ map (λ (job : Job). job.input.packet) (take l.job-index l.jobs)
