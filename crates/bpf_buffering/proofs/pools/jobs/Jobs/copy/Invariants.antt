use Rattle.std.proofs.Common.{◌≡◌, take}
use Rattle.bpf_machine.specs.Parts.{chosen}
use Rattle.bpf_buffering.specs.Jobs.{tasks_of}
use Rattle.bpf_buffering.proofs.pools.jobs.Jobs.copy.Given as goal

abbrev pub invariant-loop-job : goal.invariant-loop-job
invariant-loop-job l = tasks_of l.copies.items ≡ chosen l.self (take l.job l.numbers)
