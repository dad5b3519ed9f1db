use Rattle.bpf_loader.specs.Private.Checks.{IsClearBefore}
use Rattle.bpf_loader.proofs.checks.check.Given as goal

abbrev pub invariant-loop-pc : goal.invariant-loop-pc
invariant-loop-pc l = IsClearBefore l.named l.slots l.pc
