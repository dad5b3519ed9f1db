use Rattle.std.proofs.Common.{arith}
use Rattle.bpf_loader.proofs.CheckLemmas.{sound_of_clear}
use Rattle.bpf_loader.proofs.checks.check.Goals as goal

pub returns-clause-sound : goal.returns-clause-sound
returns-clause-sound c = sound_of_clear _ _ c.requires.some c.requires.short (λ e applies. omega (arith, c.loop-pc.invariant e applies))
