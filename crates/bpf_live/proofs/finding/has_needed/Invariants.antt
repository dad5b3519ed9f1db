use Rattle.std.proofs.Common.{◌≡◌, ◌<◌, true, ℕ}
use Rattle.bpf_live.specs.Live.{is_live}
use Rattle.bpf_live.specs.Private.Needs.{needs}
use Rattle.bpf_live.proofs.finding.has_needed.Given as goal

abbrev pub invariant-loop-register : goal.invariant-loop-register
invariant-loop-register l = (r : ℕ) → r < l.register → needs l.sets l.calls l.pc l.insn r ≡ true → is_live l.sets l.pc r ≡ true
