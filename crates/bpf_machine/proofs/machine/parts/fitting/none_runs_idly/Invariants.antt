use Rattle.std.proofs.Common.{◌≡◌, ℕ, ◌<◌, false, length}
use Rattle.bpf_plain.specs.PlainStore.{is_running}
use Rattle.bpf_machine.specs.Parts.{chosen_at}
use Rattle.bpf_machine.specs.Private.Parts.{in_hand}
use Rattle.bpf_machine.proofs.machine.parts.fitting.none_runs_idly.Given as goal

abbrev pub invariant-loop-cpu : goal.invariant-loop-cpu
invariant-loop-cpu l = (c : ℕ) → c < l.cpu
    → ((k : ℕ) → k < length l.numbers → (chosen_at l.parts l.numbers k).cpu ≡ c → in_hand (chosen_at l.parts l.numbers k).stage ≡ false)
    → is_running l.store c ≡ false
