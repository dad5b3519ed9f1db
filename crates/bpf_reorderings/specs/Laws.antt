-- What follows for outcomes of CPUs with store buffers.
use Rattle.std.specs.Prelude.{ℕ, Bool, List}
use Rattle.bpf_names.specs.Names.{Names}
use Rattle.bpf_machine.specs.Schedule.{World}
use Rattle.bpf_explore.specs.Outcomes.{IsOutcome}
use Rattle.bpf_reorderings.specs.Outcomes.{IsOutcomeX86}

-- THE LAW: each outcome of turns alone is one of turns and flushes
abbrev pub OutcomesAreX86s : Type 0
OutcomesAreX86s = (w : World) (names : Names) (maps : Bool) (text : List ℕ) (stopped : Bool)
    → IsOutcome w names maps text stopped → IsOutcomeX86 w names maps text stopped
