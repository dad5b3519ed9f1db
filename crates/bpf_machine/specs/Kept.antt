-- A job's stage as it is kept, with all that a CPU goes on from, and compact.
use Rattle.bpf_machine.specs.declared.machine.parts.KeptStage.{KeptStage}
use Rattle.bpf_machine.specs.declared.machine.parts.KeptStage.TheVariants as kept
use Rattle.bpf_machine.specs.declared.machine.parts.compact.CompactStage.{CompactStage}
use Rattle.bpf_machine.specs.declared.machine.parts.compact.CompactStage.TheVariants as compact
use Rattle.bpf_cpu.specs.Task.{Stage, Waiting, InHand, Ended}

abbrev pub kept_stage : KeptStage → Stage
kept_stage (kept.Waiting input) = Waiting input
kept_stage (kept.InHand state left) = InHand state left
kept_stage (kept.Ended outcome) = Ended outcome

abbrev pub compact_stage : CompactStage → Stage
compact_stage (compact.Waiting input) = Waiting input
compact_stage (compact.InHand state left) = InHand state left
compact_stage (compact.Ended outcome) = Ended outcome
