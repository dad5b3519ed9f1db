use Rattle.std.proofs.Common.{take}
use Rattle.bpf_machine.specs.Schedule.{World, RunsSchedule}
use Rattle.bpf_machine.specs.Machine.{Shows}
use Rattle.bpf_machine.proofs.machine.Machine.turns.Given as goal

abbrev pub invariant-loop-cpu : goal.invariant-loop-cpu
invariant-loop-cpu l = (w : World) → Shows l.fn.self w → (z : World) × RunsSchedule w (take l.cpu-index l.schedule) z × Shows l.self z
