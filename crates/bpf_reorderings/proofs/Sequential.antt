-- Outcomes of turns alone are outcomes of turns and flushes.
use Rattle.bpf_x86.specs.Laws.{OrdersAreX86s}
use Rattle.bpf_x86.specs.Machine.{drained}
use Rattle.bpf_reorderings.specs.Laws.{OutcomesAreX86s}

pub outcomes_x86s : OrdersAreX86s → OutcomesAreX86s
outcomes_x86s orders w names maps text stopped (schedule, (z, runs, ended, told)) =
    let (moves, leads) = orders w z schedule runs in
    (moves, (drained z, leads, ended, told))
