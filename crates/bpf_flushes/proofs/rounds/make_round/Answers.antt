use Rattle.std.proofs.Common.{◌≡◌, ◌+◌, ℕ, Bool, sym, subst, arith}
use Rattle.bpf_flushes.proofs.Rounding.{SoFar, none_yet, next_far, whole_round, idle_round}
use Rattle.bpf_flushes.proofs.rounds.make_round.Goals as goal

pub loop-cpu-init : goal.loop-cpu-init
loop-cpu-init c = none_yet c.args.machine.now

pub loop-cpu-preserved : goal.loop-cpu-preserved
loop-cpu-preserved c =
    let old = c.args.machine.now in
    let new = c.flush.new.machine in
    subst (λ (b : Bool). SoFar old (c.loop-cpu.cpu + 1) b new) (sym c.either-worked.ensures)
    (next_far old c.loop-cpu.machine c.take_turn.new.machine new c.loop-cpu.cpu c.loop-cpu.worked c.in_ok-took.took c.requires.0
    c.requires.1 c.loop-cpu.invariant
    (record { makes = c.in_ok-took.ensures.makes; idle = c.in_ok-took.ensures.idle; falls = c.in_ok-took.ensures.falls })
    c.flush.ensures.makes c.flush.ensures.jobs)

pub returns : goal.returns
returns c =
    let old = c.args.machine.now in
    let new = c.loop-cpu.machine in
    let n : c.loop-cpu.cpu ≡ c.cpus-cpu-end.result = omega arith in
    let far : SoFar old c.cpus-cpu-end.result c.loop-cpu.worked new = subst (λ (k : ℕ). SoFar old k c.loop-cpu.worked new) n c.loop-cpu.invariant in
    record {
      makes = whole_round old new c.cpus-cpu-end.result c.loop-cpu.worked c.cpus-cpu-end.ensures.cpus far;
      falls = far.falls;
      ended = idle_round old new c.cpus-cpu-end.result c.loop-cpu.worked c.cpus-cpu-end.ensures.cpus far c.cpus-cpu-end.ensures.jobs;
    }
