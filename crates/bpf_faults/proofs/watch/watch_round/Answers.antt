use Rattle.std.proofs.Common.{◌≡◌, ℕ, subst, arith}
use Rattle.bpf_faults.proofs.Watching.{IsFar, no_turn, next_turn, whole, whole_idle}
use Rattle.bpf_faults.proofs.watch.watch_round.Goals as goal

pub loop-cpu-init : goal.loop-cpu-init
loop-cpu-init c = no_turn c.args.machine.now c.args.sizes.now c.args.findings.now.evidence.items c.requires.watched

pub watch_turn-requires-clause-shown : goal.watch_turn-requires-clause-shown
watch_turn-requires-clause-shown c = let r = c.loop-cpu.invariant.runs c.requires.shown.0 c.requires.shown.1 in (r.0, r.2)

pub watch_turn-requires-clause-sizes : goal.watch_turn-requires-clause-sizes
watch_turn-requires-clause-sizes c = c.loop-cpu.invariant.watched.known

pub watch_turn-requires-clause-one : goal.watch_turn-requires-clause-one
watch_turn-requires-clause-one c = c.loop-cpu.invariant.watched.one

pub loop-cpu-preserved : goal.loop-cpu-preserved
loop-cpu-preserved c =
    next_turn c.args.machine.now c.loop-cpu.machine c.watch_turn.new.machine c.args.sizes.now c.args.findings.now.evidence.items
    c.loop-cpu.findings.evidence.items c.watch_turn.new.findings.evidence.items c.loop-cpu.cpu
    c.loop-cpu.worked c.in_ok-busy.busy c.requires.shown c.loop-cpu.invariant c.in_ok-busy.ensures

pub returns-clause-round : goal.returns-clause-round
returns-clause-round c =
    let n : c.loop-cpu.cpu ≡ c.cpus-end.result = omega arith in
    let P : ℕ → Type 0 = λ n. IsFar c.args.machine.now c.args.sizes.now c.args.findings.now.evidence.items n c.loop-cpu.worked
    c.loop-cpu.machine c.loop-cpu.findings.evidence.items in
    whole c.args.machine.now c.loop-cpu.machine c.args.sizes.now c.args.findings.now.evidence.items c.loop-cpu.findings.evidence.items
    c.cpus-end.result c.loop-cpu.worked c.cpus-end.ensures (subst P n c.loop-cpu.invariant)

pub returns-clause-watched : goal.returns-clause-watched
returns-clause-watched c = c.loop-cpu.invariant.watched

pub returns-clause-falls : goal.returns-clause-falls
returns-clause-falls c = c.loop-cpu.invariant.falls

pub returns-clause-idle : goal.returns-clause-idle
returns-clause-idle c =
    let n : c.loop-cpu.cpu ≡ c.cpus-end.result = omega arith in
    let P : ℕ → Type 0 = λ n. IsFar c.args.machine.now c.args.sizes.now c.args.findings.now.evidence.items n c.loop-cpu.worked
    c.loop-cpu.machine c.loop-cpu.findings.evidence.items in
    whole_idle c.args.machine.now c.loop-cpu.machine c.args.sizes.now c.args.findings.now.evidence.items c.loop-cpu.findings.evidence.items
    c.cpus-end.result c.loop-cpu.worked c.cpus-end.ensures (subst P n c.loop-cpu.invariant)
