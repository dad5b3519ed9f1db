use Rattle.std.proofs.Common.{List, sym, subst}
use Rattle.bpf_faults.specs.declared.evidence.Evidence.{Evidence}
use Rattle.bpf_faults.proofs.Watching.{IsWatched, next_round, no_round, shown_still, to_end}
use Rattle.bpf_faults.proofs.watch.watch.Goals as goal

pub watching-init : goal.watching-init
watching-init c =
    let P : List Evidence → Type 0 = λ evidence. IsWatched c.args.machine.now c.args.sizes.now c.args.machine.now evidence in
    subst P (sym c.new.ensures.items) (no_round c.args.machine.now c.args.sizes.now c.requires.watched)

pub watch_round-requires-clause-shown : goal.watch_round-requires-clause-shown
watch_round-requires-clause-shown c = shown_still c.args.machine.now c.watching.machine c.args.sizes.now c.watching.findings.evidence.items
    c.requires.shown c.watching.invariant

pub watch_round-requires-clause-watched : goal.watch_round-requires-clause-watched
watch_round-requires-clause-watched c = c.watching.invariant.watched

pub rounds-requires : goal.rounds-requires
rounds-requires c =
    let next = next_round c.args.machine.now c.watching.machine c.watch_round.new.machine c.args.sizes.now
    c.watching.findings.evidence.items c.watch_round.new.findings.evidence.items
    c.watching.invariant c.in_ok-worked.ensures.round c.in_ok-worked.ensures.watched in
    shown_still c.args.machine.now c.watch_round.new.machine c.args.sizes.now c.watch_round.new.findings.evidence.items c.requires.shown next

pub returns-then-not-worked-clause-shown : goal.returns-then-not-worked-clause-shown
returns-then-not-worked-clause-shown c =
    let next = next_round c.args.machine.now c.watching.machine c.watch_round.new.machine c.args.sizes.now
    c.watching.findings.evidence.items c.watch_round.new.findings.evidence.items
    c.watching.invariant c.in_ok-worked.ensures.round c.in_ok-worked.ensures.watched in
    λ w shows. (next.runs w shows).3

pub returns-then-not-worked-clause-all : goal.returns-then-not-worked-clause-all
returns-then-not-worked-clause-all c =
    let next = next_round c.args.machine.now c.watching.machine c.watch_round.new.machine c.args.sizes.now
    c.watching.findings.evidence.items c.watch_round.new.findings.evidence.items
    c.watching.invariant c.in_ok-worked.ensures.round c.in_ok-worked.ensures.watched in
    to_end c.args.machine.now c.watch_round.new.machine c.rounds.new.self c.args.sizes.now c.watch_round.new.findings.evidence.items next
    (c.in_ok-worked.ensures.idle c.if-not-worked.true) c.rounds.ensures.runs

pub watching-preserved : goal.watching-preserved
watching-preserved c =
    next_round c.args.machine.now c.watching.machine c.watch_round.new.machine c.args.sizes.now c.watching.findings.evidence.items
    c.watch_round.new.findings.evidence.items
    c.watching.invariant c.in_ok-worked.ensures.round c.in_ok-worked.ensures.watched
