use Rattle.bpf_machine.proofs.AheadLaws.{idle_room, no_round_yet, passed, caught_up, made_round}
use Rattle.bpf_machine.proofs.machine.Machine.make_rounds_ahead.Goals as goal

pub run_all_ahead-requires : goal.run_all_ahead-requires
run_all_ahead-requires c = record { idle = idle_room 256 }

pub loop-headways-init : goal.loop-headways-init
loop-headways-init c = no_round_yet c.args.self.now c.run_all_ahead.new.self c.run_all_ahead.new.headways c.run_all_ahead.ensures.ahead
    (c.run_all_ahead.ensures.falls c.requires)

pub loop-headways-preserved : goal.loop-headways-preserved
loop-headways-preserved c =
    let pass = c.pass_rounds.ensures in
    let cpus = c.cpus_of_jobs in
    let far = passed c.args.self.now c.loop-headways.self cpus.result cpus.ensures.cpus cpus.ensures.jobs c.loop-headways.headways
    c.pass_rounds.new.headways pass.passes.0 pass.passes.1 pass.above c.loop-headways.invariant in
    let r = far.runs c.requires.0 c.requires.1 in
    let less = c.make_round_ahead.ensures.falls (r.0, r.1, r.4, r.3) (let z = pass.more c.loop-headways-test.true in (z.0, z.2)) in
    made_round c.args.self.now c.loop-headways.self c.make_round_ahead.new.self c.pass_rounds.new.headways c.make_round_ahead.new.headways
    far c.make_round_ahead.ensures.runs less

pub loop-headways-smaller : goal.loop-headways-smaller
loop-headways-smaller c =
    let pass = c.pass_rounds.ensures in
    let cpus = c.cpus_of_jobs in
    let far = passed c.args.self.now c.loop-headways.self cpus.result cpus.ensures.cpus cpus.ensures.jobs c.loop-headways.headways
    c.pass_rounds.new.headways pass.passes.0 pass.passes.1 pass.above c.loop-headways.invariant in
    let r = far.runs c.requires.0 c.requires.1 in
    c.make_round_ahead.ensures.falls (r.0, r.1, r.4, r.3) (let z = pass.more c.loop-headways-test.true in (z.0, z.2))

pub returns-clause-runs : goal.returns-clause-runs
returns-clause-runs c =
    let pass = c.pass_rounds.ensures in
    let cpus = c.cpus_of_jobs in
    let far = passed c.args.self.now c.loop-headways.self cpus.result cpus.ensures.cpus cpus.ensures.jobs c.loop-headways.headways
    c.pass_rounds.new.headways pass.passes.0 pass.passes.1 pass.above c.loop-headways.invariant in
    caught_up c.args.self.now c.loop-headways.self cpus.result cpus.ensures.cpus cpus.ensures.jobs c.pass_rounds.new.headways
    (pass.few c.loop-headways-test.false) far

pub returns-clause-falls : goal.returns-clause-falls
returns-clause-falls c = c.loop-headways.invariant.falls
