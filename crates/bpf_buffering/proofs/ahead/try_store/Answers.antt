use Rattle.std.proofs.Common.{refl}
use Rattle.bpf_buffering.proofs.Serving.{its_cpu}
use Rattle.bpf_buffering.proofs.Unseen.{store_made, store_refused, not_tried, keeps_all, off_done}
use Rattle.bpf_buffering.proofs.ahead.try_store.Goals as goal

pub returns-then-not-has_room : goal.returns-then-not-has_room
returns-then-not-has_room c = record {
  tries = not_tried c.args.program.now c.args.here.now c.args.state.now;
  ready = c.requires.ready;
  number = refl;
  held = c.requires.held;
  keeps = keeps_all c.args.state.now.number c.args.here.now;
}

pub returns-then-not-is_plain_store : goal.returns-then-not-is_plain_store
returns-then-not-is_plain_store c = record {
  tries = not_tried c.args.program.now c.args.here.now c.args.state.now;
  ready = c.requires.ready;
  number = refl;
  held = c.requires.held;
  keeps = keeps_all c.args.state.now.number c.args.here.now;
}

pub returns-in-On-clause-tries : goal.returns-in-On-clause-tries
returns-in-On-clause-tries c =
    store_made c.one_instruction_begins.ensures c.args.program.now c.args.here.now c.step.new.shared c.args.state.now c.step.new.self
    c.instruction_at.result.now c.instruction_at.ensures.begins (c.if-not-is_plain_store.ensures refl)
    (its_cpu c.args.here.now c.args.state.now.number c.requires.serves) c.step.result c.step.ensures.step c.in-On.is

pub returns-in-Done-clause-tries : goal.returns-in-Done-clause-tries
returns-in-Done-clause-tries c =
    store_refused c.one_instruction_begins.ensures c.args.program.now c.args.here.now c.step.new.shared c.args.state.now c.step.new.self
    c.instruction_at.result.now c.instruction_at.ensures.begins (c.if-not-is_plain_store.ensures refl)
    (its_cpu c.args.here.now c.args.state.now.number c.requires.serves) c.step.result c.step.ensures.step
    (off_done c.step.result _ c.in-Done.is)
