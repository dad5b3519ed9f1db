use Rattle.std.proofs.Common.{refl}
use Rattle.bpf_buffering.proofs.Unseen.{hand_of, hand_still, not_gone, gone_more}
use Rattle.bpf_buffering.proofs.ahead.go_ahead.Goals as goal

pub loop-init : goal.loop-init
loop-init c = not_gone c.args.program.now c.args.here.now c.args.state.now c.args.left.now
    (hand_of c.args.program.now c.args.here.now c.args.state.now c.requires.ready c.requires.serves c.requires.in_run c.requires.held)

pub go_to_store-requires : goal.go_to_store-requires
go_to_store-requires c =
    let first = hand_of c.args.program.now c.args.here.now c.args.state.now c.requires.ready c.requires.serves c.requires.in_run c.requires.held in
    let now = hand_still c.args.program.now c.args.here.now c.loop.here c.args.state.now c.loop.state c.args.left.now c.loop.left first c.loop.invariant in
    record { ready = now.ready; serves = now.serves; in_run = now.runs; held = now.held }

pub loop-preserved : goal.loop-preserved
loop-preserved c = gone_more c.args.program.now c.args.here.now c.loop.here c.go_to_store.new.here c.args.state.now c.loop.state
    c.go_to_store.new.state c.args.left.now c.loop.left c.go_to_store.new.left c.loop.invariant (record {
      ahead = c.go_to_store.ensures.ahead;
      ready = c.go_to_store.ensures.ready;
      number = c.go_to_store.ensures.number;
      held = c.go_to_store.ensures.held;
      keeps = c.go_to_store.ensures.keeps;
    })

pub returns : goal.returns
returns c =
    let all = gone_more c.args.program.now c.args.here.now c.loop.here c.go_to_store.new.here c.args.state.now c.loop.state
    c.go_to_store.new.state c.args.left.now c.loop.left c.go_to_store.new.left c.loop.invariant (record {
      ahead = c.go_to_store.ensures.ahead;
      ready = c.go_to_store.ensures.ready;
      number = c.go_to_store.ensures.number;
      held = c.go_to_store.ensures.held;
      keeps = c.go_to_store.ensures.keeps;
    }) in
    record { ahead = all.ahead; ready = all.ready; number = all.number; held = all.held; keeps = all.keeps }
