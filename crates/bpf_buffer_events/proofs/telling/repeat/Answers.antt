use Rattle.std.proofs.Common.{◌≡◌, ℕ, map, replicate, subst, arith}
use Rattle.std.specs.Prelude.{string_bytes}
use Rattle.bpf_buffering.specs.Search.{move_of}
use Rattle.bpf_buffer_events.specs.Private.Told.{ArePrinted, By}
use Rattle.bpf_buffer_events.proofs.Joined.{nothing_told, one_more, rest_told}
use Rattle.bpf_buffer_events.proofs.telling.repeat.Goals as goal

pub loop-init : goal.loop-init
loop-init c = record { told = nothing_told (map string_bytes c.args.names.now) c.args.scene.now; shape = c.requires }

pub loop-preserved : goal.loop-preserved
loop-preserved c = record {
  told = one_more (map string_bytes c.args.names.now) c.args.scene.now c.loop.scene c.make_move.new.scene (move_of c.args.made) c.loop.counter
      c.loop.invariant.told c.in_ok-make_move.ensures.told;
  shape = c.in_ok-make_move.ensures.shape;
}

pub returns-after-loop-clause-told : goal.returns-after-loop-clause-told
returns-after-loop-clause-told c =
    let all : c.loop.counter ≡ c.args.count = omega arith in
    subst (λ (n : ℕ). ArePrinted (By (replicate n (move_of c.args.made))) (map string_bytes c.args.names.now) c.args.scene.now c.loop.scene) all
    c.loop.invariant.told

pub returns-then-not-branch-clause-told : goal.returns-then-not-branch-clause-told
returns-then-not-branch-clause-told c = rest_told (map string_bytes c.args.names.now) c.args.scene.now c.loop.scene c.make_move.new.scene
    (move_of c.args.made) c.loop.counter c.args.count (omega arith) c.loop.invariant.told (λ i. c.in_ok-make_move.ensures.idle c.if-not-branch.true i)
