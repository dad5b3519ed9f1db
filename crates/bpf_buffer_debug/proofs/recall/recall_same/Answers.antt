use Rattle.std.proofs.Common.{◌≡◌, ◌∙◌, ℕ, replicate, refl, subst, arith}
use Rattle.bpf_machine.proofs.HostLaws.{same_host, same_host_still}
use Rattle.bpf_buffering.specs.Search.{move_of}
use Rattle.bpf_buffer_debug.specs.Recall.{RecallsTo}
use Rattle.bpf_buffer_debug.proofs.RecallLaws.{none_recalled, one_more}
use Rattle.bpf_buffer_debug.proofs.recall.recall_same.Goals as goal

pub loop-init : goal.loop-init
loop-init c = record {
  made = none_recalled c.args.kind c.args.cpu c.args.album.now.machine c.args.recall;
  host = same_host c.args.album.now.machine.machine;
  kept = refl;
}

pub loop-preserved : goal.loop-preserved
loop-preserved c =
    let old = c.args.album.now.machine in
    let mid = c.loop.album.machine in
    let new = c.recall_move.new.album.machine in
    record {
      made = one_more c.args.kind c.args.cpu old mid new (move_of c.args.made) c.loop.counter c.args.recall c.loop.last c.in_ok-next.next
          c.loop.invariant.made c.in_ok-next.ensures.made;
      host = same_host_still old.machine mid.machine new.machine c.loop.invariant.host c.recall_move.ensures.host;
      kept = c.recall_move.ensures.kept ∙ c.loop.invariant.kept;
    }

pub returns-clause-made : goal.returns-clause-made
returns-clause-made c =
    let all : c.loop.counter ≡ c.args.count = omega arith in
    subst (λ (n : ℕ). RecallsTo c.args.kind c.args.cpu c.args.album.now.machine c.args.recall (replicate n (move_of c.args.made)) c.loop.album.machine
    c.loop.last) all c.loop.invariant.made
