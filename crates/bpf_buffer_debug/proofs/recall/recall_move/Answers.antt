use Rattle.std.proofs.Common.{◌-◌, [], ◌∷◌, Option, sym, subst}
use Rattle.std.specs.Prelude.{IfOk}
use Rattle.bpf_x86.specs.Machine.{Move}
use Rattle.bpf_flushes.proofs.Turning.{turn_numbered, flush_numbered}
use Rattle.bpf_debug.specs.declared.recall.Recall.{Recall}
use Rattle.bpf_buffer_debug.specs.Recall.{RecallsTo}
use Rattle.bpf_buffer_debug.proofs.RecallLaws.{passed_flush}
use Rattle.bpf_buffer_debug.proofs.recall.recall_move.Goals as goal

pub returns-then-made-lt-FLUSH-clause-made : goal.returns-then-made-lt-FLUSH-clause-made
returns-then-made-lt-FLUSH-clause-made c =
    let old = c.args.album.now.machine in
    let new = c.recall_turn.new.album.machine in
    subst (λ (m : Move). IfOk c.recall_turn.result (λ (after : Option Recall). RecallsTo c.args.kind c.args.cpu old c.args.recall (m ∷ []) new after))
    (sym (turn_numbered c.args.made c.if-made-lt-FLUSH.true)) c.recall_turn.ensures.made

pub returns-else-made-lt-FLUSH-clause-made : goal.returns-else-made-lt-FLUSH-clause-made
returns-else-made-lt-FLUSH-clause-made c =
    let old = c.args.album.now.machine in
    let new = c.flush_alone.new.self.machine in
    let kept = c.args.recall in
    subst (λ (m : Move). RecallsTo c.args.kind c.args.cpu old kept (m ∷ []) new kept) (sym (flush_numbered c.args.made c.if-made-lt-FLUSH.false))
    (passed_flush c.args.kind c.args.cpu (c.args.made - 128) old new kept c.flush_alone.result c.flush_alone.ensures.flushed c.flush_alone.ensures.empty
    c.flush_alone.ensures.unchanged)
