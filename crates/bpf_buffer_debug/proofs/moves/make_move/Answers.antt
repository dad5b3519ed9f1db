use Rattle.std.proofs.Common.{◌≡◌, ◌-◌, ◌++◌, [], ◌∷◌, sym, subst}
use Rattle.std.specs.Prelude.{string_bytes}
use Rattle.bpf_x86.specs.Machine.{Move}
use Rattle.bpf_buffering.specs.Search.{move_of}
use Rattle.bpf_flushes.proofs.Turning.{turn_numbered, flush_numbered}
use Rattle.bpf_debug.specs.Answer.{ended_text}
use Rattle.bpf_buffer_debug.specs.Moves.{TellsTo}
use Rattle.bpf_buffer_debug.proofs.MoveLaws.{told_flush, told_turn}
use Rattle.bpf_buffer_debug.proofs.Weaker.{on_ok}
use Rattle.bpf_buffer_debug.proofs.moves.make_move.Goals as goal

pub returns-in_ok-turn-clause-told : goal.returns-in_ok-turn-clause-told
returns-in_ok-turn-clause-told c =
    let old = c.args.album.now.machine in
    let new = c.turn.new.self.machine in
    let before = string_bytes c.args.out.now in
    let after = string_bytes c.push_ended.new.out in
    on_ok c.push_ended.result (after ≡ before ++ ended_text c.args.made c.in_ok-turn.turn) (TellsTo old (move_of c.args.made ∷ []) before new after)
    (λ put. subst (λ (m : Move). TellsTo old (m ∷ []) before new after) (sym (turn_numbered c.args.made c.if-made-lt-FLUSH.true))
    (told_turn old new c.args.made c.in_ok-turn.turn before after c.in_ok-turn.ensures.turns put)) c.push_ended.ensures

pub returns-else-made-lt-FLUSH-clause-told : goal.returns-else-made-lt-FLUSH-clause-told
returns-else-made-lt-FLUSH-clause-told c =
    let old = c.args.album.now.machine in
    let new = c.flush_alone.new.self.machine in
    let before = string_bytes c.args.out.now in
    subst (λ (m : Move). TellsTo old (m ∷ []) before new before) (sym (flush_numbered c.args.made c.if-made-lt-FLUSH.false))
    (told_flush old new (c.args.made - 128) c.flush_alone.result before c.flush_alone.ensures.flushed c.flush_alone.ensures.empty
    c.flush_alone.ensures.unchanged)
