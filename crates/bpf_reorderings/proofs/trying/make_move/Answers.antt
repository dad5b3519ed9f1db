use Rattle.std.proofs.Common.{[], ◌∷◌, sym, subst}
use Rattle.std.proofs.lemmas.Result.{on_ok_weaker}
use Rattle.bpf_x86.specs.Machine.{Move, TurnOf}
use Rattle.bpf_flushes.specs.Moves.{MakesTo}
use Rattle.bpf_flushes.proofs.Joining.{moved}
use Rattle.bpf_flushes.proofs.Turning.{turn_numbered, flush_numbered}
use Rattle.bpf_reorderings.proofs.trying.make_move.Goals as goal

pub returns-then-made-lt-FLUSH-clause-makes : goal.returns-then-made-lt-FLUSH-clause-makes
returns-then-made-lt-FLUSH-clause-makes c =
    let old = c.args.explorer.now.machine in
    let new = c.take_turn.new.self.machine in
    on_ok_weaker c.take_turn.result (λ moves. subst (λ (m : Move). MakesTo old (m ∷ []) new)
    (sym (turn_numbered c.args.made c.if-made-lt-FLUSH.true)) (moved old new (TurnOf c.args.made) moves)) c.take_turn.ensures.moves

pub returns-clause-makes : goal.returns-clause-makes
returns-clause-makes c =
    subst (λ (m : Move). MakesTo c.args.explorer.now.machine (m ∷ []) c.pass_flush.new.self.machine)
    (sym (flush_numbered c.args.made c.if-made-lt-FLUSH.false)) c.pass_flush.ensures.makes
