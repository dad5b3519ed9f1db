use Rattle.std.proofs.Common.{◌≡◌, ℕ, false, [], ◌∷◌, replicate, sym, subst}
use Rattle.std.specs.Prelude.{OnOk}
use Rattle.std.proofs.lemmas.Result.{IfOk-weaker}
use Rattle.bpf_x86.specs.Machine.{Move}
use Rattle.bpf_buffering.specs.Search.{move_of}
use Rattle.bpf_flushes.specs.Moves.{IdlesAt, MakesTo}
use Rattle.bpf_flushes.proofs.Turning.{idled, turn_numbered, flush_numbered}
use Rattle.bpf_flushes.proofs.moves.make_move.Goals as goal

pub returns-then-made-lt-FLUSH-clause-makes : goal.returns-then-made-lt-FLUSH-clause-makes
returns-then-made-lt-FLUSH-clause-makes c =
    subst (λ (m : Move). OnOk c.take_turn.result (MakesTo c.args.machine.now (m ∷ []) c.take_turn.new.machine))
    (sym (turn_numbered c.args.made c.if-made-lt-FLUSH.true)) c.take_turn.ensures.makes

pub returns-then-made-lt-FLUSH-clause-idle : goal.returns-then-made-lt-FLUSH-clause-idle
returns-then-made-lt-FLUSH-clause-idle c =
    let old = c.args.machine.now in
    let new = c.take_turn.new.machine in
    IfOk-weaker c.take_turn.result (λ worked. worked ≡ false → IdlesAt old c.args.made new)
    (λ changes. changes ≡ false → (n : ℕ) → MakesTo old (replicate n (move_of c.args.made)) new)
    (λ changes idle still n. subst (λ (m : Move). MakesTo old (replicate n m) new) (sym (turn_numbered c.args.made c.if-made-lt-FLUSH.true))
    (idled old new c.args.made (idle still) n)) c.take_turn.ensures.idle

pub returns-else-made-lt-FLUSH-clause-makes : goal.returns-else-made-lt-FLUSH-clause-makes
returns-else-made-lt-FLUSH-clause-makes c =
    subst (λ (m : Move). MakesTo c.args.machine.now (m ∷ []) c.flush.new.machine)
    (sym (flush_numbered c.args.made c.if-made-lt-FLUSH.false)) c.flush.ensures.makes

pub returns-else-made-lt-FLUSH-clause-idle : goal.returns-else-made-lt-FLUSH-clause-idle
returns-else-made-lt-FLUSH-clause-idle c = λ still n.
    subst (λ (m : Move). MakesTo c.args.machine.now (replicate n m) c.flush.new.machine)
    (sym (flush_numbered c.args.made c.if-made-lt-FLUSH.false)) (c.flush.ensures.idle still n)
