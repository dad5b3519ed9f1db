use Rattle.std.proofs.Common.{◌≡◌, ℕ, false, [], ◌∷◌, map, replicate, sym, subst}
use Rattle.std.specs.Prelude.{IfOk, OnOk, string_bytes}
use Rattle.bpf_x86.specs.Machine.{Move}
use Rattle.bpf_flushes.proofs.Turning.{turn_numbered, flush_numbered}
use Rattle.bpf_buffer_events.specs.Private.Told.{ArePrinted, By}
use Rattle.bpf_buffer_events.proofs.telling.make_move.Goals as goal

pub returns-then-made-lt-FLUSH-clause-told : goal.returns-then-made-lt-FLUSH-clause-told
returns-then-made-lt-FLUSH-clause-told c =
    subst (λ (m : Move). OnOk c.take_turn.result (ArePrinted (By (m ∷ [])) (map string_bytes c.args.names.now) c.args.scene.now c.take_turn.new.scene))
    (sym (turn_numbered c.args.made c.if-made-lt-FLUSH.true)) c.take_turn.ensures.told

pub returns-then-made-lt-FLUSH-clause-idle : goal.returns-then-made-lt-FLUSH-clause-idle
returns-then-made-lt-FLUSH-clause-idle c =
    subst (λ (m : Move). IfOk c.take_turn.result (λ changes. changes ≡ false → (n : ℕ) → ArePrinted (By (replicate n m)) (map string_bytes c.args.names.now)
    c.args.scene.now c.take_turn.new.scene)) (sym (turn_numbered c.args.made c.if-made-lt-FLUSH.true)) c.take_turn.ensures.idle

pub returns-else-made-lt-FLUSH-clause-told : goal.returns-else-made-lt-FLUSH-clause-told
returns-else-made-lt-FLUSH-clause-told c =
    subst (λ (m : Move). OnOk c.flush.result (ArePrinted (By (m ∷ [])) (map string_bytes c.args.names.now) c.args.scene.now c.flush.new.scene))
    (sym (flush_numbered c.args.made c.if-made-lt-FLUSH.false)) c.flush.ensures.told

pub returns-else-made-lt-FLUSH-clause-idle : goal.returns-else-made-lt-FLUSH-clause-idle
returns-else-made-lt-FLUSH-clause-idle c =
    subst (λ (m : Move). IfOk c.flush.result (λ changes. changes ≡ false → (n : ℕ) → ArePrinted (By (replicate n m)) (map string_bytes c.args.names.now)
    c.args.scene.now c.flush.new.scene)) (sym (flush_numbered c.args.made c.if-made-lt-FLUSH.false)) c.flush.ensures.idle
