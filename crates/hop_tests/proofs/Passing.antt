-- Passages over any shared store.
use Rattle.std.proofs.Common.{ℕ, Bool, List, ◌∷◌, [], ◌++◌}
use Rattle.bpf_shared.specs.declared.events.Event.{Event}
use Rattle.bpf_shared.specs.declared.events.Entry.{Entry}
use Rattle.bpf_shared.specs.Passage.{Calls}
use Rattle.bpf_shared.specs.History.{entry}

module _ {T : Type 0} (passes : T → T → List Entry → Type 0) (follows : (x y z : T) (xs ys : List Entry) → passes x y xs → passes y z ys →
    passes x z (xs ++ ys)) where
  -- a passage after a call
  pub after_call : (x y z : T) {serves : ℕ → Bool} {c : ℕ} {e : Event} → Calls (passes x y) serves c e →
      ((log : List Entry) × passes y z log) → (log : List Entry) × passes x z log
  after_call x y z {serves} {c} {e} call (log, more) =
      let first : List Entry = call.others ++ entry c e ∷ [] in (first ++ log, follows x y z first log call.passage more)

  -- a call is a passage
  pub one_call : (x y : T) {serves : ℕ → Bool} {c : ℕ} {e : Event} → Calls (passes x y) serves c e → (log : List Entry) × passes x y log
  one_call x y {serves} {c} {e} call = (call.others ++ entry c e ∷ [], call.passage)
