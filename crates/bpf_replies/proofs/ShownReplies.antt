-- What is shown of an outcome is what happens by its schedule.
use Rattle.std.proofs.Common.{◌≡◌, ◌-◌, ◌<◌, ℕ, Bool, List, Result, Ok, Err, Some, length, subst, sym}
use Rattle.std.specs.Prelude.{slice_get}
use Rattle.bpf_explore.specs.Outcomes.{Found}
use Rattle.bpf_file.specs.File.{File}
use Rattle.bpf_replies.specs.Answer.{Replies}
use Rattle.bpf_replies.specs.Exploring.{IsMissing, IsShownBy, IsShownOf}
use Rattle.bpf_replies.specs.declared.refusal.Refusal.{Refusal}
use Rattle.bpf_replies.specs.declared.refusal.Refusal.TheVariants as refusal
use Rattle.bpf_replies.specs.declared.reply.Reply.{Reply}
use Rattle.bpf_replies.specs.declared.reply.Reply.TheVariants as reply

module _ (Finds : List Found → (all : Bool) → (states : ℕ) → Type 0) (History : List (ℕ × ℕ) → File → List ℕ → Bool → Type 0)
    (number : ℕ) (text : List ℕ) (answers : List Found) (all : Bool) (states : ℕ) (found : Found) (are : Finds answers all states)
    (at : slice_get answers (number - 1) ≡ Some found) where
  shown : (r : Reply) → IsShownBy (History found.by) all (length answers) states text r → IsShownOf Finds History number text r
  shown (reply.Jobs printed stopped) h = (answers, all, states, found, are, at, h)
  shown (reply.Outcomes printed stopped whole) h = (answers, all, states, found, are, at, h)
  shown (reply.Refused r) h = h
  shown (reply.Ended outcome) h = absurd h
  shown (reply.Text printed) h = absurd h
  shown (reply.Counted printed stopped stats) h = absurd h
  shown (reply.Script answered lines stopped refused) h = absurd h
  shown (reply.NoOutcome printed whole) h = absurd h
  shown (reply.Several printed refused unmet told) h = absurd h

  pub all_shown : (r : Result Reply Refusal) → Replies (IsShownBy (History found.by) all (length answers) states text) r
      → Replies (IsShownOf Finds History number text) r
  all_shown (Ok r) h = shown r h
  all_shown (Err e) h = shown (reply.Refused e) h

-- or that there is none of this number
module _ (Finds : List Found → (all : Bool) → (states : ℕ) → Type 0) (History : List (ℕ × ℕ) → File → List ℕ → Bool → Type 0)
    (number : ℕ) (text : List ℕ) (answers : List Found) (all : Bool) (states : ℕ) (are : Finds answers all states)
    (few : length answers < number) where
  pub none_shown : (r : Reply) → IsMissing number (length answers) all r → IsShownOf Finds History number text r
  none_shown (reply.NoOutcome printed whole) h = (answers, states, subst (λ (b : Bool). Finds answers b states) (sym h.1) are, few, h.0)
  none_shown (reply.Refused refusal.OutOfMemory) h = tt
  none_shown (reply.Refused r) h = absurd h
  none_shown (reply.Jobs printed stopped) h = absurd h
  none_shown (reply.Outcomes printed stopped whole) h = absurd h
  none_shown (reply.Ended outcome) h = absurd h
  none_shown (reply.Text printed) h = absurd h
  none_shown (reply.Counted printed stopped stats) h = absurd h
  none_shown (reply.Script answered lines stopped refused) h = absurd h
  none_shown (reply.Several printed refused unmet told) h = absurd h
