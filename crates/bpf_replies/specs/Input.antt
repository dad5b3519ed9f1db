-- Why there is no input.
use Rattle.std.specs.Prelude.{◌≤◌, ◌<◌, ℕ, Bool, List, Result, Err, IsUtf8, true, false, length}
use Rattle.bpf_replies.specs.declared.input.TheConstants.{MAX_INPUT}
use Rattle.bpf_replies.specs.declared.refusal.Refusal.{Refusal}
use Rattle.bpf_replies.specs.declared.refusal.Refusal.TheVariants as refusal
use Rattle.bpf_replies.specs.declared.reply.Reply.{Reply}
use Rattle.bpf_replies.specs.declared.reply.Reply.TheVariants as reply
use Rattle.bpf_replies.specs.declared.input.InputError.{InputError}
use Rattle.bpf_replies.specs.declared.input.InputError.TheVariants as error

-- a read failed
abbrev pub is_failed_read : {T : Type 0} → Result T InputError → Bool
is_failed_read (Err error.Unread) = true
is_failed_read _ = false

-- why there is no text: a read failed, there is too much, or (of what isn't too much) it isn't
-- UTF-8; out of memory may take the place of any answer
abbrev pub RefusesInput : List ℕ → Refusal → Type 0
RefusesInput input (refusal.Input error.Unread) = Unit {0}
RefusesInput input (refusal.Input error.TooLong) = MAX_INPUT < length input
RefusesInput input (refusal.Input error.OutOfMemory) = Unit {0}
RefusesInput input refusal.NotText = (length input ≤ MAX_INPUT) × ¬ IsUtf8 input
RefusesInput input _ = ⊥

-- a read failed
abbrev pub is_unread : Reply → Bool
is_unread (reply.Refused (refusal.Input error.Unread)) = true
is_unread _ = false
