-- A reply to what was read is one to what the reader had left.
use Rattle.std.proofs.Common.{◌≡◌, ◌<◌, ℕ, List, [], Bool, true, Option, Some, None, inl, length, refl, subst}
use Rattle.std.specs.Prelude.{IfSome}
use Rattle.bpf_run.specs.Commands.{IsReply}
use Rattle.bpf_run.specs.Program.{Performs}
use Rattle.bpf_replies.specs.Answer.{Prints}
use Rattle.bpf_replies.specs.declared.reply.Status.{Status}
use Rattle.bpf_replies.specs.declared.input.TheConstants.{MAX_INPUT}
use Rattle.bpf_command.specs.declared.command.Command.{Command}
use Rattle.bpf_replies.specs.declared.input.InputError.{InputError}
use Rattle.bpf_replies.specs.declared.input.InputError.TheVariants as input_error
use Rattle.bpf_replies.specs.declared.refusal.Refusal.TheVariants as refusal
use Rattle.bpf_replies.specs.declared.reply.Reply.{Reply}
use Rattle.bpf_replies.specs.declared.reply.Reply.TheVariants as reply

pub replied : (known : Option (List ℕ)) (c : Command) (read : List ℕ) (r : Reply) → IfSome known (λ input. read ≡ input) → IsReply c read r
    → IfSome known (λ input. IsReply c input r)
replied None c read r whole h = tt
replied (Some input) c read r whole h = subst (λ (bytes : List ℕ). IsReply c bytes r) whole h

pub unread : (known : Option (List ℕ)) (c : Command) (e : InputError) → (e ≡ input_error.TooLong → IfSome known (λ input. MAX_INPUT < length input))
    → IfSome known (λ input. IsReply c input (reply.Refused (refusal.Input e)))
unread None c e long = tt
unread (Some input) c input_error.Unread long = inl (refusal.Input input_error.Unread, refl, tt)
unread (Some input) c input_error.TooLong long = inl (refusal.Input input_error.TooLong, refl, long refl)
unread (Some input) c input_error.OutOfMemory long = inl (refusal.Input input_error.OutOfMemory, refl, tt)

-- what is done of a file that was opened is done of its bytes, where they are known
pub opened : (known mid : Option (List ℕ)) (c : Command) (failed : Bool) (old new : Option (List ℕ)) (lost : Bool) (s : Status) (stats : List ℕ)
    → IfSome known (λ bytes. mid ≡ Some bytes) → Performs c mid failed old new lost s stats → Performs c known failed old new lost s stats
opened None mid c failed old new lost s stats same done = (done.0, done.1, tt, done.3, done.4)
opened (Some bytes) mid c failed old new lost s stats same done = subst (λ (o : Option (List ℕ)). Performs c o failed old new lost s stats) same done

-- a file that can't be opened is answered as a read that failed
pub unopened : (known : Option (List ℕ)) (c : Command) (failed : Bool) (old new : Option (List ℕ)) (lost : Bool) (s : Status)
    → failed ≡ true → Prints (reply.Refused (refusal.Input input_error.Unread)) old new lost s → Performs c known failed old new lost s []
unopened known c failed old new lost s told printed =
    (reply.Refused (refusal.Input input_error.Unread), told, unread known c input_error.Unread (λ e. cc), printed, refl)
