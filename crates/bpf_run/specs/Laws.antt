-- What follows from the definitions: what a command prints is a function of the bytes that it reads.
use Rattle.std.specs.Prelude.{◌≡◌, ℕ, ◌≤◌, List, length}
use Rattle.bpf_mem.specs.Limits.{max_context}
use Rattle.bpf_check.specs.Findings.{Findings}
use Rattle.bpf_check.specs.Verdict.{AreTrueRaces}
use Rattle.bpf_file.specs.File.{File}
use Rattle.bpf_replies.specs.Answer.{status_of, reply_text}
use Rattle.bpf_replies.specs.Laws.{IsOfInput}
use Rattle.bpf_replies.specs.Script.{first_world_of}
use Rattle.bpf_run.specs.Commands.{IsForOneSchedule, IsForOneThread, IsReply}
use Rattle.bpf_run.specs.Racing.{FindsRaces}
use Rattle.bpf_command.specs.declared.command.Command.{Command}
use Rattle.bpf_command.specs.declared.command.Command.TheVariants as command
use Rattle.bpf_replies.specs.declared.reply.Reply.{Reply}

-- the context has its greatest length at most
abbrev pub HasShortContext : Command → Type 0
HasShortContext (command.Hex options) = length options.context.items ≤ max_context
HasShortContext (command.AsmRun options) = length options.context.items ≤ max_context
HasShortContext _ = Unit {0}

-- replies of one input print one text, with one exit status, where no workers are asked for, and no
-- schedule is chosen
abbrev pub RepliesAreDetermined : Type 0
RepliesAreDetermined = (c : Command) (input : List ℕ) (r s : Reply) → HasShortContext c
    → IsForOneThread c → IsForOneSchedule c → IsReply c input r → IsReply c input s
    → IsOfInput r → IsOfInput s
    → (reply_text r ≡ reply_text s) × (status_of r ≡ status_of s)

-- what `check` finds of races is so, of a patient search or not: so each of its verdicts on them is true
abbrev pub FoundRacesAreTrue : Type 0
FoundRacesAreTrue = (limit : ℕ) (f : File) (found : Findings)
    → FindsRaces found.patient limit f found.raced → AreTrueRaces (first_world_of f) found
