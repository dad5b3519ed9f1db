-- What each command replies to the text that it read.
use Rattle.std.specs.Prelude.{◌≡◌, ◌≤◌, ◌⊎◌, ℕ, List, None, IsUtf8, length, map, string_bytes}
use Rattle.bpf_replies.specs.BufferScript.{IsBufferScriptOfFile}
use Rattle.bpf_replies.specs.Checking.{IsCheckedFile}
use Rattle.bpf_run.specs.BufferExpanding.{IsExpandedFileOnX86}
use Rattle.bpf_run.specs.Expanding.{IsExpandedFile}
use Rattle.bpf_replies.specs.Exploring.{IsExploredFile, IsShownFile}
use Rattle.bpf_replies.specs.Judging.{IsJudgedOfFile}
use Rattle.bpf_replies.specs.Input.{RefusesInput}
use Rattle.bpf_replies.specs.Programs.{IsAssembled, IsAssembledRun, IsDisassembled, IsRun}
use Rattle.bpf_replies.specs.Reordering.{IsExploredFileOnX86, IsShownFileOnX86}
use Rattle.bpf_run.specs.Racing.{AreRacesOf, IsRacesFile}
use Rattle.bpf_replies.specs.Running.{IsBufferHistoryOfFile, IsHistoryOfFile, IsRunBy, IsRunWithBuffersOfFile, IsRunWithPacketsOfFile}
use Rattle.bpf_replies.specs.Script.{IsScriptOfFile}
use Rattle.bpf_command.specs.declared.command.Command.{Command}
use Rattle.bpf_command.specs.declared.command.Command.TheVariants as command
use Rattle.bpf_replies.specs.declared.input.TheConstants.{MAX_INPUT}
use Rattle.bpf_replies.specs.declared.refusal.Refusal.{Refusal}
use Rattle.bpf_replies.specs.declared.reply.Reply.{Reply}
use Rattle.bpf_replies.specs.declared.reply.Reply.TheVariants as reply

-- what a command replies to the text
abbrev pub IsAnswer : Command → List ℕ → Reply → Type 0
IsAnswer (command.Hex options) text r = IsRun options.budget options.context.items text r
IsAnswer (command.Asm listing) text r = IsAssembled listing text r
IsAnswer (command.AsmRun options) text r =
    IsAssembledRun options.budget options.context.items text r
IsAnswer (command.Disasm pc) text r = IsDisassembled pc text r
IsAnswer (command.Run options) text r =
    IsRunBy options.workers options.stats options.by.items options.keys options.maps text r
IsAnswer (command.Debug echo strict) text r = IsScriptOfFile echo strict text r
IsAnswer (command.DebugX86 echo strict) text r = IsBufferScriptOfFile echo strict text r
IsAnswer (command.History options) text r =
    IsHistoryOfFile options.by.items options.keys options.maps text r
IsAnswer (command.Packets options) text r =
    IsRunWithPacketsOfFile options.by.items options.keys options.maps text r
IsAnswer (command.X86 options) text r =
    IsRunWithBuffersOfFile options.by.items options.maps text r
IsAnswer (command.X86History options) text r =
    IsBufferHistoryOfFile options.by.items options.maps text r
IsAnswer (command.Judge options) text r = IsJudgedOfFile options.by.items options.keys text r
IsAnswer (command.Explore options) text r = IsExploredFile options.patient options.limit text r
IsAnswer (command.ExploreX86 options) text r =
    IsExploredFileOnX86 options.patient options.limit text r
IsAnswer (command.Show options) text r =
    IsShownFile options.search.patient options.search.limit options.outcome text r
IsAnswer (command.ShowX86 options) text r =
    IsShownFileOnX86 options.search.patient options.search.limit options.outcome text r
IsAnswer (command.Races options) text r =
    IsRacesFile options.search.patient options.search.limit (map string_bytes options.sync.items) text r
IsAnswer (command.Check options) text r = IsCheckedFile AreRacesOf options text r
IsAnswer (command.Expand first patient races) text r = IsExpandedFile first text r
IsAnswer (command.ExpandX86 first patient) text r = IsExpandedFileOnX86 first text r

-- it asks for no workers
abbrev pub IsForOneThread : Command → Type 0
IsForOneThread (command.Run options) = options.workers ≡ None
IsForOneThread _ = Unit {0}

-- it doesn't choose among schedules, nor print states, nor debug CPUs with store buffers
abbrev pub IsForOneSchedule : Command → Type 0
IsForOneSchedule (command.DebugX86 echo strict) = ⊥
IsForOneSchedule (command.Explore options) = ⊥
IsForOneSchedule (command.ExploreX86 options) = ⊥
IsForOneSchedule (command.Show options) = ⊥
IsForOneSchedule (command.ShowX86 options) = ⊥
IsForOneSchedule (command.Races options) = ⊥
IsForOneSchedule (command.Check options) = ⊥
IsForOneSchedule (command.Expand first patient races) = ⊥
IsForOneSchedule (command.ExpandX86 first patient) = ⊥
IsForOneSchedule _ = Unit {0}

-- what a command replies to the bytes that its source has left
abbrev pub IsReply : Command → List ℕ → Reply → Type 0
IsReply c input r = ((e : Refusal) × (r ≡ reply.Refused e) × RefusesInput input e)
    ⊎ ((length input ≤ MAX_INPUT) × IsUtf8 input × IsAnswer c input r)
