-- What a command of a FILE does that may hold a conversation: `debug` and `expand`.
use Rattle.std.specs.Prelude.{◌≡◌, ◌⊎◌, ◌≤◌, ◌&&◌, ℕ, Bool, true, false, IfSome, IsUtf8, List, [], Option, Some, None, Ok, length}
use Rattle.clap.specs.Words.{Text}
use Rattle.bpf_lines.specs.Lines.{lines_of}
use Rattle.bpf_file.specs.File.{File}
use Rattle.bpf_file.specs.Reading.{IsRunFile}
use Rattle.bpf_debug.specs.Session.{Scene}
use Rattle.bpf_command.specs.declared.command.Command.{Command}
use Rattle.bpf_command.specs.declared.command.Command.TheVariants as command
use Rattle.bpf_talk.specs.Terminal.{Call}
use Rattle.bpf_talk.specs.Talking.{Talks}
use Rattle.bpf_talk.specs.declared.talking.Talked.{Talked}
use Rattle.bpf_talk.specs.declared.talking.Talked.TheVariants as talked
use Rattle.bpf_jobs.specs.Printed.{any_stopped}
use Rattle.bpf_expand.specs.Filter.{FilterState, AnswersState}
use Rattle.bpf_buffer_expand.specs.Filter as buffer_states
use Rattle.bpf_buffer_debug.specs.Session as buffers
use Rattle.bpf_run.specs.Answering.{AnswersBufferText, AnswersText}
use Rattle.bpf_replies.specs.Answer.{Prints, script_status, stats_of}
use Rattle.bpf_run.specs.Commands.{IsReply}
use Rattle.bpf_replies.specs.Input.{is_unread}
use Rattle.bpf_run.specs.BufferExpanding.{buffer_filter_of}
use Rattle.bpf_run.specs.Expanding.{filter_of}
use Rattle.bpf_replies.specs.BufferScript.{HasStopped, buffer_scene_of}
use Rattle.bpf_replies.specs.Script.{NoneEnds, scene_of}
use Rattle.bpf_run.specs.declared.conversing.Partner.{Partner}
use Rattle.bpf_run.specs.declared.conversing.Partner.TheVariants as partner
use Rattle.bpf_replies.specs.declared.input.TheConstants.{MAX_INPUT}
use Rattle.bpf_replies.specs.declared.reply.Reply.{Reply}
use Rattle.bpf_replies.specs.declared.reply.Reply.TheVariants as reply
use Rattle.bpf_replies.specs.declared.reply.Status.{Status}
use Rattle.bpf_replies.specs.declared.reply.Status.TheVariants as status

-- with what lines may be exchanged, and the file, of a command of a FILE that isn't answered in
-- objects
abbrev pub asked_talk : Command → Option Text → (json : Bool) → Option (Partner × Text)
asked_talk (command.Debug echo strict) (Some name) false =
    Some (partner.Debugger echo strict, name)
asked_talk (command.DebugX86 echo strict) (Some name) false =
    Some (partner.BufferDebugger echo strict, name)
asked_talk (command.Expand false patient races) (Some name) false =
    Some (partner.States patient races, name)
asked_talk (command.ExpandX86 false patient) (Some name) false =
    Some (partner.BufferStates patient, name)
asked_talk _ _ _ = None

-- the command
abbrev pub command_of : Partner → Command
command_of (partner.Debugger echo strict) = command.Debug echo strict
command_of (partner.BufferDebugger echo strict) = command.DebugX86 echo strict
command_of (partner.States patient races) = command.Expand false patient races
command_of (partner.BufferStates patient) = command.ExpandX86 false patient

-- a file of this text leaves lines to be read: those of the debugger unless it has its own
abbrev pub LeavesLines : Partner → List ℕ → Type 0
LeavesLines (partner.Debugger echo strict) bytes = NoneEnds (lines_of bytes)
LeavesLines (partner.BufferDebugger echo strict) bytes = NoneEnds (lines_of bytes)
LeavesLines (partner.States patient races) bytes = Unit {0}
LeavesLines (partner.BufferStates patient) bytes = Unit {0}

abbrev pub IsRefusal : Reply → Type 0
IsRefusal (reply.Refused refusal) = Unit {0}
IsRefusal _ = ⊥

-- what a conversation amounts to: as a script does, or it is refused or couldn't be written
abbrev pub talk_status : (strict stopped : Bool) → Talked → Status
talk_status strict stopped (talked.Over refused) = script_status stopped (strict && refused)
talk_status strict stopped (talked.Refused why) = status.Refused
talk_status strict stopped talked.CutOff = status.Failed

-- calls of the terminal that are a conversation with the debugger from this scene on
abbrev pub DebugsFrom : (passes : List Call → Type 0) → (unread unwritten : Bool)
    → (echo strict : Bool) → Scene → Status → Type 0
DebugsFrom passes unread unwritten echo strict x answered = (calls : List Call) × (told : Talked)
    × (y : Scene) × passes calls × Talks AnswersText echo x y calls unread unwritten told
    × (answered ≡ talk_status strict (any_stopped (length y.world.jobs) y.world.jobs) told)

-- the same of CPUs with store buffers; where memory ran out in the middle of a move there is no scene in
-- the end
abbrev pub BufferDebugsFrom : (passes : List Call → Type 0) → (unread unwritten : Bool)
    → (echo strict : Bool) → buffers.Scene → Status → Type 0
BufferDebugsFrom passes unread unwritten echo strict x answered = (calls : List Call)
    × (told : Talked) × (y : Option buffers.Scene) × (stopped : Bool) × passes calls
    × Talks AnswersBufferText echo (Some x) y calls unread unwritten told × HasStopped y stopped
    × (answered ≡ talk_status strict stopped told)

-- that are one with this filter of states; a line that is refused refuses all
abbrev pub StatesFrom : (passes : List Call → Type 0) → (unread unwritten : Bool)
    → FilterState → Status → Type 0
StatesFrom passes unread unwritten x answered = (calls : List Call) × (told : Talked)
    × (y : FilterState) × passes calls × Talks AnswersState false x y calls unread unwritten told
    × (answered ≡ talk_status true false told)

-- the same of states of CPUs with store buffers
abbrev pub BufferStatesFrom : (passes : List Call → Type 0) → (unread unwritten : Bool)
    → buffer_states.FilterState → Status → Type 0
BufferStatesFrom passes unread unwritten x answered = (calls : List Call) × (told : Talked)
    × (y : buffer_states.FilterState) × passes calls
    × Talks buffer_states.AnswersState false x y calls unread unwritten told
    × (answered ≡ talk_status true false told)

-- that are one over the jobs of a file
abbrev pub Converses : (passes : List Call → Type 0) → (unread unwritten : Bool) → Partner
    → File → Status → Type 0
Converses passes unread unwritten (partner.Debugger echo strict) f answered =
    DebugsFrom passes unread unwritten echo strict (scene_of f) answered
Converses passes unread unwritten (partner.BufferDebugger echo strict) f answered =
    BufferDebugsFrom passes unread unwritten echo strict (buffer_scene_of f) answered
Converses passes unread unwritten (partner.States patient races) f answered =
    StatesFrom passes unread unwritten (filter_of patient races f) answered
Converses passes unread unwritten (partner.BufferStates patient) f answered =
    BufferStatesFrom passes unread unwritten (buffer_filter_of patient f) answered

-- what the file alone amounts to is printed, and the terminal is left alone; or it is a run file that
-- leaves lines, and a conversation over its jobs is held, and nothing else written
abbrev pub Holds : Partner → (input : Option (List ℕ)) → (silent : Type 0)
    → (talks : File → Status → Type 0) → (read_failed : Bool)
    → (old new : Option (List ℕ)) → (write_failed : Bool) → Status → (stats : List ℕ) → Type 0
Holds p input silent talks read_failed old new write_failed answered stats =
    (silent × ((r : Reply) × (read_failed ≡ is_unread r)
    × IfSome input (λ bytes. IsReply (command_of p) bytes r × (LeavesLines p bytes → IsRefusal r))
    × Prints r old new write_failed answered × (stats ≡ stats_of r)))
    ⊎ ((read_failed ≡ false) × (new ≡ old) × (write_failed ≡ false) × (stats ≡ [])
    × ((f : File) × IfSome input (λ bytes. (length bytes ≤ MAX_INPUT) × IsUtf8 bytes
    × LeavesLines p bytes × IsRunFile bytes (Ok f)) × talks f answered))
