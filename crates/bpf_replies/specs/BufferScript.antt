-- What `debug --x86` replies: a run file, a line `---`, and commands after it, on CPUs with store buffers.
use Rattle.std.specs.Prelude.{◌≡◌, ◌&&◌, ℕ, Bool, List, [], Option, Some, None, Ok, Err, length, map}
use Rattle.bpf_x86.specs.Machine.{drained}
use Rattle.bpf_jobs.specs.Printed.{any_stopped}
use Rattle.bpf_file.specs.declared.error.FileError.TheVariants as FileError
use Rattle.bpf_file.specs.declared.file.RunFile.{RunFile}
use Rattle.bpf_file.specs.File.{File, file_of}
use Rattle.bpf_file.specs.Reading.{IsRunFile}
use Rattle.bpf_debug.specs.Script.{answer_of}
use Rattle.bpf_buffer_debug.specs.Session.{Scene}
use Rattle.bpf_buffer_debug.specs.Script.{RunsScript}
use Rattle.bpf_replies.specs.Script.{AreShown, IsCut, any_refused, first_world_of}
use Rattle.bpf_replies.specs.declared.refusal.Refusal.TheVariants as refusal
use Rattle.bpf_replies.specs.declared.reply.Reply.{Reply}
use Rattle.bpf_replies.specs.declared.reply.Reply.TheVariants as reply

-- the machine of a run file before its first move, without breakpoints, and nothing is watched
abbrev pub buffer_scene_of : File → Scene
buffer_scene_of f = record {
  here = drained (first_world_of f);
  names = f.names;
  breaks = [];
  watch = None;
  first = drained (first_world_of f);
  moves = [];
}

-- whether some job of the machine has ended in a fault or out of budget; where memory ran out in the
-- middle of a move, nothing is said
abbrev pub HasStopped : Option Scene → Bool → Type 0
HasStopped None stopped = Unit {0}
HasStopped (Some y) stopped = stopped ≡ any_stopped (length y.here.world.jobs) y.here.world.jobs

-- the commands' answers, over the machine of the file, and all else as without store buffers; or the
-- file's first refusal
abbrev pub IsBufferScriptOfFile : (echo strict : Bool) → List ℕ → Reply → Type 0
IsBufferScriptOfFile echo strict input (reply.Script answers lines stopped refused) =
    (file : List ℕ) × (commands : List (List ℕ)) × (f : File) × (y : Option Scene)
    × IsCut input file commands × IsRunFile file (Ok f)
    × RunsScript (Some (buffer_scene_of f)) commands (map answer_of answers.items) y
    × AreShown echo commands lines × HasStopped y stopped
    × (refused ≡ (strict && any_refused (map answer_of answers.items)))
IsBufferScriptOfFile echo strict input (reply.Refused refusal.OutOfMemory) = Unit {0}
IsBufferScriptOfFile echo strict input (reply.Refused (refusal.File line why)) =
    (file : List ℕ) × (commands : List (List ℕ)) × IsCut input file commands
    × IsRunFile file (Err (FileError.Refused line why))
IsBufferScriptOfFile echo strict input _ = ⊥

-- the same of a file that was read, but for refusals
abbrev pub IsBufferDebugReply
    : (echo strict : Bool) → RunFile → List (List ℕ) → Reply → Type 0
IsBufferDebugReply echo strict f commands (reply.Script answers lines stopped refused) =
    (y : Option Scene)
    × RunsScript (Some (buffer_scene_of (file_of f))) commands (map answer_of answers.items) y
    × AreShown echo commands lines × HasStopped y stopped
    × (refused ≡ (strict && any_refused (map answer_of answers.items)))
IsBufferDebugReply echo strict f commands _ = ⊥
