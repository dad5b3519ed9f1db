-- What the text of a file amounts to that `debug --x86` is given.
use Rattle.std.specs.Prelude.{ℕ, Bool, List, Ok}
use Rattle.bpf_lines.specs.Lines.{lines_of}
use Rattle.bpf_file.specs.File.{File}
use Rattle.bpf_file.specs.Reading.{IsRunFile}
use Rattle.bpf_buffer_debug.specs.Session.{IsShown}
use Rattle.bpf_run.specs.Conversing.{IsRefusal}
use Rattle.bpf_replies.specs.BufferScript.{IsBufferScriptOfFile, buffer_scene_of}
use Rattle.bpf_replies.specs.Script.{NoneEnds}
use Rattle.bpf_run.specs.declared.buffer_debugging.Opening.{Opening}
use Rattle.bpf_run.specs.declared.buffer_debugging.Opening.TheVariants as opening

-- where no line ends the run file, it is refused, or its session waits for commands
abbrev pub IsBufferOpened : (echo strict : Bool) → List ℕ → Opening → Type 0
IsBufferOpened echo strict text (opening.Reply r) =
    IsBufferScriptOfFile echo strict text r × (NoneEnds (lines_of text) → IsRefusal r)
IsBufferOpened echo strict text (opening.Talk session) = NoneEnds (lines_of text)
    × ((f : File) × IsRunFile text (Ok f) × IsShown session (buffer_scene_of f))
