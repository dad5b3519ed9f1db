-- What `debug` replies: a run file, a line `---`, and commands after it.
use Rattle.std.specs.Prelude.{◌≡◌, ◌⊎◌, ◌&&◌, ℕ, Bool, true, false, List, [], ◌∷◌, ◌++◌, Option, None, Ok, Err, Vec, codes, is_err, length, map, option_map}
use Rattle.std.specs.List.{list_any}
use Rattle.std.specs.declared.alloc.Global.{Global}
use Rattle.std.specs.Str.{bytes_eq}
use Rattle.bpf_lines.specs.Lines.{lines_behind, lines_of, fields_of}
use Rattle.bpf_machine.specs.Schedule.{World}
use Rattle.bpf_jobs.specs.Printed.{any_stopped, asked_world, first_world}
use Rattle.bpf_file.specs.declared.error.FileError.TheVariants as FileError
use Rattle.bpf_file.specs.declared.file.RunFile.{RunFile}
use Rattle.bpf_file.specs.File.{File, file_of, shape_of}
use Rattle.bpf_file.specs.Programs.{text_of_lines}
use Rattle.bpf_file.specs.Reading.{IsRunFile}
use Rattle.bpf_debug.specs.Session.{Scene}
use Rattle.bpf_debug.specs.Script.{Answer, RunsScript, answer_of}
use Rattle.bpf_replies.specs.declared.refusal.Refusal.TheVariants as refusal
use Rattle.bpf_replies.specs.declared.reply.Reply.{Reply}
use Rattle.bpf_replies.specs.declared.reply.Reply.TheVariants as reply

-- ---- the input

-- a line whose only word is `---`
abbrev pub is_dashes : List (List ℕ) → Bool
is_dashes (word ∷ []) = bytes_eq (codes "---") word
is_dashes [] = false
is_dashes (word ∷ other ∷ words) = false

abbrev pub ends_file : List ℕ → Bool
ends_file line = is_dashes (fields_of line)

abbrev pub NoneEnds : List (List ℕ) → Type 0
NoneEnds [] = Unit {0}
NoneEnds (line ∷ lines) = (ends_file line ≡ false) × NoneEnds lines

-- what is before the first such line is the run file, and the lines after it are commands;
-- without one all is the run file, and there are no commands
abbrev pub IsCut : (input file : List ℕ) → (commands : List (List ℕ)) → Type 0
IsCut input file commands =
    ((before : List (List ℕ)) × (last : List ℕ) × (lines_of input ≡ before ++ last ∷ commands)
    × NoneEnds before × (ends_file last ≡ true) × (file ≡ text_of_lines before))
    ⊎ (NoneEnds (lines_of input) × (file ≡ input) × (commands ≡ []))

-- ---- the reply

-- the machine of a run file before its first turn
abbrev pub first_world_of : File → World
first_world_of f = first_world (shape_of f) f.pairs f.programs f.jobs

-- the same, in which lists of keys are asked for or not
abbrev pub asked_world_of : Bool → File → World
asked_world_of keys f =
    asked_world keys (shape_of f) f.pairs f.programs f.jobs

-- the first of these, without breakpoints, a watch or turns
abbrev pub scene_of : File → Scene
scene_of f = record {
  world = first_world_of f;
  names = f.names;
  breaks = [];
  watch = None;
  first = first_world_of f;
  turns = [];
}

-- with `--echo` the commands' lines are shown, and else none
abbrev pub AreShown : (echo : Bool) → List (List ℕ) → Option (Vec ℕ Global) → Type 0
AreShown true commands lines = lines_behind (option_map (λ v. v.items) lines) ≡ commands
AreShown false commands lines = lines ≡ None

-- some command is refused
abbrev pub any_refused : List Answer → Bool
any_refused answers = list_any is_err answers

-- the commands' answers, one after the other, over the machine of the file, with the lines where they
-- are shown; whether some job of it then has ended in a fault or out of budget, and, with `--strict`,
-- whether a command is refused; or the file's first refusal
abbrev pub IsScriptOfFile : (echo strict : Bool) → List ℕ → Reply → Type 0
IsScriptOfFile echo strict input (reply.Script answers lines stopped refused) =
    (file : List ℕ) × (commands : List (List ℕ)) × (f : File) × (y : Scene)
    × IsCut input file commands × IsRunFile file (Ok f)
    × RunsScript (scene_of f) commands (map answer_of answers.items) y
    × AreShown echo commands lines
    × (stopped ≡ any_stopped (length y.world.jobs) y.world.jobs)
    × (refused ≡ (strict && any_refused (map answer_of answers.items)))
IsScriptOfFile echo strict input (reply.Refused refusal.OutOfMemory) = Unit {0}
IsScriptOfFile echo strict input (reply.Refused (refusal.File line why)) =
    (file : List ℕ) × (commands : List (List ℕ)) × IsCut input file commands
    × IsRunFile file (Err (FileError.Refused line why))
IsScriptOfFile echo strict input _ = ⊥

-- the same of a file that was read, but for refusals
abbrev pub IsDebugReply : (echo strict : Bool) → RunFile → List (List ℕ) → Reply → Type 0
IsDebugReply echo strict f commands (reply.Script answers lines stopped refused) =
    (y : Scene) × RunsScript (scene_of (file_of f)) commands (map answer_of answers.items) y
    × AreShown echo commands lines
    × (stopped ≡ any_stopped (length y.world.jobs) y.world.jobs)
    × (refused ≡ (strict && any_refused (map answer_of answers.items)))
IsDebugReply echo strict f commands _ = ⊥
