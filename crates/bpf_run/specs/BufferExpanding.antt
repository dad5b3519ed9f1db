-- What `expand --x86` replies: states of a run file's jobs on CPUs with store buffers.
use Rattle.std.specs.Prelude.{◌≡◌, ℕ, Bool, true, false, List, [], Ok, string_bytes}
use Rattle.bpf_file.specs.File.{File, shape_of}
use Rattle.bpf_file.specs.Reading.{IsRunFile}
use Rattle.bpf_buffer_expand.specs.Filter.{FilterState, IsFirstLine, new_filter}
use Rattle.bpf_replies.specs.Running.{RefusesFile}
use Rattle.bpf_replies.specs.declared.reply.Reply.{Reply}
use Rattle.bpf_replies.specs.declared.reply.Reply.TheVariants as reply

-- the filter of the states of a file's jobs, that has answered nothing
abbrev pub buffer_filter_of : (patient : Bool) → File → FilterState
buffer_filter_of patient f = new_filter patient (shape_of f) f.names f.programs f.jobs

abbrev pub IsBufferFilterOf : (patient : Bool) → File → FilterState → Type 0
IsBufferFilterOf patient f x = x ≡ buffer_filter_of patient f

-- the first state, where that is asked for; else nothing, where no line is read
abbrev pub IsExpandedTextOnX86 : (first : Bool) → File → List ℕ → Type 0
IsExpandedTextOnX86 true f printed = IsFirstLine (shape_of f) f.pairs f.programs f.jobs printed
IsExpandedTextOnX86 false f printed = printed ≡ []

-- that, or the file's first refusal
abbrev pub IsExpandedFileOnX86 : (first : Bool) → List ℕ → Reply → Type 0
IsExpandedFileOnX86 first text (reply.Text printed) = (f : File) × IsRunFile text (Ok f)
    × IsExpandedTextOnX86 first f (string_bytes printed)
IsExpandedFileOnX86 first text (reply.Refused r) = RefusesFile text r
IsExpandedFileOnX86 first text _ = ⊥
