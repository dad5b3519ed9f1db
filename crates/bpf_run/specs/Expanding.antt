-- What `expand` replies: states of a run file's jobs.
use Rattle.std.specs.Prelude.{◌≡◌, ℕ, Bool, true, false, List, [], Ok, string_bytes}
use Rattle.bpf_file.specs.File.{File, shape_of}
use Rattle.bpf_file.specs.Reading.{IsRunFile}
use Rattle.bpf_expand.specs.Filter.{FilterState, IsFirstLine, new_filter}
use Rattle.bpf_replies.specs.Running.{RefusesFile}
use Rattle.bpf_replies.specs.declared.reply.Reply.{Reply}
use Rattle.bpf_replies.specs.declared.reply.Reply.TheVariants as reply

-- the filter of the states of a file's jobs, that has answered nothing
abbrev pub filter_of : (patient races : Bool) → File → FilterState
filter_of patient races f = new_filter patient races (shape_of f) f.names f.programs f.jobs

abbrev pub IsFilterOf : (patient races : Bool) → File → FilterState → Type 0
IsFilterOf patient races f x = x ≡ filter_of patient races f

-- the first state, where that is asked for; else nothing, where no line is read
abbrev pub IsExpandedText : (first : Bool) → File → List ℕ → Type 0
IsExpandedText true f printed = IsFirstLine (shape_of f) f.pairs f.programs f.jobs printed
IsExpandedText false f printed = printed ≡ []

-- that, or the file's first refusal
abbrev pub IsExpandedFile : (first : Bool) → List ℕ → Reply → Type 0
IsExpandedFile first text (reply.Text printed) = (f : File) × IsRunFile text (Ok f)
    × IsExpandedText first f (string_bytes printed)
IsExpandedFile first text (reply.Refused r) = RefusesFile text r
IsExpandedFile first text _ = ⊥
