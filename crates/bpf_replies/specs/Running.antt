-- What `run` replies: the jobs of a run file, in rounds or on worker threads.
use Rattle.std.specs.Prelude.{ℕ, Bool, List, Option, Some, None, Err, Ok, string_bytes}
use Rattle.bpf_jobs.specs.Printed.{IsReportBy}
use Rattle.bpf_events.specs.Reports.{IsHistory}
use Rattle.bpf_buffer_events.specs.Printed.{IsHistoryWithBuffers}
use Rattle.bpf_flushes.specs.Printed.{IsReportWithBuffers}
use Rattle.bpf_packets.specs.Reports.{IsReportWithPackets}
use Rattle.bpf_workers.specs.Printed.{IsWorkersReport}
use Rattle.bpf_file.specs.declared.error.FileError.TheVariants as FileError
use Rattle.bpf_file.specs.File.{File}
use Rattle.bpf_file.specs.Reading.{IsRunFile}
use Rattle.bpf_replies.specs.Script.{asked_world_of, first_world_of}
use Rattle.bpf_replies.specs.declared.refusal.Refusal.{Refusal}
use Rattle.bpf_replies.specs.declared.refusal.Refusal.TheVariants as refusal
use Rattle.bpf_replies.specs.declared.reply.Reply.{Reply}
use Rattle.bpf_replies.specs.declared.reply.Reply.TheVariants as reply

-- why a text is no run file: its first refusal; out of memory may take the place of any answer
abbrev pub RefusesFile : List ℕ → Refusal → Type 0
RefusesFile text (refusal.File line why) = IsRunFile text (Err (FileError.Refused line why))
RefusesFile text refusal.OutOfMemory = Unit {0}
RefusesFile text _ = ⊥

-- what is printed of the jobs of the file that the text says is of this kind; or the file's first
-- refusal
abbrev pub IsOfFile : (Told : File → List ℕ → Bool → Type 0) → List ℕ → Reply → Type 0
IsOfFile Told text (reply.Jobs printed stopped) = (f : File) × IsRunFile text (Ok f)
    × Told f (string_bytes printed) stopped
IsOfFile Told text (reply.Refused r) = RefusesFile text r
IsOfFile Told text _ = ⊥

-- `run`: the lines of the jobs, run over a new store of the file's maps and arrays, first by these
-- turns of CPUs and then in rounds; then where they are asked for, those of the keys that each CPU
-- lists with the end of its last job, and those of the maps and arrays
abbrev pub IsToldBy : (by : List (ℕ × ℕ)) → (keys maps : Bool) → File → List ℕ → Bool → Type 0
IsToldBy by keys maps f printed stopped =
    IsReportBy (asked_world_of keys f) by f.names maps printed stopped

abbrev pub IsRunOfFile : (by : List (ℕ × ℕ)) → (keys maps : Bool) → List ℕ → Reply → Type 0
IsRunOfFile by keys maps = IsOfFile (IsToldBy by keys maps)

-- `run --events`: these after the lines of all that happens in these turns and rounds
abbrev pub IsHistoryBy : (by : List (ℕ × ℕ)) → (keys maps : Bool) → File → List ℕ → Bool → Type 0
IsHistoryBy by keys maps f printed stopped =
    IsHistory (asked_world_of keys f) by f.names maps printed stopped

abbrev pub IsHistoryOfFile : (by : List (ℕ × ℕ)) → (keys maps : Bool) → List ℕ → Reply → Type 0
IsHistoryOfFile by keys maps = IsOfFile (IsHistoryBy by keys maps)

-- what is printed of a file's jobs and of their packets
abbrev pub IsRunWithPackets : (by : List (ℕ × ℕ)) → (keys maps : Bool) → File → List ℕ → Bool
    → Type 0
IsRunWithPackets by keys maps f printed stopped =
    IsReportWithPackets (asked_world_of keys f) by f.names maps printed stopped

abbrev pub IsRunWithPacketsOfFile : (by : List (ℕ × ℕ)) → (keys maps : Bool) → List ℕ → Reply
    → Type 0
IsRunWithPacketsOfFile by keys maps = IsOfFile (IsRunWithPackets by keys maps)

-- `run --x86`: the lines of the jobs of a file, run on CPUs with store buffers first by these moves and
-- then in rounds, and those of the maps and arrays where they are asked for
abbrev pub IsRunWithBuffers : (by : List (ℕ × ℕ)) → (maps : Bool) → File → List ℕ → Bool → Type 0
IsRunWithBuffers by maps f printed stopped =
    IsReportWithBuffers (first_world_of f) by f.names maps printed stopped

abbrev pub IsRunWithBuffersOfFile : (by : List (ℕ × ℕ)) → (maps : Bool) → List ℕ → Reply → Type 0
IsRunWithBuffersOfFile by maps = IsOfFile (IsRunWithBuffers by maps)

-- `run --x86 --events`: these after the lines of all that happens in these moves and rounds
abbrev pub IsBufferHistory : (by : List (ℕ × ℕ)) → (maps : Bool) → File → List ℕ → Bool → Type 0
IsBufferHistory by maps f printed stopped =
    IsHistoryWithBuffers (first_world_of f) by f.names maps printed stopped

abbrev pub IsBufferHistoryOfFile : (by : List (ℕ × ℕ)) → (maps : Bool) → List ℕ → Reply → Type 0
IsBufferHistoryOfFile by maps = IsOfFile (IsBufferHistory by maps)

-- `run --workers`: the lines of the jobs that the file says, ended as one history of a new store of
-- its maps and arrays explains; then, where they are asked for, those of the keys that each CPU lists
-- in this history after its jobs, and those of the maps and arrays that it leaves; or the
-- file's first refusal; or, of a file that is accepted, out of memory for its jobs and lists; and
-- beside them what is counted of the store that this history leaves, where that is asked for
abbrev pub IsRunByWorkers : (stats keys maps : Bool) → List ℕ → Reply → Type 0
IsRunByWorkers stats keys maps text (reply.Counted printed stopped counts) =
    (f : File) × IsRunFile text (Ok f)
    × IsWorkersReport f (record { keys = keys; maps = maps; stats = stats })
    (record { text = string_bytes printed; stopped = stopped; counts = string_bytes counts })
IsRunByWorkers stats keys maps text (reply.Refused refusal.JobsOutOfMemory) =
    (f : File) × IsRunFile text (Ok f)
IsRunByWorkers stats keys maps text (reply.Refused r) = RefusesFile text r
IsRunByWorkers stats keys maps text _ = ⊥

-- on worker threads where they are asked for, and else by turns
abbrev pub IsRunBy : Option ℕ → (stats : Bool) → (by : List (ℕ × ℕ)) → (keys maps : Bool)
    → List ℕ → Reply → Type 0
IsRunBy None stats by keys maps text r = IsRunOfFile by keys maps text r
IsRunBy (Some workers) stats by keys maps text r = IsRunByWorkers stats keys maps text r
