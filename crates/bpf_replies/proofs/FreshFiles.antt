-- The machine of a run file is one before its first turn.
use Rattle.std.proofs.Common.{Bool, Ok, string_bytes, ◌≡◌, ℕ, zero, suc, List, [], ◌∷◌, Some, map, length, refl, subst, arith}
use Rattle.std.specs.Prelude.{All, slice_get}
use Rattle.bpf_shared.proofs.Soundness.{as_made_sound}
use Rattle.bpf_shared.specs.Shape.{IsShape}
use Rattle.bpf_names.specs.Names.{names_of}
use Rattle.bpf_cpu.specs.Input.{IsShort}
use Rattle.bpf_cpu.specs.declared.input.Input.{Input}
use Rattle.bpf_cpu.specs.Task.{Task, Stage, Waiting, InHand, Ended, waiting}
use Rattle.bpf_machine.specs.Laws.{IsFresh}
use Rattle.bpf_jobs.specs.declared.rounds.Report.{Report}
use Rattle.bpf_jobs.specs.Printed.{asked_world, first_world, IsReportBy}
use Rattle.bpf_events.specs.Reports.{IsHistory}
use Rattle.bpf_buffer_events.specs.Printed.{IsHistoryWithBuffers}
use Rattle.bpf_flushes.specs.Printed.{IsReportWithBuffers}
use Rattle.bpf_packets.specs.Reports.{IsReportWithPackets}
use Rattle.bpf_debug.specs.Laws.{IsNew}
use Rattle.bpf_debug.proofs.OwnValues.{calls_keep, made_own}
use Rattle.bpf_shared.specs.Store.{as_made}
use Rattle.bpf_pairs.specs.Pairs.{pair_of}
use Rattle.bpf_pairs.specs.Putting.{first_history}
use Rattle.bpf_pairs.specs.Filled.{filled}
use Rattle.bpf_pairs.proofs.Filling.{filled_sound, pairs_are_put}
use Rattle.bpf_file.specs.declared.file.RunFile.{RunFile}
use Rattle.bpf_file.specs.File.{File, file_of, shape_of}
use Rattle.bpf_file.specs.Reading.{IsRunFile}
use Rattle.bpf_file.specs.Runnable.{WaitsShort, IsJobFor, CanRun}
use Rattle.bpf_replies.specs.Running.{IsBufferHistory, IsHistoryOfFile, IsRunWithBuffers, IsRunWithPacketsOfFile, IsToldBy}
use Rattle.bpf_replies.specs.Script.{asked_world_of, first_world_of}
use Rattle.bpf_replies.specs.declared.reply.Reply.TheVariants as reply

each : (P : Task → Type 0) (tasks : List Task) → All P tasks → (j : ℕ) (task : Task)
    → slice_get tasks j ≡ Some task → P task
each P [] all j task at = cc
each P (t ∷ ts) all zero task at =
    let same : t ≡ task = cc in
    subst P same (all 0 t (omega arith))
each P (t ∷ ts) all (suc j) task at = each P ts (λ k d h. all (suc k) d (omega arith)) j task at

waits : (task : Task) (stage : Stage) → task.stage ≡ stage → WaitsShort stage
    → (input : Input) × (task.stage ≡ Waiting input) × (IsShort input)
waits task (Waiting input) e h = (input, e, h)
waits task (InHand state left) e h = absurd h
waits task (Ended outcome) e h = absurd h

pub fresh : (f : File) → IsShape (shape_of f) → CanRun f → IsFresh (first_world_of f)
fresh f shape can = record {
  store = filled_sound (shape_of f) f.pairs shape can.pairs;
  waits = λ j task at.
      let job : IsJobFor f.cpus (length f.programs) task =
      each (IsJobFor f.cpus (length f.programs)) f.jobs can.jobs j task at in
      waits task task.stage refl job.stage;
}

-- and no two keys lead to one value
pub is_new : (f : File) → IsShape (shape_of f) → CanRun f → IsNew (first_world_of f)
is_new f shape can = record {
  fresh = fresh f shape can;
  own = (calls_keep (as_made (shape_of f)) (filled (shape_of f) f.pairs)
      (first_history f.pairs) (as_made_sound (shape_of f) shape, made_own (shape_of f)) (pairs_are_put (shape_of f) f.pairs shape can.pairs)).1;
}

pub fresh_asked : (keys : Bool) (f : File) → IsShape (shape_of f) → CanRun f → IsFresh (asked_world_of keys f)
fresh_asked keys f shape can = record { store = (fresh f shape can).store; waits = (fresh f shape can).waits }

-- what was printed of the file that was read is what is to be printed of the text's file
pub told : (by : List (ℕ × ℕ)) (keys maps : Bool) (text : List ℕ) (file : RunFile) (r : Report)
    → IsRunFile text (Ok (file_of file))
    → IsReportBy (asked_world keys file.setup.shape (map pair_of file.setup.pairs.items) file.setup.programs.items (map waiting file.setup.jobs.items))
    by (names_of file.names) maps (string_bytes r.text) r.stopped
    → (f : File) × IsRunFile text (Ok f) × IsToldBy by keys maps f (string_bytes r.text) r.stopped
told by keys maps text file r said report = (file_of file, said, report)

-- and so with all that happens
pub history : (by : List (ℕ × ℕ)) (keys maps : Bool) (text : List ℕ) (file : RunFile) (r : Report)
    → IsRunFile text (Ok (file_of file))
    → IsHistory (asked_world keys file.setup.shape (map pair_of file.setup.pairs.items) file.setup.programs.items (map waiting file.setup.jobs.items))
    by (names_of file.names) maps (string_bytes r.text) r.stopped
    → IsHistoryOfFile by keys maps text (reply.Jobs r.text r.stopped)
history by keys maps text file r said report = (file_of file, said, report)

-- and so with packets
pub with_packets : (by : List (ℕ × ℕ)) (keys maps : Bool) (text : List ℕ) (file : RunFile) (r : Report)
    → IsRunFile text (Ok (file_of file))
    → IsReportWithPackets (asked_world keys file.setup.shape (map pair_of file.setup.pairs.items) file.setup.programs.items (map waiting file.setup.jobs.items))
    by (names_of file.names) maps (string_bytes r.text) r.stopped
    → IsRunWithPacketsOfFile by keys maps text (reply.Jobs r.text r.stopped)
with_packets by keys maps text file r said report = (file_of file, said, report)

-- and so on CPUs with store buffers
pub with_buffers : (by : List (ℕ × ℕ)) (maps : Bool) (text : List ℕ) (file : RunFile) (r : Report)
    → IsRunFile text (Ok (file_of file))
    → IsReportWithBuffers (first_world file.setup.shape (map pair_of file.setup.pairs.items) file.setup.programs.items (map waiting file.setup.jobs.items))
    by (names_of file.names) maps (string_bytes r.text) r.stopped
    → (f : File) × IsRunFile text (Ok f) × IsRunWithBuffers by maps f (string_bytes r.text) r.stopped
with_buffers by maps text file r said report = (file_of file, said, report)

pub buffer_history : (by : List (ℕ × ℕ)) (maps : Bool) (text : List ℕ) (file : RunFile) (r : Report)
    → IsRunFile text (Ok (file_of file))
    → IsHistoryWithBuffers (first_world file.setup.shape (map pair_of file.setup.pairs.items) file.setup.programs.items (map waiting file.setup.jobs.items))
    by (names_of file.names) maps (string_bytes r.text) r.stopped
    → (f : File) × IsRunFile text (Ok f) × IsBufferHistory by maps f (string_bytes r.text) r.stopped
buffer_history by maps text file r said report = (file_of file, said, report)
