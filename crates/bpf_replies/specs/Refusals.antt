-- What the errors of the crates below are as refusals.
use Rattle.bpf_file.specs.declared.error.FileError.{FileError}
use Rattle.bpf_file.specs.declared.error.FileError.TheVariants as file_error
use Rattle.bpf_workers.specs.declared.workers.WorkError.{WorkError}
use Rattle.bpf_workers.specs.declared.workers.WorkError.TheVariants as work_error
use Rattle.bpf_replies.specs.declared.refusal.Refusal.{Refusal}
use Rattle.bpf_replies.specs.declared.refusal.Refusal.TheVariants as refusal

-- of reading a run file
abbrev pub file_refusal : FileError → Refusal
file_refusal (file_error.Refused line why) = refusal.File line why
file_refusal file_error.OutOfMemory = refusal.OutOfMemory

-- of jobs on worker threads
abbrev pub work_refusal : WorkError → Refusal
work_refusal work_error.Jobs = refusal.JobsOutOfMemory
work_refusal work_error.OutOfMemory = refusal.OutOfMemory
