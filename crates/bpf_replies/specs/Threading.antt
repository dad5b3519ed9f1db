-- In which ways worker threads may reach more outcomes of a run file's jobs than turns.
use Rattle.std.specs.Prelude.{ℕ, List, Ok}
use Rattle.bpf_file.specs.File.{File, shape_of}
use Rattle.bpf_file.specs.Reading.{IsRunFile}
use Rattle.bpf_threads.specs.Threads.{IsTrueOf}
use Rattle.bpf_threads.specs.declared.threads.Threads.{Threads}

-- what is said of threads is true of a file's jobs
abbrev pub AreThreadsOfFile : File → Threads → Type 0
AreThreadsOfFile f t =
    IsTrueOf (shape_of f) f.pairs f.programs f.jobs t

-- and of the jobs that a text says
abbrev pub AreThreadsOf : List ℕ → Threads → Type 0
AreThreadsOf text t = (f : File) × IsRunFile text (Ok f) × AreThreadsOfFile f t
