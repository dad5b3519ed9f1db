-- The runs of a CPU.
use Rattle.std.specs.Prelude.{ℕ, Bool, false, ◌&&◌, ◌==◌, List, slice_index_or}
use Rattle.bpf_hash.specs.declared.runs.Runs.{Runs}

-- of a CPU that began none
abbrev pub no_runs : Runs
no_runs = record { count = 0; running = false }

abbrev pub run_of : List Runs → ℕ → Runs
run_of runs c = slice_index_or runs c no_runs

abbrev pub count_of : Runs → ℕ
count_of r = r.count

-- the CPU is in the run of this number
abbrev pub is_run : Runs → ℕ → Bool
is_run r run = r.running && (run == r.count)
