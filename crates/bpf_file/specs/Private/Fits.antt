-- What a file has at every line: sizes of a store, jobs and programs of a machine. Private
-- functions cite this.
use Rattle.std.specs.Prelude.{◌≡◌, ◌<◌, nat_lt, false, [], length, None, Result, Ok, Err}
use Rattle.bpf_shared.specs.First.{first_of}
use Rattle.bpf_shared.specs.Refusals.{outside, maps_tests, each_array_tests}
use Rattle.bpf_file.specs.declared.error.FileError.{FileError}
use Rattle.bpf_file.specs.Parts.{Part, State, Between, Within}
use Rattle.bpf_file.specs.Runnable.{CanRun}

-- the groups of arrays, pairs, programs and jobs are empty until their lines come
pub record IsFit (p : Part) : Type 0 where
  pub cpus : outside 1 16 p.file.cpus ≡ false
  pub count : nat_lt 16 (length p.file.maps) ≡ false
  pub maps : first_of (maps_tests 0 p.file.maps) ≡ None
  pub array_count : nat_lt 16 (length p.file.arrays) ≡ false
  pub arrays : first_of (each_array_tests p.file.cpus p.file.contents 0 p.file.arrays) ≡ None
  pub contents : length p.file.contents ≡ length p.file.arrays
  pub titles : length p.titles ≡ length p.file.programs
  pub runs : CanRun p.file
  pub no_arrays : p.group < 5 → p.file.arrays ≡ []
  pub no_pairs : p.group < 6 → p.file.pairs ≡ []
  pub no_programs : p.group < 7 → p.file.programs ≡ []
  pub no_jobs : p.group < 8 → p.file.jobs ≡ []

abbrev pub IsFitState : State → Type 0
IsFitState (Between p) = IsFit p
IsFitState (Within p from name lines) = IsFit p × (p.file.jobs ≡ [])

abbrev pub IsFitResult : Result State FileError → Type 0
IsFitResult (Ok s) = IsFitState s
IsFitResult (Err e) = Unit {0}
