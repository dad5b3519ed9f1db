-- How much a run file may have, and what its lines may leave out. Our own choice.
use Rattle.std.specs.Prelude.{ℕ}

-- the programs, at most
abbrev pub most_programs : ℕ
most_programs = 256

-- the variables, at most
abbrev pub most_variables : ℕ
most_variables = 256

-- the pairs of maps, at most
abbrev pub most_pairs : ℕ
most_pairs = 4096

-- the jobs, at most
abbrev pub most_jobs : ℕ
most_jobs = 4096
