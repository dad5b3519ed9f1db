-- What is printed of a run file whose jobs are run on worker threads. Our own choice.
use Rattle.std.specs.Prelude.{◌≡◌, ℕ, Bool, List, [], ◌∷◌}
use Rattle.bpf_shared.specs.Store.{Plain}
use Rattle.bpf_pairs.specs.Putting.{first_history}
use Rattle.bpf_cpu.specs.declared.outcome.Outcome.{Outcome}
use Rattle.bpf_cpu.specs.Task.{Task, Ended}
use Rattle.bpf_jobs.specs.Printed.{list_lines, TellsWith}
use Rattle.bpf_file.specs.File.{File, shape_of}
use Rattle.hop_words.specs.Closing.{Ending}
use Rattle.hop_map.specs.Dumping.{IsLast}
use Rattle.bpf_sched.specs.Explained.{IsExplained, LeadsTo}
use Rattle.bpf_workers.specs.Stats.{AreStatsAsked}

-- jobs that have ended so
abbrev pub as_ended : List Task → List Outcome → List Task
as_ended [] ends = []
as_ended (task ∷ tasks) [] = []
as_ended (task ∷ tasks) (end ∷ ends) = record task { stage = Ended end } ∷ as_ended tasks ends

-- what a user asks to be printed besides
pub record Asked : Type 0 where
  pub keys : Bool
  pub maps : Bool
  pub stats : Bool

-- what is printed: the text, whether some job ended in a fault or out of budget, and beside it the
-- maps' numbers
pub record Printed : Type 0 where
  pub text : List ℕ
  pub stopped : Bool
  pub counts : List ℕ

-- one history of the file's store, new, its segments' versions and run counters at 0, begins with
-- the run in which CPU 0 puts the maps' pairs in; what follows explains how all jobs ended and, where
-- lists of keys are asked for, what each CPU has listed after its jobs. It leads to the last store,
-- which the words have that are left. The text has a line of each job, in the file's order, then those
-- of these lists, by rising CPU, and then, where they are asked for, the lines of the maps, variables
-- and arrays of the last store; and the numbers are those of these words
pub record IsWorkersReport (f : File) (asked : Asked) (printed : Printed) : Type 0 where
  pub ends : List Outcome
  -- by CPU, and of each by map
  pub lists : ℕ → List (List (List ℕ))
  pub closed : Ending
  pub last : Plain
  pub shape : closed.about.shape ≡ shape_of f
  pub explained : IsExplained (shape_of f) 0 (first_history f.pairs) f.programs f.jobs asked.keys
      ends lists closed.history
  pub leads : LeadsTo (shape_of f) 0 closed.history last
  pub is_last : IsLast closed last
  pub tells : TellsWith (list_lines lists f.names.maps f.cpus) last (as_ended f.jobs ends) f.names
      asked.maps printed.text printed.stopped
  pub counts : AreStatsAsked asked.stats closed f.names.maps printed.counts
