-- What a run file's comments expect of its outcomes, or which of them can't.
use Rattle.std.specs.Prelude.{◌≡◌, ◌+◌, ℕ, Bool, true, false, List, [], None, Ok, Some, map}
use Rattle.bpf_cpu.specs.Task.{Task}
use Rattle.bpf_check.specs.Expectation.{Expected, expectation_lines, expectations_of, first_amiss, left_of}
use Rattle.bpf_check.specs.Subjects.{Subjects}
use Rattle.bpf_file.specs.File.{File}
use Rattle.bpf_file.specs.Reading.{IsRunFile}
use Rattle.bpf_replies.specs.Running.{RefusesFile}
use Rattle.bpf_replies.specs.declared.comments.Reading.{Reading}
use Rattle.bpf_replies.specs.declared.refusal.Refusal.{Refusal}
use Rattle.bpf_replies.specs.declared.refusal.Refusal.TheVariants as refusal

abbrev pub cpus_of : List Task → List ℕ
cpus_of jobs = map (λ job. job.cpu) jobs

-- what the lines of the file's outcomes speak of
abbrev pub subjects_of : Reading → File → Subjects
subjects_of r f = record {
  jobs = cpus_of f.jobs;
  cpus = f.cpus;
  names = f.names;
  maps = f.maps;
  arrays = f.arrays;
  lists = r.lists;
  ends = r.ends;
  x86 = r.x86;
}

-- this is tested of what the text expects: none of its comments is amiss, where such aren't passed over
abbrev pub IsExpectedIn : Reading → List ℕ → List Expected → Type 0
IsExpectedIn r text expected = (f : File) × IsRunFile text (Ok f)
    × (expected ≡ expectations_of (subjects_of r f) text)
    × (r.lenient ≡ false → first_amiss (subjects_of r f) text ≡ None)

-- this many of its expectations are no tests
abbrev pub AreLeftIn : Reading → List ℕ → ℕ → Type 0
AreLeftIn r text count = (f : File) × IsRunFile text (Ok f)
    × (count ≡ left_of (subjects_of r f) text)

-- the lines of the text whose expectations are tested have these numbers, where they are wanted
abbrev pub AreLinesIn : Reading → (wanted : Bool) → List ℕ → List ℕ → Type 0
AreLinesIn r false text lines = lines ≡ []
AreLinesIn r true text lines = (f : File) × IsRunFile text (Ok f)
    × (lines ≡ expectation_lines (subjects_of r f) text)

-- why not: the file's first refusal, or the first of its lines whose comment is amiss
abbrev pub RefusesComments : Reading → List ℕ → Refusal → Type 0
RefusesComments r text (refusal.Comment line) = (r.lenient ≡ false) × ((f : File)
    × IsRunFile text (Ok f) × ((n : ℕ) × (line ≡ n + 1)
    × (first_amiss (subjects_of r f) text ≡ Some n)))
RefusesComments r text why = RefusesFile text why

-- how `check` reads them: lists of keys aren't among the lines, and if schedules can end is a question
-- for a patient search
abbrev pub for_check : (patient x86 lenient : Bool) → Reading
for_check patient x86 lenient =
    record { lists = false; ends = patient; x86 = x86; lenient = lenient }

-- and `run --check`, which leaves that question open
abbrev pub for_run : (keys : Bool) → Reading
for_run keys = record { lists = keys; ends = true; x86 = false; lenient = false }
