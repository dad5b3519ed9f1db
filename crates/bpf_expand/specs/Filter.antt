-- What lines are answered, each of which may be a state.
use Rattle.std.specs.Prelude.{◌≡◌, ◌≢◌, ℕ, ◌+◌, ◌-◌, ◌^◌, ◌⊎◌, ◌++◌, Bool, true, false, List, [], Ok, Err, Result, String, codes, length, min, string_bytes}
use Rattle.std.specs.declared.alloc.Global.{Global}
use Rattle.std.specs.declared.alloc.AllocError.{AllocError}
use Rattle.hex.specs.Hex.{decode_of}
use Rattle.bpf_shared.specs.Shape.{Shape}
use Rattle.bpf_names.specs.Names.{Names}
use Rattle.bpf_pairs.specs.Pairs.{Pair}
use Rattle.bpf_loader.specs.Loaded.{Loaded}
use Rattle.bpf_cpu.specs.Setup.{named_in}
use Rattle.bpf_cpu.specs.Task.{Task}
use Rattle.bpf_machine.specs.Machine.{MachineState, Shows}
use Rattle.bpf_machine.specs.Rounds.{HaveEnded}
use Rattle.bpf_jobs.specs.Printed.{first_world}
use Rattle.bpf_races.specs.Races.{RaceFound, AreRacesIn}
use Rattle.bpf_races.specs.Lines.{here_lines}
use Rattle.bpf_expand.specs.declared.successor.Successor.{Successor}
use Rattle.bpf_expand.specs.State.{Host, AreSuccessors, IsNoState, IsStateOf, IsTold}
use Rattle.bpf_expand.specs.Lines.{no_state_line, report_line, state_line, successor_lines}

-- a host whose maps and arrays have these names, and whether races are printed; how many lines were answered,
-- counted up to the greatest `u64`, and the last answer
pub record FilterState : Type 0 where
  pub host : Host
  pub names : Names
  pub races : Bool
  pub lines : ℕ
  pub told : List ℕ

abbrev pub host_of : (patient : Bool) → Shape → List Loaded → List Task → Host
host_of patient shape programs jobs =
    record { shape = shape; programs = programs; jobs = jobs; patient = patient }

-- one that has answered nothing
abbrev pub new_filter : (patient races : Bool) → Shape → Names → List Loaded → List Task
    → FilterState
new_filter patient races shape names programs jobs = record {
  host = host_of patient shape programs jobs;
  names = names;
  races = races;
  lines = 0;
  told = [];
}

-- the line of the first state
abbrev pub IsFirstLine : Shape → List Pair → List Loaded → List Task → List ℕ → Type 0
IsFirstLine shape pairs programs jobs line = (m : MachineState) × (bytes : List ℕ)
    × Shows m (first_world shape pairs programs jobs)
    × IsStateOf (host_of false shape programs jobs) m bytes × (line ≡ state_line bytes)

-- no CPU has work, and this is printed of the jobs, maps and arrays
abbrev pub IsReportIn : Host → Names → List ℕ → List ℕ → Type 0
IsReportIn h names bytes report =
    (m : MachineState) × IsStateOf h m bytes × HaveEnded m.jobs × IsTold m names report

-- what is printed of a state: what CPUs' turns lead to, or the report where no CPU has work
abbrev pub IsToldOf : Host → Names → List ℕ → List ℕ → Type 0
IsToldOf h names bytes text =
    ((found : List Successor) × AreSuccessors h bytes found × (found ≢ [])
    × (text ≡ successor_lines (length found) found))
    ⊎ ((report : List ℕ) × IsReportIn h names bytes report × (text ≡ report_line report))

-- these are the races of a machine that is saved as these bytes
abbrev pub AreRacesOf : Host → List ℕ → List RaceFound → Type 0
AreRacesOf h bytes races = (m : MachineState) × IsStateOf h m bytes × AreRacesIn m [] races

-- the races of a state, a line each, if they are to be printed
abbrev pub AreRacesTold : (races : Bool) → Host → Names → List ℕ → List ℕ → Type 0
AreRacesTold false h names bytes text = text ≡ []
AreRacesTold true h names bytes text = (races : List RaceFound) × AreRacesOf h bytes races
    × (text ≡ here_lines (named_in h.shape) names (length races) races)

-- they are before what is printed of a state
abbrev pub IsToldWith : (races : Bool) → Host → Names → List ℕ → List ℕ → Type 0
IsToldWith races h names bytes text = (before rest : List ℕ)
    × AreRacesTold races h names bytes before × IsToldOf h names bytes rest
    × (text ≡ before ++ rest)

-- the line isn't the hex digits of a state
abbrev pub IsNoStateLine : Host → List ℕ → Type 0
IsNoStateLine h line =
    (line ≢ []) × ((bytes : List ℕ) → decode_of line ≡ Ok bytes → IsNoState h bytes)

-- an empty line is passed over, a state is printed, and what is none is refused by the line's number;
-- out of memory may take the place of any answer
abbrev pub IsLineTold : (races : Bool) → Host → Names → (number : ℕ)
    → (line text : List ℕ) → (refused : Bool) → Type 0
IsLineTold races h names number line text false = ((line ≡ []) × (text ≡ []))
    ⊎ ((bytes : List ℕ) × (decode_of line ≡ Ok bytes) × IsToldWith races h names bytes text)
IsLineTold races h names number line text true =
    (IsNoStateLine h line × (text ≡ no_state_line number)) ⊎ (text ≡ codes "refused L9\n")

-- a line's answer leads from one filter to another
abbrev pub AnswersState : FilterState → FilterState → (line text : List ℕ) → (refused : Bool) → Type 0
AnswersState x y line text refused = (y.host ≡ x.host) × (y.names ≡ x.names)
    × (y.races ≡ x.races) × (y.lines ≡ min (x.lines + 1) (2 ^ 64 - 1))
    × IsLineTold x.races x.host x.names y.lines line text refused

-- what is kept of an answer
abbrev pub told_text : Result (String Global) AllocError → List ℕ
told_text (Ok text) = string_bytes text
told_text (Err e) = codes "refused L9\n"
