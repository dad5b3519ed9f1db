-- What lines are answered, each of which may be a state.
use Rattle.std.specs.Prelude.{◌≡◌, ◌≢◌, ℕ, ◌+◌, ◌-◌, ◌^◌, ◌⊎◌, Bool, true, false, List, [], Ok, codes, length, min}
use Rattle.hex.specs.Hex.{decode_of}
use Rattle.bpf_shared.specs.Shape.{Shape}
use Rattle.bpf_names.specs.Names.{Names}
use Rattle.bpf_pairs.specs.Pairs.{Pair}
use Rattle.bpf_loader.specs.Loaded.{Loaded}
use Rattle.bpf_cpu.specs.Task.{Task}
use Rattle.bpf_machine.specs.Rounds.{HaveEnded}
use Rattle.bpf_jobs.specs.Printed.{first_world}
use Rattle.bpf_x86.specs.Machine.{drained}
use Rattle.bpf_buffering.specs.Search.{BufferedState, ShowsX86}
use Rattle.bpf_expand.specs.State.{Host}
use Rattle.bpf_expand.specs.Filter.{host_of}
use Rattle.bpf_expand.specs.Lines.{no_state_line, report_line, state_line}
use Rattle.bpf_buffer_expand.specs.declared.successor.Successor.{Successor}
use Rattle.bpf_buffer_expand.specs.State.{AreSuccessors, IsNoState, IsStateOf, IsToldX86}
use Rattle.bpf_buffer_expand.specs.Lines.{successor_lines}

-- a host whose maps and arrays have these names; how many lines were answered, counted up to the greatest
-- `u64`, and the last answer
pub record FilterState : Type 0 where
  pub host : Host
  pub names : Names
  pub lines : ℕ
  pub told : List ℕ

-- one that has answered nothing
abbrev pub new_filter : (patient : Bool) → Shape → Names → List Loaded → List Task → FilterState
new_filter patient shape names programs jobs = record {
  host = host_of patient shape programs jobs;
  names = names;
  lines = 0;
  told = [];
}

-- the line of the first state, in which nothing waits
abbrev pub IsFirstLine : Shape → List Pair → List Loaded → List Task → List ℕ → Type 0
IsFirstLine shape pairs programs jobs line = (m : BufferedState) × (bytes : List ℕ)
    × ShowsX86 m (drained (first_world shape pairs programs jobs))
    × IsStateOf (host_of false shape programs jobs) m bytes × (line ≡ state_line bytes)

-- all jobs have ended, and this is printed of them and of the maps and arrays
abbrev pub IsReportIn : Host → Names → List ℕ → List ℕ → Type 0
IsReportIn h names bytes report = (m : BufferedState) × IsStateOf h m bytes
    × HaveEnded m.machine.jobs × IsToldX86 m names report

-- what is printed of a state: what moves lead to, or the report where there are none
abbrev pub IsToldOf : Host → Names → List ℕ → List ℕ → Type 0
IsToldOf h names bytes text =
    ((found : List Successor) × AreSuccessors h bytes found × (found ≢ [])
    × (text ≡ successor_lines (length found) found))
    ⊎ ((report : List ℕ) × IsReportIn h names bytes report × (text ≡ report_line report))

-- the line isn't the hex digits of a state
abbrev pub IsNoStateLine : Host → List ℕ → Type 0
IsNoStateLine h line =
    (line ≢ []) × ((bytes : List ℕ) → decode_of line ≡ Ok bytes → IsNoState h bytes)

-- an empty line is passed over, a state is printed, and what is none is refused by the line's number;
-- out of memory may take the place of any answer
abbrev pub IsLineTold : Host → Names → (number : ℕ) → (line text : List ℕ) → (refused : Bool) → Type 0
IsLineTold h names number line text false = ((line ≡ []) × (text ≡ []))
    ⊎ ((bytes : List ℕ) × (decode_of line ≡ Ok bytes) × IsToldOf h names bytes text)
IsLineTold h names number line text true =
    (IsNoStateLine h line × (text ≡ no_state_line number)) ⊎ (text ≡ codes "refused L9\n")

-- a line's answer leads from one filter to another
abbrev pub AnswersState : FilterState → FilterState → (line text : List ℕ) → (refused : Bool) → Type 0
AnswersState x y line text refused = (y.host ≡ x.host) × (y.names ≡ x.names)
    × (y.lines ≡ min (x.lines + 1) (2 ^ 64 - 1))
    × IsLineTold x.host x.names y.lines line text refused
