-- How faults, outcomes and ended jobs are printed. Our own choice.
use Rattle.std.specs.Prelude.{ℕ, ◌++◌, List, codes}
use Rattle.std.specs.Fmt.{decimal}
use Rattle.bpf_codes.specs.declared.code.Code.{Code}
use Rattle.bpf_codes.specs.declared.code.Code.TheVariants as code
use Rattle.bpf_codes.specs.CodeText.{code_text}
use Rattle.bpf_cpu.specs.declared.outcome.Fault.{Fault}
use Rattle.bpf_cpu.specs.declared.outcome.Fault.TheVariants as fault
use Rattle.bpf_cpu.specs.declared.outcome.Outcome.{Outcome}
use Rattle.bpf_cpu.specs.declared.outcome.Outcome.TheVariants as outcome

-- F1 to F7
abbrev pub fault_code : Fault → Code
fault_code fault.BadAddress = code.F1
fault_code fault.Misaligned = code.F2
fault_code fault.CallDepth = code.F3
fault_code fault.NotAMap = code.F4
fault_code fault.TooManyHeld = code.F5
fault_code fault.Worn = code.F6
fault_code fault.ReadOnly = code.F7

-- how a job ended
abbrev pub outcome_text : Outcome → List ℕ
outcome_text (outcome.Exit r0) = codes "r0=" ++ decimal r0
outcome_text (outcome.Fault fault pc) =
    codes "fault " ++ code_text (fault_code fault) ++ codes " at " ++ decimal pc
outcome_text (outcome.OutOfBudget pc) = codes "out of budget at " ++ decimal pc

-- the line of a job that has ended, by its number and its CPU's
abbrev pub job_line : ℕ → ℕ → Outcome → List ℕ
job_line j cpu end =
    codes "job " ++ decimal j ++ codes " cpu " ++ decimal cpu ++ codes " " ++ outcome_text end
    ++ codes "\n"
