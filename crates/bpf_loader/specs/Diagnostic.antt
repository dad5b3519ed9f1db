-- What is printed where a list of instructions is no sound program: E1, E3 and E8 to E14. Our own
-- choice.
use Rattle.bpf_codes.specs.declared.code.Code.TheVariants as code
use Rattle.bpf_codes.specs.declared.diagnostic.Diagnostic.{Diagnostic}
use Rattle.bpf_codes.specs.Diagnostic.{nowhere, at_pc}
use Rattle.bpf_loader.specs.declared.refusal.LoadError.{LoadError}
use Rattle.bpf_loader.specs.declared.refusal.LoadError.TheVariants as error

abbrev pub load_diagnostic : LoadError → Diagnostic
load_diagnostic error.Empty = nowhere code.E1
load_diagnostic error.TooLong = nowhere code.E3
load_diagnostic (error.WritesR10 pc) = at_pc code.E8 pc
load_diagnostic (error.JumpOut pc) = at_pc code.E9 pc
load_diagnostic (error.JumpIntoWide pc) = at_pc code.E10 pc
load_diagnostic (error.FallsOff pc) = at_pc code.E11 pc
load_diagnostic (error.UnknownHelper pc) = at_pc code.E12 pc
load_diagnostic (error.UnknownMap pc) = at_pc code.E13 pc
load_diagnostic error.OutOfMemory = nowhere code.E14
