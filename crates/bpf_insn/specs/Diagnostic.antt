-- What is printed where bytes are no instructions: E1 to E7 and E14. Our own choice.
use Rattle.bpf_codes.specs.declared.code.Code.TheVariants as code
use Rattle.bpf_codes.specs.declared.diagnostic.Diagnostic.{Diagnostic}
use Rattle.bpf_codes.specs.Diagnostic.{nowhere, at_pc, with_length}
use Rattle.bpf_insn.specs.declared.error.InsnError.{InsnError}
use Rattle.bpf_insn.specs.declared.error.InsnError.TheVariants as error

abbrev pub insn_diagnostic : InsnError → Diagnostic
insn_diagnostic error.Empty = nowhere code.E1
insn_diagnostic (error.Ragged length) = with_length code.E2 length
insn_diagnostic error.TooLong = nowhere code.E3
insn_diagnostic (error.UnknownOpcode pc) = at_pc code.E4 pc
insn_diagnostic (error.ReservedNotZero pc) = at_pc code.E5 pc
insn_diagnostic (error.HalfWide pc) = at_pc code.E6 pc
insn_diagnostic (error.BadRegister pc) = at_pc code.E7 pc
insn_diagnostic error.OutOfMemory = nowhere code.E14
