-- What is printed of a line of a run file, after the line: L1 to L6, S1 to S6, S8 to S12, H1, and
-- the A and E codes of its programs. Our own choice.
use Rattle.bpf_codes.specs.declared.code.Code.TheVariants as code
use Rattle.bpf_codes.specs.declared.diagnostic.Diagnostic.{Diagnostic}
use Rattle.bpf_codes.specs.Diagnostic.{nowhere}
use Rattle.bpf_file.specs.declared.error.Reason.{Reason}
use Rattle.bpf_file.specs.declared.error.Reason.TheVariants as reason
use Rattle.bpf_insn.specs.Diagnostic.{insn_diagnostic}
use Rattle.bpf_loader.specs.Diagnostic.{load_diagnostic}
use Rattle.bpf_shared.specs.Diagnostic.{shape_diagnostic}

abbrev pub reason_diagnostic : Reason → Diagnostic
reason_diagnostic reason.BadFirstLine = nowhere code.L1
reason_diagnostic reason.BadLine = nowhere code.L2
reason_diagnostic reason.BadNumber = nowhere code.L3
reason_diagnostic reason.TwiceName = nowhere code.L4
reason_diagnostic reason.Unknown = nowhere code.L5
reason_diagnostic reason.NoEnd = nowhere code.L6
reason_diagnostic reason.BadPair = nowhere code.S12
reason_diagnostic (reason.Shape error) = shape_diagnostic error
reason_diagnostic reason.NotHex = nowhere code.H1
reason_diagnostic reason.BadInstruction = nowhere code.A1
reason_diagnostic reason.BadOperand = nowhere code.A2
reason_diagnostic reason.UnknownLabel = nowhere code.A3
reason_diagnostic reason.TwiceLabel = nowhere code.A4
reason_diagnostic reason.FarLabel = nowhere code.A5
reason_diagnostic (reason.Insn error) = insn_diagnostic error
reason_diagnostic (reason.Load error) = load_diagnostic error
