-- What is printed where assembly text is refused: A1 to A6. Our own choice.
use Rattle.bpf_codes.specs.declared.code.Code.TheVariants as code
use Rattle.bpf_codes.specs.declared.diagnostic.Diagnostic.{Diagnostic}
use Rattle.bpf_codes.specs.Diagnostic.{nowhere, at_line}
use Rattle.bpf_text.specs.declared.error.TextError.{TextError}
use Rattle.bpf_text.specs.declared.error.TextError.TheVariants as error

abbrev pub text_diagnostic : TextError → Diagnostic
text_diagnostic (error.BadLine line) = at_line code.A1 line
text_diagnostic (error.BadNumber line) = at_line code.A2 line
text_diagnostic (error.UnknownLabel line) = at_line code.A3 line
text_diagnostic (error.TwiceLabel line) = at_line code.A4 line
text_diagnostic (error.FarLabel line) = at_line code.A5 line
text_diagnostic error.OutOfMemory = nowhere code.A6
