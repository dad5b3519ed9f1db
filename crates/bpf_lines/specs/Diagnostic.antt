-- What is printed where hex text is refused: H1 and A6. Our own choice.
use Rattle.bpf_codes.specs.declared.code.Code.TheVariants as code
use Rattle.bpf_codes.specs.declared.diagnostic.Diagnostic.{Diagnostic}
use Rattle.bpf_codes.specs.Diagnostic.{nowhere}
use Rattle.bpf_lines.specs.declared.hex_text.HexError.{HexError}
use Rattle.bpf_lines.specs.declared.hex_text.HexError.TheVariants as error

abbrev pub hex_diagnostic : HexError → Diagnostic
hex_diagnostic error.NotHex = nowhere code.H1
hex_diagnostic error.OutOfMemory = nowhere code.A6
