-- What is printed of a refusal: of a run file first the line, then the code with the place that it
-- names. Our own choice.
use Rattle.std.specs.Prelude.{ℕ, ◌++◌, List, [], codes}
use Rattle.std.specs.Fmt.{decimal}
use Rattle.bpf_codes.specs.declared.code.Code.TheVariants as code
use Rattle.bpf_codes.specs.declared.diagnostic.Diagnostic.{Diagnostic}
use Rattle.bpf_codes.specs.Diagnostic.{nowhere, diagnostic_text}
use Rattle.bpf_insn.specs.Diagnostic.{insn_diagnostic}
use Rattle.bpf_loader.specs.Diagnostic.{load_diagnostic}
use Rattle.bpf_lines.specs.Diagnostic.{hex_diagnostic}
use Rattle.bpf_text.specs.Diagnostic.{text_diagnostic}
use Rattle.bpf_file.specs.Diagnostic.{reason_diagnostic}
use Rattle.bpf_replies.specs.declared.input.InputError.{InputError}
use Rattle.bpf_replies.specs.declared.input.InputError.TheVariants as input
use Rattle.bpf_replies.specs.declared.refusal.Refusal.{Refusal}
use Rattle.bpf_replies.specs.declared.refusal.Refusal.TheVariants as refusal

-- of input: L7, L9 and L10
abbrev pub input_diagnostic : InputError → Diagnostic
input_diagnostic input.Unread = nowhere code.L7
input_diagnostic input.OutOfMemory = nowhere code.L9
input_diagnostic input.TooLong = nowhere code.L10

abbrev pub refusal_diagnostic : Refusal → Diagnostic
refusal_diagnostic (refusal.Input error) = input_diagnostic error
refusal_diagnostic refusal.NotText = nowhere code.L8
refusal_diagnostic (refusal.Hex error) = hex_diagnostic error
refusal_diagnostic (refusal.Text error) = text_diagnostic error
refusal_diagnostic (refusal.Insn error) = insn_diagnostic error
refusal_diagnostic (refusal.Load error) = load_diagnostic error
refusal_diagnostic (refusal.File line why) = reason_diagnostic why
refusal_diagnostic (refusal.Comment line) = nowhere code.L11
refusal_diagnostic refusal.NoMap = nowhere code.G3
refusal_diagnostic refusal.JobsOutOfMemory = nowhere code.J4
refusal_diagnostic refusal.OutOfMemory = nowhere code.L9

-- the line of a run file
abbrev pub line_text : Refusal → List ℕ
line_text (refusal.File line why) = codes "line " ++ decimal line ++ codes " "
line_text (refusal.Comment line) = codes "line " ++ decimal line ++ codes " "
line_text r = []

abbrev pub refusal_text : Refusal → List ℕ
refusal_text r = line_text r ++ diagnostic_text (refusal_diagnostic r)
