-- The lines that refusals of assembly name. Private functions cite this.
use Rattle.std.specs.Prelude.{ℕ}
use Rattle.bpf_text.specs.declared.error.TextError.{TextError}
use Rattle.bpf_text.specs.declared.error.TextError.TheVariants as text

-- 0 where it names none
abbrev pub line_named : TextError → ℕ
line_named (text.BadLine n) = n
line_named (text.BadNumber n) = n
line_named (text.UnknownLabel n) = n
line_named (text.TwiceLabel n) = n
line_named (text.FarLabel n) = n
line_named text.OutOfMemory = 0
