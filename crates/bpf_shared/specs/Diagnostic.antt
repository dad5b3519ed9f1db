-- What is printed where no store has a shape: S1 to S12. The line of the file names the map. Our
-- own choice.
use Rattle.bpf_codes.specs.declared.code.Code.TheVariants as code
use Rattle.bpf_codes.specs.declared.diagnostic.Diagnostic.{Diagnostic}
use Rattle.bpf_codes.specs.Diagnostic.{nowhere}
use Rattle.bpf_shared.specs.declared.shapes.ShapeError.{ShapeError}
use Rattle.bpf_shared.specs.declared.shapes.ShapeError.TheVariants as error

abbrev pub shape_diagnostic : ShapeError → Diagnostic
shape_diagnostic (error.KeySize map) = nowhere code.S1
shape_diagnostic (error.ValueSize map) = nowhere code.S2
shape_diagnostic (error.KeyCount map) = nowhere code.S3
shape_diagnostic (error.SpareCount map) = nowhere code.S4
shape_diagnostic error.TooManyMaps = nowhere code.S5
shape_diagnostic error.CpuCount = nowhere code.S6
shape_diagnostic error.OutOfMemory = nowhere code.S7
shape_diagnostic (error.ArrayValueSize array) = nowhere code.S8
shape_diagnostic (error.ArrayCount array) = nowhere code.S9
shape_diagnostic (error.ArraySize array) = nowhere code.S10
shape_diagnostic error.TooManyArrays = nowhere code.S11
shape_diagnostic (error.ArrayContents array) = nowhere code.S12
