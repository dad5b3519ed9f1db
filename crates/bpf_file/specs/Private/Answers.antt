-- Answers for which memory may have been refused. Private functions cite this.
use Rattle.std.specs.Prelude.{Result, Ok, Err}
use Rattle.bpf_file.specs.declared.error.FileError.{FileError}
use Rattle.bpf_file.specs.declared.error.FileError.TheVariants.{Refused, OutOfMemory}

-- the answer is as it should be, or memory was refused
abbrev pub OrMemory : {X : Type 0} → (Result X FileError → Type 0) → Result X FileError → Type 0
OrMemory P (Ok x) = P (Ok x)
OrMemory P (Err OutOfMemory) = Unit {0}
OrMemory P (Err (Refused n why)) = P (Err (Refused n why))
