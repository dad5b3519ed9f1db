-- Answers for which memory may have been refused.
use Rattle.std.proofs.Common.{Result, Ok, Err}
use Rattle.bpf_file.specs.declared.error.FileError.{FileError}
use Rattle.bpf_file.specs.declared.error.FileError.TheVariants.{Refused, OutOfMemory}
use Rattle.bpf_file.specs.Private.Answers.{OrMemory}

-- what follows of a right answer follows of one that may want memory
pub or_memory : {X : Type 0} (P Q : Result X FileError → Type 0) → ((r : Result X FileError) → P r → Q r)
    → (r : Result X FileError) → OrMemory P r → OrMemory Q r
or_memory P Q f (Ok x) p = f (Ok x) p
or_memory P Q f (Err OutOfMemory) p = p
or_memory P Q f (Err (Refused n why)) p = f (Err (Refused n why)) p

-- a right answer is right where memory may have been refused, too
pub or_right : {X : Type 0} (P : Result X FileError → Type 0) (r : Result X FileError) → P r → OrMemory P r
or_right P (Ok x) p = p
or_right P (Err OutOfMemory) p = tt
or_right P (Err (Refused n why)) p = p
