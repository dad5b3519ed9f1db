-- What the reader answers of a line's numbers. Private functions cite this.
use Rattle.std.specs.Prelude.{◌≡◌, ℕ, List, Result, Ok, Err, Vec}
use Rattle.std.specs.declared.alloc.Global.{Global}
use Rattle.bpf_file.specs.declared.error.FileError.{FileError}
use Rattle.bpf_file.specs.declared.error.FileError.TheVariants.{Refused, OutOfMemory}
use Rattle.bpf_file.specs.declared.error.Reason.{Reason}

-- the bytes of numbers, or why there are none
abbrev pub HasNumbers : ℕ → Result (List ℕ) Reason → Result (Vec ℕ Global) FileError → Type 0
HasNumbers n bytes (Ok v) = bytes ≡ Ok v.items
HasNumbers n bytes (Err OutOfMemory) = Unit {0}
HasNumbers n bytes (Err (Refused m why)) = (m ≡ n) × (bytes ≡ Err why)
