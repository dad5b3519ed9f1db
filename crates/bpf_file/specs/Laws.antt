-- What follows from the definition of run files, of all texts.
use Rattle.std.specs.Prelude.{◌≡◌, ℕ, List, Result, Ok}
use Rattle.bpf_file.specs.declared.error.FileError.{FileError}
use Rattle.bpf_file.specs.File.{File}
use Rattle.bpf_file.specs.Reading.{IsRunFile}
use Rattle.bpf_file.specs.Runnable.{CanRun}

-- a text says one file alone, or is refused for one reason alone, and never both
abbrev pub FilesAreDetermined : Type 0
FilesAreDetermined =
    (text : List ℕ) (r q : Result File FileError) → IsRunFile text r → IsRunFile text q → r ≡ q

-- a machine can be made of every file that a text says
abbrev pub FilesCanRun : Type 0
FilesCanRun = (text : List ℕ) (f : File) → IsRunFile text (Ok f) → CanRun f
