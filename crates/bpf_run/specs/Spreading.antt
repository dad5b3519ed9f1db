-- What `expand --into` replies and writes: what the states of files lead to, in other files.
use Rattle.std.specs.Prelude.{◌≡◌, ℕ, zero, suc, ◌++◌, Bool, true, IfSome, List, [], ◌∷◌, Ok, Option, Some, codes, length, map, slice_get, string_bytes}
use Rattle.std.specs.Fmt.{decimal}
use Rattle.clap.specs.Words.{Text}
use Rattle.bpf_file.specs.File.{File, shape_of}
use Rattle.bpf_file.specs.Reading.{IsRunFile}
use Rattle.bpf_machine.specs.Machine.{MachineState, Shows}
use Rattle.bpf_jobs.specs.Printed.{first_world}
use Rattle.bpf_command.specs.declared.command.SpreadOptions.{SpreadOptions}
use Rattle.bpf_expand.specs.declared.parts.Parted.{Parted}
use Rattle.bpf_expand.specs.Filter.{host_of}
use Rattle.bpf_expand.specs.Parts.{IsParted, records_of}
use Rattle.bpf_expand.specs.State.{Host, IsStateOf}
use Rattle.bpf_replies.specs.declared.reply.Reply.{Reply}
use Rattle.bpf_replies.specs.declared.reply.Reply.TheVariants as reply

-- the host of a file's jobs
abbrev pub host_in : (patient : Bool) → File → Host
host_in patient f = host_of patient (shape_of f) f.programs f.jobs

-- ---- what is read
-- the states of the first n files of these names, one file after the other
abbrev pub AreRead : (files : Text → Option (List ℕ)) → List Text → ℕ → List (List ℕ) → Type 0
AreRead files names zero states = states ≡ []
AreRead files names (suc n) states = (name : Text) × (slice_get names n ≡ Some name)
    × (before more : List (List ℕ)) × AreRead files names n before
    × IfSome (files name) (λ bytes. bytes ≡ records_of more) × (states ≡ before ++ more)

-- or that of a machine, where none is named
abbrev pub ReadsAt : Host → MachineState → (files : Text → Option (List ℕ)) → List Text
    → List (List ℕ) → Type 0
ReadsAt h m files [] states =
    (bytes : List ℕ) × IsStateOf h m bytes × (states ≡ bytes ∷ [])
ReadsAt h m files (name ∷ names) states = AreRead files (name ∷ names) (suc (length names)) states

-- of a machine that shows the first state of a file's jobs
abbrev pub ReadsStates : (patient : Bool) → File → (files : Text → Option (List ℕ)) → List Text
    → List (List ℕ) → Type 0
ReadsStates patient f files names states = (m : MachineState)
    × Shows m (first_world (shape_of f) f.pairs f.programs f.jobs)
    × ReadsAt (host_in patient f) m files names states

-- of all files of these names
abbrev pub AreAllRead : (files : Text → Option (List ℕ)) → List Text → List (List ℕ) → Type 0
AreAllRead files names states = AreRead files names (length names) states

-- ---- what is written
-- the file of a part, by its number, and the one of its states' origins
abbrev pub part_name : Text → ℕ → Text
part_name folder part = folder ++ (codes "/" ++ decimal part)

abbrev pub origins_name : Text → ℕ → Text
origins_name folder part = folder ++ (codes "/" ++ (decimal part ++ codes ".from"))

-- each part was written to its file, which was made for it
abbrev pub AreMade : (has_made : Text → List ℕ → Type 0) → (ℕ → Text) → List (List ℕ) → Type 0
AreMade has_made name parts = (k : ℕ) (part : List ℕ) → slice_get parts k ≡ Some part
    → has_made (name k) part

-- ---- what is printed
-- these bytes are a run file's, its states' parts were all written, and then this is printed
abbrev pub IsSpreadOf : (has_made : Text → List ℕ → Type 0) → (files : Text → Option (List ℕ))
    → SpreadOptions → (input : Option (List ℕ)) → List ℕ → Type 0
IsSpreadOf has_made files options input text = (f : File)
    × IfSome input (λ bytes. IsRunFile bytes (Ok f)) × (read : List (List ℕ))
    × ReadsStates options.patient f files (map string_bytes options.states.items) read
    × (seen : List (List ℕ)) × AreAllRead files (map string_bytes options.seen.items) seen
    × (made : Parted)
    × IsParted (host_in options.patient f) f.names options.parts read seen made
    × AreMade has_made (part_name (string_bytes options.folder)) (map (λ v. v.items) made.parts.items)
    × AreMade has_made (origins_name (string_bytes options.folder))
    (map (λ v. v.items) made.origins.items)
    × (text ≡ string_bytes made.text)

-- a refusal
abbrev pub IsStop : Reply → Type 0
IsStop (reply.Several printed refused unmet told) =
    (refused ≡ true) × ((why : List ℕ) × (string_bytes printed ≡ codes "refused " ++ why))
IsStop (reply.Refused r) = Unit {0}
IsStop _ = ⊥

-- that, or a refusal
abbrev pub IsSpread : (has_made : Text → List ℕ → Type 0) → (files : Text → Option (List ℕ))
    → SpreadOptions → (input : Option (List ℕ)) → Reply → Type 0
IsSpread has_made files options input (reply.Text printed) =
    IsSpreadOf has_made files options input (string_bytes printed)
IsSpread has_made files options input r = IsStop r
