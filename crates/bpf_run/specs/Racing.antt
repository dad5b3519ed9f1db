-- What `explore --races` replies: every data race of a run file's jobs, whatever the order of the CPUs'
-- turns.
use Rattle.std.specs.Prelude.{◌≡◌, ◌==◌, ℕ, Bool, not, List, [], Ok, length, string_bytes}
use Rattle.bpf_check.specs.Findings.{Raced}
use Rattle.bpf_file.specs.File.{File, named_by}
use Rattle.bpf_file.specs.Reading.{IsRunFile}
use Rattle.bpf_races.specs.Lines.{comment_lines, races_text}
use Rattle.bpf_races.specs.Races.{AreRaces, RaceFound}
use Rattle.bpf_races.specs.declared.sync.Part.{Part}
use Rattle.bpf_races.specs.Sync.{ArePartsOf, IsAnyUnknown}
use Rattle.bpf_replies.specs.Running.{RefusesFile}
use Rattle.bpf_replies.specs.Script.{first_world_of}
use Rattle.bpf_replies.specs.declared.refusal.Refusal.TheVariants as refusal
use Rattle.bpf_replies.specs.declared.reply.Reply.{Reply}
use Rattle.bpf_replies.specs.declared.reply.Reply.TheVariants as reply

-- whether there is some race
abbrev pub is_any_race : List RaceFound → Bool
is_any_race races = not (length races == 0)

-- what is printed of the races of the file's jobs, run over a new store of its maps, but for those at
-- these bytes: the races and whether they are all, by this limit or where memory
-- was refused to the search, and whether there is one
abbrev pub TellsRaces : (patient : Bool) → (limit : ℕ) → File → List Part → (printed : List ℕ)
    → (raced all : Bool) → Type 0
TellsRaces patient limit f parts printed raced all = (races : List RaceFound) × (refused : Bool)
    × AreRaces patient (first_world_of f) parts races all refused limit
    × (printed ≡ races_text (named_by f) f.names parts races all) × (raced ≡ is_any_race races)

-- what tests rest on: a comment for each race, whether there is one, and whether they are all
abbrev pub FindsRaces : (patient : Bool) → (limit : ℕ) → File → Raced → Type 0
FindsRaces patient limit f raced = (races : List RaceFound) × (refused : Bool)
    × AreRaces patient (first_world_of f) [] races raced.all refused limit
    × (raced.lines ≡ comment_lines (named_by f) f.names (length races) races)
    × (raced.some ≡ is_any_race races)

-- of the jobs that the text says
abbrev pub AreRacesOf : (patient : Bool) → (limit : ℕ) → List ℕ → Raced → Type 0
AreRacesOf patient limit text raced =
    (f : File) × IsRunFile text (Ok f) × FindsRaces patient limit f raced

-- `explore --races`: those of the jobs that the text says, but for the bytes that are named; or the
-- file's first refusal; or that something else is named than bytes of the file's maps
abbrev pub IsRacesFile : (patient : Bool) → (limit : ℕ) → (sync : List (List ℕ)) → List ℕ → Reply
    → Type 0
IsRacesFile patient limit sync text (reply.Outcomes printed raced all) = (f : File) × (parts : List Part)
    × IsRunFile text (Ok f) × ArePartsOf f.names f.maps sync parts
    × TellsRaces patient limit f parts (string_bytes printed) raced all
IsRacesFile patient limit sync text (reply.Refused refusal.NoMap) =
    (f : File) × IsRunFile text (Ok f) × IsAnyUnknown f.names f.maps sync
IsRacesFile patient limit sync text (reply.Refused r) = RefusesFile text r
IsRacesFile patient limit sync text _ = ⊥
