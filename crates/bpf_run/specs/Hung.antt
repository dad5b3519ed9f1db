-- Where CPUs are after a schedule to a state from which no end can be reached, as the debugger says it (our
-- own choice).
use Rattle.std.specs.Prelude.{◌≡◌, ◌⊎◌, ℕ, zero, suc, Bool, true, false, List, [], ◌∷◌, ◌++◌, Ok, codes}
use Rattle.bpf_lines.specs.Lines.{fields_of}
use Rattle.bpf_cpu.specs.Task.{Task}
use Rattle.bpf_file.specs.File.{File}
use Rattle.bpf_file.specs.Reading.{IsRunFile}
use Rattle.bpf_debug.specs.Answer.{IsWhere}
use Rattle.bpf_debug.specs.Session.{Scene, Obeys}
use Rattle.bpf_buffer_debug.specs.Session as buffers
use Rattle.bpf_replies.specs.Script.{scene_of}
use Rattle.bpf_replies.specs.BufferScript.{buffer_scene_of}

-- a line for each of the first n CPUs, which says where it is
abbrev pub AreWhere : List Task → ℕ → List ℕ → Type 0
AreWhere jobs zero text = text ≡ []
AreWhere jobs (suc n) text = (before : List ℕ) × (line : List ℕ) × AreWhere jobs n before
    × IsWhere jobs n line × (text ≡ before ++ line)

-- the debugger's command that makes the moves of a schedule, as a line `hung by` has them
abbrev pub steps_line : List ℕ → List ℕ
steps_line schedule = codes "steps" ++ schedule

-- it leads from one scene to another; a schedule without moves leads nowhere
abbrev pub LeadsBy : Scene → List ℕ → Scene → Type 0
LeadsBy x [] y = y ≡ x
LeadsBy x (b ∷ bs) y = (told : List ℕ) × Obeys x (fields_of (steps_line (b ∷ bs))) told y

-- where each CPU of the file is after the turns of a schedule
abbrev pub ArePlaces : (file schedule text : List ℕ) → Type 0
ArePlaces file schedule text = (f : File) × (y : Scene) × IsRunFile file (Ok f)
    × LeadsBy (scene_of f) schedule y × AreWhere y.world.jobs f.cpus text

-- ---- with store buffers
abbrev pub LeadsWithBuffers : buffers.Scene → List ℕ → buffers.Scene → Type 0
LeadsWithBuffers x [] y = y ≡ x
LeadsWithBuffers x (b ∷ bs) y =
    (told : List ℕ) × buffers.Obeys x (fields_of (steps_line (b ∷ bs))) told y

-- where each is after the turns and flushes
abbrev pub AreBufferPlaces : (file schedule text : List ℕ) → Type 0
AreBufferPlaces file schedule text = (f : File) × (y : buffers.Scene) × IsRunFile file (Ok f)
    × LeadsWithBuffers (buffer_scene_of f) schedule y × AreWhere y.here.world.jobs f.cpus text

-- ---- with them or without
abbrev pub ArePlacesOf : (x86 : Bool) → (file schedule text : List ℕ) → Type 0
ArePlacesOf true file schedule text = AreBufferPlaces file schedule text
ArePlacesOf false file schedule text = ArePlaces file schedule text

-- ---- what is printed
-- a line of a hung state, with the schedule that leads there; in a comment `# ` comes first
abbrev pub HasSchedule : (line schedule : List ℕ) → Type 0
HasSchedule line schedule =
    (line ≡ codes "hung by" ++ schedule) ⊎ (line ≡ codes "# hung by" ++ schedule)

-- after such a line where each CPU is, and after others nothing; nothing, too, where memory ran out
abbrev pub MayFollow : (x86 : Bool) → (file line text : List ℕ) → Type 0
MayFollow x86 file line text = (text ≡ [])
    ⊎ ((schedule : List ℕ) × HasSchedule line schedule × ArePlacesOf x86 file schedule text)

-- the lines, each with what follows it
abbrev pub HavePlaces : (x86 : Bool) → (file : List ℕ) → List (List ℕ) → List ℕ → Type 0
HavePlaces x86 file [] text = text ≡ []
HavePlaces x86 file (line ∷ lines) text = (places : List ℕ) × (more : List ℕ)
    × MayFollow x86 file line places × HavePlaces x86 file lines more
    × (text ≡ (line ++ codes "\n") ++ (places ++ more))
