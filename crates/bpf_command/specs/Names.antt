-- The command that words name, or why they name none. Our own choice.
use Rattle.std.specs.Prelude.{◌≡◌, ◌<◌, ◌≤◌, ◌⊎◌, ℕ, Bool, List, true, false, Option, Some, None, Ok, IfOk, IsSomeAnd, codes, [], ◌∷◌, cond}
use Rattle.std.specs.Prelude.{if◌then◌else◌, length, map, option_and_then, option_map, string_bytes}
use Rattle.std.specs.Str.{bytes_eq}
use Rattle.bpf_explain.specs.Term.{topic_of}
use Rattle.bpf_lines.specs.Lines.{fields_of}
use Rattle.bpf_schedule.specs.Moves.{SpellMoves, SpellNoMoves}
use Rattle.bpf_schedule.specs.Spelling.{SpellNone, SpellRuns}
use Rattle.bpf_mem.specs.Limits.{max_context}
use Rattle.hex.specs.Hex.{decode_of}
use Rattle.clap.specs.Kinds.{IsAmong}
use Rattle.clap.specs.Takes.{is_given}
use Rattle.clap.specs.Words.{Row, Text, fault_of, first_of, kind_of, subcommand_of}
use Rattle.bpf_command.specs.CommandLine.{NamesBudget, NamesLimit, NamesParts, NamesShown, NamesWorkers, IsRunnerName, counts_alone, do_clash}
use Rattle.bpf_command.specs.CommandLine.{do_part, do_part_races, ebpf, given_texts, names_several, wants_no_flushes}
use Rattle.bpf_command.specs.CommandLine.{names_parts, wants_files, wants_lines, wants_one}
use Rattle.bpf_command.specs.declared.command.RunOptions.{RunOptions}
use Rattle.bpf_command.specs.declared.command.CheckOptions.{CheckOptions}
use Rattle.bpf_command.specs.declared.command.SearchOptions.{SearchOptions}
use Rattle.bpf_command.specs.declared.command.RaceOptions.{RaceOptions}
use Rattle.bpf_command.specs.declared.command.SpreadOptions.{SpreadOptions}
use Rattle.bpf_command.specs.declared.command.Command.{Command}
use Rattle.bpf_command.specs.declared.command.Command.TheVariants as command
use Rattle.bpf_command.specs.declared.command.Request.{Request}
use Rattle.bpf_command.specs.declared.command.Request.TheVariants as request
use Rattle.bpf_command.specs.declared.command_line.CommandError.{CommandError}
use Rattle.bpf_command.specs.declared.command_line.CommandError.TheVariants as error

-- the context's bytes, two hex digits each; none where the option is left out
abbrev pub IsContext : Option Text → List ℕ → Type 0
IsContext None bytes = bytes ≡ []
IsContext (Some digits) bytes = (decode_of digits ≡ Ok bytes) × (length bytes ≤ max_context)

-- the digits are refused as a context; out of memory may take the place of any answer
abbrev pub RefusesContext : Option Text → CommandError → Type 0
RefusesContext (Some digits) error.NotHex =
    IfOk (decode_of digits) (λ bytes. max_context < length bytes)
RefusesContext _ error.OutOfMemory = Unit {0}
RefusesContext _ _ = ⊥

-- the runs of the schedule that a text spells; none where the option is left out
abbrev pub IsSchedule : Option Text → List (ℕ × ℕ) → Type 0
IsSchedule None runs = runs ≡ []
IsSchedule (Some text) runs = SpellRuns (fields_of text) runs

-- the text is refused as a schedule
abbrev pub RefusesSchedule : Option Text → CommandError → Type 0
RefusesSchedule (Some text) error.NoSchedule = SpellNone (fields_of text)
RefusesSchedule _ error.OutOfMemory = Unit {0}
RefusesSchedule _ _ = ⊥

-- beside `--x86` a schedule has flushes too: the moves that a text spells
abbrev pub AreMoves : Option Text → List (ℕ × ℕ) → Type 0
AreMoves None runs = runs ≡ []
AreMoves (Some text) runs = SpellMoves (fields_of text) runs

-- the text is refused as moves
abbrev pub RefusesMoves : Option Text → CommandError → Type 0
RefusesMoves (Some text) error.NoSchedule = SpellNoMoves (fields_of text)
RefusesMoves _ error.OutOfMemory = Unit {0}
RefusesMoves _ _ = ⊥

-- as moves where store buffers are asked for, and else as a schedule
abbrev pub RefusesBy : Bool → Option Text → CommandError → Type 0
RefusesBy true text e = RefusesMoves text e
RefusesBy false text e = RefusesSchedule text e

-- the options of a run of one program
abbrev pub NamesRun : List Row → RunOptions → Type 0
NamesRun rows options = NamesBudget rows options.budget
    × IsContext (first_of (codes "ctx") rows) options.context.items

-- the options of a search
abbrev pub NamesSearch : List Row → SearchOptions → Type 0
NamesSearch rows options = NamesLimit rows options.limit
    × (options.patient ≡ is_given (codes "patient") rows)
    × (options.progress ≡ is_given (codes "progress") rows)
    × (options.all_states ≡ is_given (codes "all-states") rows)
    × NamesWorkers rows options.workers

-- the options of a search whose outcomes are compared with what comments expect
abbrev pub NamesCheck : List Row → CheckOptions → Type 0
NamesCheck rows options = NamesSearch rows options.search
    × (options.limited ≡ is_given (codes "limit") rows)
    × (options.lenient ≡ is_given (codes "lenient") rows)
    × (options.lines ≡ is_given (codes "json") rows)
    × (options.states ≡ is_given (codes "states") rows)
    × (options.x86 ≡ is_given (codes "x86") rows)

-- the options of a search for races
abbrev pub NamesRaces : List Row → RaceOptions → Type 0
NamesRaces rows options = NamesSearch rows options.search
    × (map string_bytes options.sync.items ≡ given_texts (codes "sync") rows)

-- the options of a call that reads and writes files of states
abbrev pub NamesSpread : List Row → SpreadOptions → Type 0
NamesSpread rows options = (options.patient ≡ is_given (codes "patient") rows)
    × (first_of (codes "into") rows ≡ Some (string_bytes options.folder))
    × NamesParts rows (Some options.parts)
    × (map string_bytes options.states.items ≡ given_texts (codes "states") rows)
    × (map string_bytes options.seen.items ≡ given_texts (codes "seen") rows)

-- the command that `clap` finds in the words: a subcommand's name, and what is found of its options
abbrev pub Names : Option (Text × List Row) → Command → Type 0
Names None _ = ⊥
Names (Some found) (command.Hex options) = (found.0 ≡ codes "hex") × NamesRun found.1 options
Names (Some found) (command.Asm listing) = (found.0 ≡ codes "asm")
    × (listing ≡ is_given (codes "listing") found.1)
    × (do_part found.1 ≡ false) × (is_given (codes "run") found.1 ≡ false)
Names (Some found) (command.AsmRun options) = (found.0 ≡ codes "asm") × NamesRun found.1 options
    × (do_part found.1 ≡ false) × (is_given (codes "run") found.1 ≡ true)
Names (Some found) (command.Disasm pc) = (found.0 ≡ codes "disasm")
    × (pc ≡ is_given (codes "pc") found.1)
Names (Some found) (command.Run options) = (found.0 ≡ codes "run")
    × (options.keys ≡ is_given (codes "keys") found.1)
    × (options.maps ≡ is_given (codes "maps") found.1)
    × IsSchedule (first_of (codes "by") found.1) options.by.items
    × NamesWorkers found.1 options.workers
    × (options.stats ≡ is_given (codes "stats") found.1)
    × (do_clash found.1 ≡ false) × (counts_alone found.1 ≡ false)
    × (is_given (codes "events") found.1 ≡ false) × (is_given (codes "check") found.1 ≡ false)
    × (is_given (codes "packets") found.1 ≡ false) × (is_given (codes "x86") found.1 ≡ false)
Names (Some found) (command.History options) = (found.0 ≡ codes "run")
    × (options.keys ≡ is_given (codes "keys") found.1)
    × (options.maps ≡ is_given (codes "maps") found.1)
    × IsSchedule (first_of (codes "by") found.1) options.by.items
    × (do_clash found.1 ≡ false) × (counts_alone found.1 ≡ false)
    × (is_given (codes "events") found.1 ≡ true) × (is_given (codes "x86") found.1 ≡ false)
Names (Some found) (command.Packets options) = (found.0 ≡ codes "run")
    × (options.keys ≡ is_given (codes "keys") found.1)
    × (options.maps ≡ is_given (codes "maps") found.1)
    × IsSchedule (first_of (codes "by") found.1) options.by.items
    × (do_clash found.1 ≡ false) × (counts_alone found.1 ≡ false)
    × (is_given (codes "packets") found.1 ≡ true)
Names (Some found) (command.X86 options) = (found.0 ≡ codes "run")
    × (options.maps ≡ is_given (codes "maps") found.1)
    × AreMoves (first_of (codes "by") found.1) options.by.items
    × (do_clash found.1 ≡ false) × (counts_alone found.1 ≡ false)
    × (is_given (codes "x86") found.1 ≡ true) × (is_given (codes "events") found.1 ≡ false)
Names (Some found) (command.X86History options) = (found.0 ≡ codes "run")
    × (options.maps ≡ is_given (codes "maps") found.1)
    × AreMoves (first_of (codes "by") found.1) options.by.items
    × (do_clash found.1 ≡ false) × (counts_alone found.1 ≡ false)
    × (is_given (codes "x86") found.1 ≡ true) × (is_given (codes "events") found.1 ≡ true)
Names (Some found) (command.Judge options) = (found.0 ≡ codes "run")
    × (options.keys ≡ is_given (codes "keys") found.1)
    × IsSchedule (first_of (codes "by") found.1) options.by.items
    × (do_clash found.1 ≡ false) × (counts_alone found.1 ≡ false)
    × (is_given (codes "check") found.1 ≡ true)
Names (Some found) (command.Explore options) = (found.0 ≡ codes "explore")
    × NamesSearch found.1 options × NamesShown found.1 None
    × (do_part_races found.1 ≡ false) × (is_given (codes "races") found.1 ≡ false)
    × (is_given (codes "x86") found.1 ≡ false)
Names (Some found) (command.ExploreX86 options) = (found.0 ≡ codes "explore")
    × NamesSearch found.1 options × NamesShown found.1 None
    × (do_part_races found.1 ≡ false) × (is_given (codes "races") found.1 ≡ false)
    × (wants_no_flushes found.1 ≡ false) × (is_given (codes "x86") found.1 ≡ true)
Names (Some found) (command.Show options) = (found.0 ≡ codes "explore")
    × NamesSearch found.1 options.search × NamesShown found.1 (Some options.outcome)
    × (do_part_races found.1 ≡ false) × (is_given (codes "races") found.1 ≡ false)
    × (is_given (codes "x86") found.1 ≡ false)
Names (Some found) (command.ShowX86 options) = (found.0 ≡ codes "explore")
    × NamesSearch found.1 options.search × NamesShown found.1 (Some options.outcome)
    × (do_part_races found.1 ≡ false) × (is_given (codes "races") found.1 ≡ false)
    × (wants_no_flushes found.1 ≡ false) × (is_given (codes "x86") found.1 ≡ true)
Names (Some found) (command.Races options) = (found.0 ≡ codes "explore")
    × NamesRaces found.1 options
    × (do_part_races found.1 ≡ false) × (is_given (codes "races") found.1 ≡ true)
    × (wants_no_flushes found.1 ≡ false)
Names (Some found) (command.Check options) = (found.0 ≡ codes "check")
    × NamesCheck found.1 options × (wants_no_flushes found.1 ≡ false)
Names (Some found) (command.Expand first patient races) = (found.0 ≡ codes "expand")
    × (first ≡ is_given (codes "first") found.1) × (patient ≡ is_given (codes "patient") found.1)
    × (races ≡ is_given (codes "races") found.1) × (is_given (codes "x86") found.1 ≡ false)
Names (Some found) (command.ExpandX86 first patient) = (found.0 ≡ codes "expand")
    × (first ≡ is_given (codes "first") found.1) × (patient ≡ is_given (codes "patient") found.1)
    × (wants_no_flushes found.1 ≡ false) × (is_given (codes "x86") found.1 ≡ true)
Names (Some found) (command.Debug echo strict) = (found.0 ≡ codes "debug")
    × (echo ≡ is_given (codes "echo") found.1) × (strict ≡ is_given (codes "strict") found.1)
    × (is_given (codes "x86") found.1 ≡ false)
Names (Some found) (command.DebugX86 echo strict) = (found.0 ≡ codes "debug")
    × (echo ≡ is_given (codes "echo") found.1) × (strict ≡ is_given (codes "strict") found.1)
    × (is_given (codes "x86") found.1 ≡ true)

-- the file that is read in place of standard input, which `-` names too
abbrev pub file_named : Text → Option Text
file_named word = cond (bytes_eq word (codes "-")) None (Some word)

abbrev pub file_in : List Row → Option Text
file_in rows = option_and_then file_named (first_of (codes "file") rows)

-- what is asked for: a command of a file or of standard input, perhaps with `--explain`; the check
-- of several files; or the page of a code or another name
abbrev pub Asks : Option (Text × List Row) → Request → Type 0
Asks None _ = ⊥
Asks (Some found) (request.Perform command file explain json) = Names (Some found) command
    × (option_map string_bytes file ≡ file_in found.1)
    × (found.0 ≡ codes "check" → names_several found.1 ≡ false)
    × (found.0 ≡ codes "expand" → wants_files found.1 ≡ false)
    × (explain ≡ is_given (codes "explain") found.1)
    × (json ≡ is_given (codes "json") found.1)
Asks (Some found) (request.CheckAll check files json) = (found.0 ≡ codes "check")
    × NamesCheck found.1 check
    × (map string_bytes files.items ≡ given_texts (codes "file") found.1)
    × (names_several found.1 ≡ true) × (wants_one found.1 ≡ false)
    × (wants_no_flushes found.1 ≡ false)
    × (json ≡ is_given (codes "json") found.1)
Asks (Some found) (request.Spread spread file) = (found.0 ≡ codes "expand")
    × NamesSpread found.1 spread × (option_map string_bytes file ≡ file_in found.1)
    × (wants_files found.1 ≡ true) × (wants_lines found.1 ≡ false)
Asks (Some found) (request.Page topic) = (found.0 ≡ codes "explain")
    × (option_and_then topic_of (first_of (codes "code") found.1) ≡ Some topic)

-- why what `clap` finds can't be done: a context or a schedule that is none, options of which one
-- rules out the other or wants another or one file alone, or a name that has no page
abbrev pub RefusesFound : Text × List Row → CommandError → Type 0
RefusesFound found error.NotHex = IsRunnerName found.0
    × RefusesContext (first_of (codes "ctx") found.1) error.NotHex
RefusesFound found error.NoSchedule = (found.0 ≡ codes "run") × (do_clash found.1 ≡ false)
    × (counts_alone found.1 ≡ false)
    × RefusesBy (is_given (codes "x86") found.1) (first_of (codes "by") found.1) error.NoSchedule
RefusesFound found error.TwoWays = (found.0 ≡ codes "run") × (do_clash found.1 ≡ true)
RefusesFound found error.NoWorkers = (found.0 ≡ codes "run") × (do_clash found.1 ≡ false)
    × (counts_alone found.1 ≡ true)
RefusesFound found error.OneFile = (found.0 ≡ codes "check") × (wants_one found.1 ≡ true)
RefusesFound found error.NoRun = (found.0 ≡ codes "asm") × (do_part found.1 ≡ true)
RefusesFound found error.NoRaces = (found.0 ≡ codes "explore") × (do_part_races found.1 ≡ true)
RefusesFound found error.TurnsAlone =
    ((found.0 ≡ codes "explore") × (wants_no_flushes found.1 ≡ true))
    ⊎ ((found.0 ≡ codes "check") × (wants_no_flushes found.1 ≡ true))
    ⊎ ((found.0 ≡ codes "expand") × (wants_no_flushes found.1 ≡ true))
RefusesFound found error.NoFiles = (found.0 ≡ codes "expand") × (wants_files found.1 ≡ true)
    × ((names_parts found.1 ≡ false) ⊎ (wants_lines found.1 ≡ true))
RefusesFound found error.NoCode = (found.0 ≡ codes "explain")
    × (option_and_then topic_of (first_of (codes "code") found.1) ≡ None)
RefusesFound found error.OutOfMemory = Unit {0}
RefusesFound found (error.Shown shown) = ⊥

-- the words as `clap` reads them: `help` and `version` are the options of these names
abbrev pub flag_of : Text → Text
flag_of word = if bytes_eq word (codes "help") then codes "--help"
    else if bytes_eq word (codes "version") then codes "--version" else word

abbrev pub as_flags : List Text → List Text
as_flags (program ∷ word ∷ []) = program ∷ flag_of word ∷ []
as_flags (program ∷ word ∷ name ∷ []) =
    if bytes_eq word (codes "help") then program ∷ name ∷ codes "--help" ∷ []
    else program ∷ word ∷ name ∷ []
as_flags words = words

-- what the words ask for
abbrev pub AsksBy : List Text → Request → Type 0
AsksBy words request = Asks (subcommand_of ebpf (as_flags words)) request

-- why they ask for nothing that can be done: a fault that `clap` finds, or what it finds
abbrev pub RefusesFlags : List Text → CommandError → Type 0
RefusesFlags words (error.Shown shown) = IsAmong (kind_of shown) (fault_of ebpf words)
RefusesFlags words error.OutOfMemory = Unit {0}
RefusesFlags words e = (fault_of ebpf words ≡ [])
    × IsSomeAnd (subcommand_of ebpf words) (λ found. RefusesFound found e)

abbrev pub Refuses : List Text → CommandError → Type 0
Refuses words e = RefusesFlags (as_flags words) e
