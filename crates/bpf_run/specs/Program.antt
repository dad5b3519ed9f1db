-- What a command does between its reading and its writing, and what the words of a command line ask
-- for.
use Rattle.std.specs.Prelude.{◌≡◌, ℕ, Bool, List, Option, Some, None, IfSome, [], map, option_map, string_bytes}
use Rattle.clap.specs.Words.{Text, fault_of}
use Rattle.clap.specs.declared.error.Error.{Error}
use Rattle.bpf_lines.specs.declared.hex_text.HexError.TheVariants as hex_error
use Rattle.bpf_file.specs.File.{File}
use Rattle.bpf_command.specs.CommandLine.{ebpf}
use Rattle.bpf_command.specs.Names.{AsksBy, as_flags}
use Rattle.bpf_command.specs.declared.command.Command.{Command}
use Rattle.bpf_command.specs.declared.command.Request.{Request}
use Rattle.bpf_command.specs.declared.command.Request.TheVariants as request
use Rattle.bpf_command.specs.declared.command_line.CommandError.{CommandError}
use Rattle.bpf_command.specs.declared.command_line.CommandError.TheVariants as command_error
use Rattle.bpf_replies.specs.Answer.{Prints, PrintsPage, stats_of}
use Rattle.bpf_run.specs.Commands.{IsReply}
use Rattle.bpf_replies.specs.Input.{is_unread}
use Rattle.bpf_run.specs.Conversing.{Holds, asked_talk}
use Rattle.bpf_run.specs.declared.conversing.Partner.{Partner}
use Rattle.bpf_run.specs.Objects.{IsShown}
use Rattle.bpf_replies.specs.Several.{AreChecked}
use Rattle.bpf_run.specs.Racing.{AreRacesOf}
use Rattle.bpf_run.specs.Spreading.{IsSpread}
use Rattle.bpf_run.specs.declared.program.Ending.{Ending}
use Rattle.bpf_run.specs.declared.program.Ending.TheVariants as ending
use Rattle.bpf_run.specs.declared.program.Misuse.{Misuse}
use Rattle.bpf_run.specs.declared.program.Misuse.TheVariants as misuse
use Rattle.bpf_replies.specs.declared.refusal.Refusal.{Refusal}
use Rattle.bpf_replies.specs.declared.refusal.Refusal.TheVariants as refusal
use Rattle.bpf_replies.specs.declared.reply.Reply.{Reply}
use Rattle.bpf_replies.specs.declared.reply.Status.{Status}

-- a reply to the input is answered: 'unread' exactly where a read failed; and what is printed beside it
abbrev pub Performs : Command → (input : Option (List ℕ)) → (read_failed : Bool)
    → (old new : Option (List ℕ)) → (write_failed : Bool) → Status → (stats : List ℕ) → Type 0
Performs command input read_failed old new write_failed status stats = (r : Reply)
    × (read_failed ≡ is_unread r) × IfSome input (λ bytes. IsReply command bytes r)
    × Prints r old new write_failed status × (stats ≡ stats_of r)

-- the bytes that are read: those of the file that is named, or of standard input
abbrev pub input_of : (standard : Option (List ℕ)) → (files : Text → Option (List ℕ))
    → Option Text → Option (List ℕ)
input_of standard files None = standard
input_of standard files (Some name) = files name

-- `debug` or `expand` of a FILE may hold a conversation; each other command is performed of its input, with
-- `--json` the objects of what is printed are written, and the terminal is left alone
abbrev pub Does : Command → (json : Bool) → Option Text → (talk : Option (Partner × Text))
    → (silent : Type 0) → (talks : Partner → File → Status → Type 0)
    → (standard : Option (List ℕ)) → (files : Text → Option (List ℕ)) → (read_failed : Bool)
    → (old new : Option (List ℕ)) → (write_failed : Bool) → Status → (stats : List ℕ) → Type 0
Does command json file (Some (partner, name)) silent talks standard files read_failed old new
    write_failed status stats =
    Holds partner (files name) silent (talks partner) read_failed old new write_failed status stats
Does command json file None silent talks standard files read_failed old new write_failed status
    stats =
    silent × IsShown json (λ before after cut answered.
    Performs command (input_of standard files file) read_failed before after cut answered stats)
    old new write_failed status

-- a command that is asked for is done, with `--explain` as without it; several files are checked,
-- and with `--json` the objects of what is printed are written; what states of files lead to is written
-- into others; of a page that is asked for nothing is read
abbrev pub Follows : Request → (has_made : Text → List ℕ → Type 0) → (unread silent : Type 0)
    → (talks : Partner → File → Status → Type 0) → (standard : Option (List ℕ))
    → (files : Text → Option (List ℕ)) → (read_failed : Bool)
    → (old new : Option (List ℕ)) → (write_failed : Bool) → Status → (stats : List ℕ) → Type 0
Follows (request.Perform command file explain json) has_made unread silent talks standard files read_failed
    old new write_failed status stats =
    Does command json (option_map string_bytes file)
    (asked_talk command (option_map string_bytes file) json) silent talks standard files read_failed
    old new write_failed status stats
Follows (request.CheckAll check names json) has_made unread silent talks standard files read_failed old new
    write_failed status stats =
    silent × ((r : Reply)
    × AreChecked AreRacesOf check files (map string_bytes names.items) r
    × IsShown json (Prints r) old new write_failed status × (stats ≡ []))
Follows (request.Spread spread file) has_made unread silent talks standard files read_failed old
    new write_failed status stats =
    silent × (stats ≡ []) × ((r : Reply) × IsSpread has_made files spread
    (input_of standard files (option_map string_bytes file)) r
    × Prints r old new write_failed status)
Follows (request.Page topic) has_made unread silent talks standard files read_failed old new write_failed
    status stats =
    silent × unread × PrintsPage topic old new write_failed status × (stats ≡ [])

-- the words ask for this, and `clap` finds no fault in them
abbrev pub IsAsked : List Text → Request → Type 0
IsAsked words request = (fault_of ebpf (as_flags words) ≡ []) × AsksBy words request

-- the refusal that is printed where words name no command; what `clap` says is shown and isn't
-- printed as one
abbrev pub IsPrintedAs : CommandError → Refusal → Type 0
IsPrintedAs command_error.NotHex r = r ≡ refusal.Hex hex_error.NotHex
IsPrintedAs command_error.OutOfMemory r = r ≡ refusal.OutOfMemory
IsPrintedAs (command_error.Shown _) r = ⊥
IsPrintedAs command_error.NoCode r = ⊥
IsPrintedAs command_error.NoSchedule r = ⊥
IsPrintedAs command_error.TwoWays r = ⊥
IsPrintedAs command_error.NoWorkers r = ⊥
IsPrintedAs command_error.OneFile r = ⊥
IsPrintedAs command_error.NoRun r = ⊥
IsPrintedAs command_error.NoRaces r = ⊥
IsPrintedAs command_error.NoFiles r = ⊥
IsPrintedAs command_error.TurnsAlone r = ⊥

-- what is wrong with words in which `clap` finds no fault
abbrev pub error_of : Misuse → CommandError
error_of misuse.Code = command_error.NoCode
error_of misuse.Schedule = command_error.NoSchedule
error_of misuse.TwoWays = command_error.TwoWays
error_of misuse.Workers = command_error.NoWorkers
error_of misuse.OneFile = command_error.OneFile
error_of misuse.Run = command_error.NoRun
error_of misuse.Races = command_error.NoRaces
error_of misuse.Files = command_error.NoFiles
error_of misuse.TurnsAlone = command_error.TurnsAlone

-- ---- what is left to do

-- to exit with a status, once this is printed on standard error
abbrev pub IfExit : Ending → (Status → List ℕ → Type 0) → Type 0
IfExit (ending.Exit status) P = P status []
IfExit (ending.NoContext status) P = P status []
IfExit (ending.Performed done) P = P done.status (stats_of done.reply)
IfExit (ending.Explained subject done) P = P done.status (stats_of done.reply)
IfExit _ P = Unit {0}

abbrev pub IfShown : Ending → (Error → Type 0) → Type 0
IfShown (ending.Shown error) P = P error
IfShown _ P = Unit {0}

abbrev pub IfNotText : Ending → Type 0 → Type 0
IfNotText ending.NotText P = P
IfNotText _ P = Unit {0}

abbrev pub IfMisused : Ending → (Misuse → Type 0) → Type 0
IfMisused (ending.Misused misuse) P = P misuse
IfMisused _ P = Unit {0}
