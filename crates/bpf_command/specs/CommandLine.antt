-- The command line of `ebpf`, in clap's terms, and the numbers that its words name. Our own choice.
use Rattle.std.specs.Prelude.{◌≡◌, ◌⊎◌, ℕ, List, Option, Some, None, IfSome, IsSomeAnd, codes, [], ◌∷◌, Bool, ◌&&◌, ◌||◌, if◌then◌else◌}
use Rattle.std.specs.Prelude.{is_some, length, nat_lt, not, true, false, unwrap_or}
use Rattle.std.specs.List.{list_any}
use Rattle.std.specs.Str.{bytes_eq}
use Rattle.std.specs.Str.Parse.{digits_value, without_leading_plus}
use Rattle.clap.specs.Simple.{new_shape}
use Rattle.clap.specs.Takes.{is_given}
use Rattle.clap.specs.Values.{IsUnsignedIn}
use Rattle.clap.specs.Words.{App, Row, Rule, Text, all_of, first_of, new_app, new_rule, one_of, with_rule, with_subcommand}
use Rattle.clap.specs.declared.builder.action.ArgAction.TheVariants.{Append, SetTrue}
use Rattle.clap.specs.declared.builder.value_parser.ValueParser.TheVariants.{Unsigned}
use Rattle.bpf_command.specs.declared.command.TheConstants.{MAX_LIMIT, MAX_PARTS, MAX_WORKERS}
use Rattle.bpf_base.specs.declared.budget.TheConstants.{MAX_BUDGET}

-- an option `--ID N`: 0 to `most`, and 1,000,000 where it is left out
abbrev pub limited : Text → ℕ → Rule
limited id most = record (new_rule id) {
  long = Some id;
  value_names = 1;
  parser = Some (Unsigned 0 most);
  defaults = codes "1000000" ∷ [];
}

-- `--budget N`
abbrev pub budget : Rule
budget = limited (codes "budget") MAX_BUDGET

-- `--ctx HEX`
abbrev pub context : Rule
context = record (new_rule (codes "ctx")) { long = Some (codes "ctx"); value_names = 1 }

-- `--explain`
abbrev pub explained : Rule
explained = record (new_rule (codes "explain")) {
  long = Some (codes "explain");
  action = Some SetTrue;
}

-- `--json`
abbrev pub json : Rule
json = record (new_rule (codes "json")) { long = Some (codes "json"); action = Some SetTrue }

-- `FILE`
abbrev pub file : Rule
file = record (new_rule (codes "file")) { value_names = 1 }

-- `FILE..`
abbrev pub files : Rule
files = record (new_rule (codes "file")) { value_names = 1; action = Some Append }

abbrev pub hex_options : App
hex_options = with_rule (with_rule (with_rule (new_app (codes "hex")) explained) budget) context

abbrev pub hex : App
hex = with_rule hex_options file

-- `--listing`
abbrev pub listing : Rule
listing = record (new_rule (codes "listing")) {
  long = Some (codes "listing");
  action = Some SetTrue;
}

-- `--run`
abbrev pub runs : Rule
runs = record (new_rule (codes "run")) { long = Some (codes "run"); action = Some SetTrue }

abbrev pub asm_shows : App
asm_shows = with_rule (with_rule (with_rule (new_app (codes "asm")) explained) listing) runs

abbrev pub asm : App
asm = with_rule (with_rule (with_rule asm_shows budget) context) file

-- `--pc`
abbrev pub pc : Rule
pc = record (new_rule (codes "pc")) { long = Some (codes "pc"); action = Some SetTrue }

abbrev pub disasm : App
disasm = with_rule (with_rule (with_rule (new_app (codes "disasm")) explained) pc) file

-- `--keys`
abbrev pub keys : Rule
keys = record (new_rule (codes "keys")) { long = Some (codes "keys"); action = Some SetTrue }

-- `--maps`
abbrev pub maps : Rule
maps = record (new_rule (codes "maps")) { long = Some (codes "maps"); action = Some SetTrue }

-- an option `--ID N`: 1 to `most`
abbrev pub counted : Text → ℕ → Rule
counted id most = record (new_rule id) {
  long = Some id;
  value_names = 1;
  parser = Some (Unsigned 1 most);
}

-- `--workers N`
abbrev pub workers : Rule
workers = counted (codes "workers") MAX_WORKERS

-- `--events`
abbrev pub events : Rule
events = record (new_rule (codes "events")) { long = Some (codes "events"); action = Some SetTrue }

-- `--packets`
abbrev pub packets : Rule
packets = record (new_rule (codes "packets")) { long = Some (codes "packets"); action = Some SetTrue }

-- `--check`
abbrev pub judged : Rule
judged = record (new_rule (codes "check")) { long = Some (codes "check"); action = Some SetTrue }

abbrev pub run_lists : App
run_lists = with_rule (with_rule (with_rule (new_app (codes "run")) explained) keys) maps

abbrev pub run_shows : App
run_shows = with_rule (with_rule (with_rule run_lists events) packets) judged

-- `--by S`
abbrev pub schedule : Rule
schedule = record (new_rule (codes "by")) { long = Some (codes "by"); value_names = 1 }

-- `--stats`
abbrev pub stats : Rule
stats = record (new_rule (codes "stats")) { long = Some (codes "stats"); action = Some SetTrue }

abbrev pub run_options : App
run_options = with_rule (with_rule (with_rule run_shows schedule) workers) stats

-- `--x86`
abbrev pub x86 : Rule
x86 = record (new_rule (codes "x86")) { long = Some (codes "x86"); action = Some SetTrue }

abbrev pub run : App
run = with_rule (with_rule (with_rule run_options x86) json) file

-- `--limit N`
abbrev pub limit : Rule
limit = limited (codes "limit") MAX_LIMIT

-- `--patient`
abbrev pub patient : Rule
patient = record (new_rule (codes "patient")) {
  long = Some (codes "patient");
  action = Some SetTrue;
}

-- `--progress`
abbrev pub progress : Rule
progress = record (new_rule (codes "progress")) {
  long = Some (codes "progress");
  action = Some SetTrue;
}

-- `--all-states`
abbrev pub all_states : Rule
all_states = record (new_rule (codes "all-states")) {
  long = Some (codes "all-states");
  action = Some SetTrue;
}

-- a command that searches through all schedules
abbrev pub searching : Text → App
searching name =
    with_rule (with_rule (with_rule (with_rule (with_rule (with_rule (with_rule (new_app name)
    explained) patient) json) progress) x86) all_states) workers

-- `--show K`
abbrev pub show : Rule
show = counted (codes "show") MAX_LIMIT

-- `--races`
abbrev pub races : Rule
races = record (new_rule (codes "races")) { long = Some (codes "races"); action = Some SetTrue }

-- `--sync NAME`, which may be several times
abbrev pub sync : Rule
sync = record (new_rule (codes "sync")) {
  long = Some (codes "sync");
  value_names = 1;
  action = Some Append;
}

abbrev pub explore_options : App
explore_options = with_rule (with_rule (with_rule (searching (codes "explore")) races) sync) limit

abbrev pub explore : App
explore = with_rule (with_rule explore_options show) file

-- `--lenient`
abbrev pub lenient : Rule
lenient = record (new_rule (codes "lenient")) {
  long = Some (codes "lenient");
  action = Some SetTrue;
}

-- `--states`
abbrev pub states : Rule
states = record (new_rule (codes "states")) { long = Some (codes "states"); action = Some SetTrue }

abbrev pub check : App
check = with_rule (with_rule (with_rule (with_rule (searching (codes "check")) lenient) states) limit)
    files

-- `--first`
abbrev pub first : Rule
first = record (new_rule (codes "first")) { long = Some (codes "first"); action = Some SetTrue }

abbrev pub expand_options : App
expand_options =
    with_rule (with_rule (with_rule (with_rule (new_app (codes "expand")) explained) first) patient) x86

-- `--into FOLDER`
abbrev pub into : Rule
into = record (new_rule (codes "into")) { long = Some (codes "into"); value_names = 1 }

-- `--parts N`
abbrev pub parts : Rule
parts = counted (codes "parts") MAX_PARTS

-- `--seen FILE`, which may be several times
abbrev pub seen : Rule
seen = record (new_rule (codes "seen")) {
  long = Some (codes "seen");
  value_names = 1;
  action = Some Append;
}

-- `STATES..`
abbrev pub state_files : Rule
state_files = record (new_rule (codes "states")) { value_names = 1; action = Some Append }

abbrev pub expand_files : App
expand_files = with_rule (with_rule (with_rule (with_rule expand_options races) into) parts) seen

abbrev pub expand : App
expand = with_rule (with_rule expand_files file) state_files

-- the code that `explain` is asked for
abbrev pub code_rule : Rule
code_rule = record (new_rule (codes "code")) { value_names = 1; required = true }

abbrev pub explain : App
explain = with_rule (new_app (codes "explain")) code_rule

-- `--echo`
abbrev pub echo : Rule
echo = record (new_rule (codes "echo")) { long = Some (codes "echo"); action = Some SetTrue }

-- `--strict`
abbrev pub strict : Rule
strict = record (new_rule (codes "strict")) { long = Some (codes "strict"); action = Some SetTrue }

abbrev pub debug_options : App
debug_options =
    with_rule (with_rule (with_rule (with_rule (new_app (codes "debug")) explained) echo) strict) x86

abbrev pub debug : App
debug = with_rule debug_options file

-- the program, before its commands are added
abbrev pub bare : App
bare = record {
  top = record (new_shape (codes "ebpf")) {
    has_version = true;
    subcommand_required = true;
    disable_help_subcommand = true;
  };
  subs = [];
}

-- the three commands for one program
abbrev pub one_program : App
one_program = with_subcommand (with_subcommand (with_subcommand bare hex.top) asm.top) disasm.top

-- and `ebpf run`, `ebpf explore` and `ebpf check` for a run file
abbrev pub for_files : App
for_files = with_subcommand (with_subcommand (with_subcommand one_program run.top) explore.top)
    check.top

-- and `ebpf expand` for one with states beside it, and `ebpf debug` for one with commands after it
abbrev pub working : App
working = with_subcommand (with_subcommand for_files expand.top) debug.top

-- and `ebpf explain`, with `--help` and `--version`
abbrev pub ebpf : App
ebpf = with_subcommand working explain.top

-- the name of one of those that do work
abbrev pub IsWorkName : Text → Type 0
IsWorkName name = (name ≡ codes "hex") ⊎ ((name ≡ codes "asm") ⊎ ((name ≡ codes "disasm")
    ⊎ ((name ≡ codes "run") ⊎ ((name ≡ codes "explore") ⊎ ((name ≡ codes "check")
    ⊎ ((name ≡ codes "expand") ⊎ (name ≡ codes "debug")))))))

-- the name of one of those that run one program
abbrev pub IsRunnerName : Text → Type 0
IsRunnerName name = (name ≡ codes "hex") ⊎ (name ≡ codes "asm")

-- the name of one of those that search
abbrev pub IsSearchName : Text → Type 0
IsSearchName name = (name ≡ codes "explore") ⊎ (name ≡ codes "check")

-- the name of one of those that may have workers
abbrev pub MayHaveWorkers : Text → Type 0
MayHaveWorkers name = (name ≡ codes "run") ⊎ IsSearchName name

-- the name of one of the nine
abbrev pub IsCommandName : Text → Type 0
IsCommandName name = (name ≡ codes "explain") ⊎ IsWorkName name

-- what is found of such an option: a number in the range, and the default where it isn't given
abbrev pub HasLimited : Text → ℕ → List Row → Type 0
HasLimited id most rows = IsSomeAnd (one_of id rows) (IsUnsignedIn 0 most)
    × (is_given id rows ≡ false → one_of id rows ≡ Some (codes "1000000"))

abbrev pub HasBudget : List Row → Type 0
HasBudget = HasLimited (codes "budget") MAX_BUDGET

abbrev pub HasLimit : List Row → Type 0
HasLimit = HasLimited (codes "limit") MAX_LIMIT

-- the number that a text names: one in the range, in decimal digits
abbrev pub IsLimited : ℕ → Option Text → ℕ → Type 0
IsLimited most None n = ⊥
IsLimited most (Some text) n = IsUnsignedIn 0 most text
    × (n ≡ digits_value 10 (without_leading_plus text))

-- the number that such an option names: that of the text, and 1,000,000 where it is left out
abbrev pub NamesLimited : Text → ℕ → List Row → ℕ → Type 0
NamesLimited id most rows n = IsLimited most (one_of id rows) n
    × (is_given id rows ≡ false → n ≡ 1000000)

-- the budget that the options name
abbrev pub NamesBudget : List Row → ℕ → Type 0
NamesBudget = NamesLimited (codes "budget") MAX_BUDGET

-- the limit that they name
abbrev pub NamesLimit : List Row → ℕ → Type 0
NamesLimit = NamesLimited (codes "limit") MAX_LIMIT

-- what is found of an option that counts, if anything is: a number in the range
abbrev pub HasCount : Text → ℕ → List Row → Type 0
HasCount id most rows = IfSome (one_of id rows) (IsUnsignedIn 1 most)

-- the number that a text names: one in the range, in decimal digits; none where there is no text
abbrev pub IsCount : ℕ → Option Text → Option ℕ → Type 0
IsCount most None n = n ≡ None
IsCount most (Some text) None = ⊥
IsCount most (Some text) (Some n) = IsUnsignedIn 1 most text
    × (n ≡ digits_value 10 (without_leading_plus text))

-- the number that such an option names, if it is given
abbrev pub NamesCount : Text → ℕ → List Row → Option ℕ → Type 0
NamesCount id most rows n = IsCount most (one_of id rows) n

abbrev pub HasWorkers : List Row → Type 0
HasWorkers = HasCount (codes "workers") MAX_WORKERS

-- the number of workers that the options name
abbrev pub NamesWorkers : List Row → Option ℕ → Type 0
NamesWorkers = NamesCount (codes "workers") MAX_WORKERS

abbrev pub HasParts : List Row → Type 0
HasParts = HasCount (codes "parts") MAX_PARTS

-- the number of parts that they name
abbrev pub NamesParts : List Row → Option ℕ → Type 0
NamesParts = NamesCount (codes "parts") MAX_PARTS

abbrev pub HasShown : List Row → Type 0
HasShown = HasCount (codes "show") MAX_LIMIT

-- the number of the outcome that they name
abbrev pub NamesShown : List Row → Option ℕ → Type 0
NamesShown = NamesCount (codes "show") MAX_LIMIT

-- what only CPUs that take turns can do is asked for
abbrev pub wants_turns : List Row → Bool
wants_turns rows = is_given (codes "by") rows
    || (is_given (codes "events") rows || is_given (codes "check") rows
    || is_given (codes "packets") rows)

-- two of what happens, packets and a verdict are asked for
abbrev pub wants_two : List Row → Bool
wants_two rows = (is_given (codes "events") rows && is_given (codes "check") rows)
    || (is_given (codes "events") rows && is_given (codes "packets") rows)
    || (is_given (codes "check") rows && is_given (codes "packets") rows)

-- what CPUs with store buffers don't do is asked for beside them
abbrev pub wants_no_buffers : List Row → Bool
wants_no_buffers rows = is_given (codes "x86") rows
    && (is_given (codes "workers") rows || (is_given (codes "check") rows
    || (is_given (codes "packets") rows || is_given (codes "keys") rows)))

-- options are given of which one rules out the other: what needs turns beside workers, two of what
-- happens, packets and a verdict, or packets, a verdict or lists of keys beside store buffers
abbrev pub do_clash : List Row → Bool
do_clash rows = (is_given (codes "workers") rows && wants_turns rows)
    || (wants_two rows || wants_no_buffers rows)

-- the texts that an option or an argument is given
abbrev pub given_texts : Text → List Row → List Text
given_texts id rows = unwrap_or (all_of id rows) []

-- several files are named
abbrev pub names_several : List Row → Bool
names_several rows = nat_lt 1 (length (given_texts (codes "file") rows))

-- standard input is named among the files
abbrev pub names_input : List Row → Bool
names_input rows = list_any (λ name. bytes_eq name (codes "-")) (given_texts (codes "file") rows)

-- several files are named, and what goes with one alone: standard input, or to explain
abbrev pub wants_one : List Row → Bool
wants_one rows = names_several rows && (names_input rows || is_given (codes "explain") rows)

-- what is counted of a run on worker threads is asked for without workers
abbrev pub counts_alone : List Row → Bool
counts_alone rows = is_given (codes "stats") rows && not (is_given (codes "workers") rows)

-- what a search through flushes of store buffers doesn't do is asked for beside it
abbrev pub wants_no_flushes : List Row → Bool
wants_no_flushes rows =
    is_given (codes "x86") rows && (is_given (codes "races") rows
    || (is_given (codes "sync") rows || is_given (codes "workers") rows))

-- files of states are asked for
abbrev pub wants_files : List Row → Bool
wants_files rows = (is_given (codes "into") rows || is_given (codes "parts") rows)
    || (is_given (codes "seen") rows || is_given (codes "states") rows)

-- what isn't done of files of states is asked for
abbrev pub wants_lines : List Row → Bool
wants_lines rows = (is_given (codes "first") rows || is_given (codes "x86") rows)
    || (is_given (codes "races") rows || is_given (codes "explain") rows)

-- a folder and a number of parts are named
abbrev pub names_parts : List Row → Bool
names_parts rows =
    is_some (first_of (codes "into") rows) && is_some (one_of (codes "parts") rows)

-- maps of locks are named without `--races`, or an outcome is asked for beside it
abbrev pub do_part_races : List Row → Bool
do_part_races rows = if is_given (codes "races") rows then is_given (codes "show") rows
    else is_given (codes "sync") rows

-- what is asked of a run without `--run`, or the listing beside it
abbrev pub do_part : List Row → Bool
do_part rows = if is_given (codes "run") rows then is_given (codes "listing") rows
    else (is_given (codes "budget") rows || is_given (codes "ctx") rows)
