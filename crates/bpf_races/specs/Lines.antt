-- How races are printed. Our own choice.
use Rattle.std.specs.Prelude.{ℕ, zero, suc, ◌+◌, ◌-◌, nat_lt, ◌++◌, Bool, if◌then◌else◌, List, [], Option, Some, None, codes, length, slice_index_or}
use Rattle.std.specs.Fmt.{decimal}
use Rattle.hex.specs.Hex.{encode_lower}
use Rattle.bpf_schedule.specs.Spelling.{runs_text}
use Rattle.bpf_names.specs.Names.{Names, Variable, variable_at}
use Rattle.bpf_explore.specs.Listing.{all_text}
use Rattle.bpf_loader.specs.declared.named.Named.{Named}
use Rattle.bpf_machine.specs.declared.machine.Stand.{Stand}
use Rattle.bpf_races.specs.declared.found.Pair.{Pair}
use Rattle.bpf_races.specs.declared.sync.Part.{Part}
use Rattle.bpf_races.specs.Races.{RaceFound, is_race_free}
use Rattle.bpf_races.specs.Parts.{map_at}

-- where a CPU is
abbrev pub stand_text : Stand → List ℕ
stand_text at = codes "cpu " ++ (decimal at.cpu ++ (codes " prog " ++ (decimal at.program
    ++ (codes " pc " ++ decimal at.pc))))

-- two CPUs, and where they are
abbrev pub places_text : Pair → List ℕ
places_text pair =
    codes "race " ++ (stand_text pair.one ++ (codes " " ++ stand_text pair.other))

-- a key in lower case hex
abbrev pub key_text : Option (List ℕ) → List ℕ
key_text None = codes "deleted"
key_text (Some key) = encode_lower key

-- the name of the map or the array of this number: arrays have numbers from 16 on, and their names
-- are after those of the maps
abbrev pub place_text : Named → List (List ℕ) → ℕ → List ℕ
place_text named names m =
    if nat_lt m 16 then codes " map " ++ slice_index_or names m []
    else codes " array " ++ slice_index_or names (named.maps + (m - 16)) []

-- that name and the key
abbrev pub keyed_text : Named → List (List ℕ) → RaceFound → List ℕ
keyed_text named names race =
    place_text named names (map_at race.at) ++ (codes " " ++ key_text race.key)

-- a variable by its name
abbrev pub variable_text : Variable → List ℕ
variable_text v = codes " var " ++ v.name

-- in their place the variable that has the byte, if one does
abbrev pub shared_text : Named → List (List ℕ) → RaceFound → Option Variable → List ℕ
shared_text named names race (Some v) = variable_text v
shared_text named names race None = keyed_text named names race

abbrev pub value_text : Named → Names → RaceFound → List ℕ
value_text named names race =
    shared_text named names.maps race (variable_at race.at names.variables)

abbrev pub race_text : Named → Names → RaceFound → List ℕ
race_text named names race =
    ((places_text race.pair ++ value_text named names race) ++ codes " by")
    ++ (runs_text (length race.by) race.by ++ codes "\n")

-- of one in a machine as it is
abbrev pub here_text : Named → Names → RaceFound → List ℕ
here_text named names race = (places_text race.pair ++ value_text named names race) ++ codes "\n"

abbrev pub no_stand : Stand
no_stand = record { cpu = 0; program = 0; pc = 0 }

abbrev pub no_race : RaceFound
no_race = record {
  pair = record { one = no_stand; other = no_stand };
  at = 0;
  key = None;
  by = [];
}

-- the first n of them
abbrev pub race_lines : Named → Names → ℕ → List RaceFound → List ℕ
race_lines named names zero races = []
race_lines named names (suc n) races =
    race_lines named names n races ++ race_text named names (slice_index_or races n no_race)

-- as comments
abbrev pub comment_text : Named → Names → RaceFound → List ℕ
comment_text named names race = codes "# " ++ race_text named names race

abbrev pub comment_lines : Named → Names → ℕ → List RaceFound → List ℕ
comment_lines named names zero races = []
comment_lines named names (suc n) races =
    comment_lines named names n races ++ comment_text named names (slice_index_or races n no_race)

abbrev pub here_lines : Named → Names → ℕ → List RaceFound → List ℕ
here_lines named names zero races = []
here_lines named names (suc n) races =
    here_lines named names n races ++ here_text named names (slice_index_or races n no_race)

-- whether they are all, and how many they are
abbrev pub count_text : ℕ → List ℕ
count_text count = codes ": " ++ (decimal count ++ codes " races\n")

abbrev pub last_line : Bool → ℕ → List ℕ
last_line all count = all_text all ++ count_text count

-- where there is no race at all, that x86 adds no outcome
abbrev pub same_line : Bool → List ℕ
same_line same = if same then codes "no races: on x86 the outcomes are the same\n" else []

-- a line a race, and after them what follows for x86, and the last one
abbrev pub races_text : Named → Names → List Part → List RaceFound → Bool → List ℕ
races_text named names sync races all =
    (race_lines named names (length races) races ++ same_line (is_race_free sync races all))
    ++ last_line all (length races)
