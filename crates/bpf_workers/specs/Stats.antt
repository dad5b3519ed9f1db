-- What `--stats` prints of maps. Our own choice.
use Rattle.std.specs.Prelude.{◌≡◌, ℕ, zero, suc, ◌++◌, ◌≤◌, Bool, true, false, List, [], Option, Some, None, MatchOption, codes, length, slice_index_or}
use Rattle.std.specs.Fmt.{decimal}
use Rattle.hop_words.specs.Closing.{Ending}
use Rattle.hop_map.specs.declared.stats.MapStats.{MapStats}
use Rattle.hop_map.specs.Stats.{IsCounted}

-- a number with its name
abbrev pub number_word : List ℕ → ℕ → List ℕ
number_word name n = codes " " ++ name ++ codes "=" ++ decimal n

-- what a map's words say, and what its ports counted
abbrev pub words_told : MapStats → List ℕ
words_told s =
    number_word (codes "segments") s.segments ++ number_word (codes "keys") s.keys
    ++ number_word (codes "overflow") s.overflow ++ number_word (codes "free") s.free

abbrev pub counts_told : MapStats → List ℕ
counts_told s =
    number_word (codes "splits") s.splits ++ number_word (codes "disturbed") s.disturbed
    ++ number_word (codes "locks") s.locks

-- the line of a map of this name
abbrev pub stats_line : List ℕ → MapStats → List ℕ
stats_line name s = codes "map " ++ name ++ words_told s ++ counts_told s ++ codes "\n"

-- of no map there is none
abbrev pub row_line : List ℕ → Option MapStats → List ℕ
row_line name None = []
row_line name (Some s) = stats_line name s

-- a line a map, of the first n, as the words of the store that is left say its numbers
abbrev pub AreStatsLines : Ending → List (List ℕ) → ℕ → List ℕ → Type 0
AreStatsLines e names zero text = text ≡ []
AreStatsLines e names (suc m) text = (before : List ℕ) × (row : Option MapStats)
    × AreStatsLines e names m before
    × MatchOption row (length e.about.shape.maps ≤ m) (IsCounted e m)
    × (text ≡ before ++ row_line (slice_index_or names m []) row)

-- these lines, where they are asked for
abbrev pub AreStatsAsked : Bool → Ending → List (List ℕ) → List ℕ → Type 0
AreStatsAsked true e names text = AreStatsLines e names (length names) text
AreStatsAsked false e names text = text ≡ []
