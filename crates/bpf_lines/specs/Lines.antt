-- Lines, and the fields of lines that aren't assembly (our own choice).
use Rattle.std.specs.Prelude.{ℕ, ◌+◌, Bool, ◌==◌, ◌||◌, not, nat_lt, List, [], length, take_while, filter, Option, Some, None}
use Rattle.std.specs.List.{slice_split}

-- space, tab and CR
abbrev pub is_blank : ℕ → Bool
is_blank b = (b == 32) || ((b == 9) || (b == 13))

-- the lines of a text, cut at each line feed
abbrev pub lines_of : List ℕ → List (List ℕ)
lines_of text = slice_split (λ b. b == 10) text

-- the lines of what follows a line feed, if there is one
abbrev pub lines_behind : Option (List ℕ) → List (List ℕ)
lines_behind None = []
lines_behind (Some text) = lines_of text

-- the bytes of what follows a line feed, and of the line feed itself
abbrev pub rest_size : Option (List ℕ) → ℕ
rest_size None = 0
rest_size (Some text) = length text + 1

-- a line without its comment, from `;` on
abbrev pub uncommented : List ℕ → List ℕ
uncommented line = take_while (λ b. not (b == 59)) line

abbrev pub is_field : List ℕ → Bool
is_field word = nat_lt 0 (length word)

-- what is between blanks, before the comment
abbrev pub fields_of : List ℕ → List (List ℕ)
fields_of line = filter is_field (slice_split is_blank (uncommented line))
