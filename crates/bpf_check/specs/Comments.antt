-- The comments of a run file, by their words. Our own choice.
use Rattle.std.specs.Prelude.{ℕ, Bool, false, ◌==◌, ◌&&◌, ◌||◌, List, [], ◌∷◌, if◌then◌else◌, length, nat_le}
use Rattle.std.specs.List.{after_first}
use Rattle.std.specs.Str.{bytes_eq}
use Rattle.bpf_lines.specs.Lines.{fields_of}

-- what is after a line's first `;`
abbrev pub is_mark : ℕ → Bool
is_mark b = b == 59

abbrev pub comment_of : List ℕ → List ℕ
comment_of line = after_first is_mark line

abbrev pub words_of : List ℕ → List (List ℕ)
words_of line = fields_of (comment_of line)

-- they begin with the same two bytes in the other order, and are else the same
abbrev pub are_exchanged : List ℕ → List ℕ → Bool
are_exchanged (a ∷ b ∷ bytes) (o ∷ p ∷ others) = a == p && (b == o && bytes_eq bytes others)
are_exchanged _ _ = false

-- one edit at most makes a word of the other: a byte more, less or changed, or two neighbours
-- exchanged
abbrev pub is_near : List ℕ → List ℕ → Bool
is_near [] others = nat_le (length others) 1
is_near (b ∷ bytes) [] = nat_le (length bytes) 0
is_near (b ∷ bytes) (o ∷ others) =
    if b == o then is_near bytes others
    else (bytes_eq bytes others || (bytes_eq (b ∷ bytes) others || (bytes_eq bytes (o ∷ others)
    || are_exchanged (b ∷ bytes) (o ∷ others))))
