-- A text of assembly with the place and the words of each line after it, as a comment. Our own
-- choice.
use Rattle.std.specs.Prelude.{◌≡◌, ℕ, zero, suc, ◌+◌, ◌*◌, ◌++◌, List, [], ◌∷◌, codes, drop, take}
use Rattle.bpf_text.specs.Assembly.{IsLine, Source, words_of}
use Rattle.bpf_disassembly.specs.Listing.Program.{place_comment}

-- what follows a line of this many words, of those that are left: nothing where it has none
abbrev pub behind_line : (pc size : ℕ) → (bytes : List ℕ) → List ℕ
behind_line pc zero bytes = []
behind_line pc (suc size) bytes = place_comment pc (take (8 * suc size) bytes)

-- a line feed, but after the last line
abbrev pub feed_before : List (List ℕ) → List ℕ
feed_before [] = []
feed_before (line ∷ lines) = codes "\n"

-- the lines as they are, each with what follows it, from a pc and its bytes on
abbrev pub IsSourceListing : (pc : ℕ) → (bytes : List ℕ) → (lines : List (List ℕ)) → List ℕ → Type 0
IsSourceListing pc bytes [] printed = printed ≡ []
IsSourceListing pc bytes (line ∷ lines) printed = (s : Source) × (more : List ℕ) × IsLine line s
    × (printed ≡ line ++ (behind_line pc (words_of s.body) bytes ++ (feed_before lines ++ more)))
    × IsSourceListing (pc + words_of s.body) (drop (8 * words_of s.body) bytes) lines more
