-- The first line of a text, as `split_once` cuts it.
use Rattle.std.proofs.Common.{◌≡◌, ℕ, ◌+◌, ◌<◌, ◌≤◌, Bool, true, false, ◌==◌, List, [], ◌∷◌, length, arith, refl, ap}
use Rattle.std.specs.List.{onto_first, position_or_len, before_first, after_first}
use Rattle.std.proofs.lemmas.List.{length-drop, length-take}
use Rattle.std.proofs.lemmas.List.Splits.{slice_split_first}
use Rattle.bpf_lines.specs.Lines.{lines_of}

abbrev is_feed : ℕ → Bool
is_feed b = b == 10

whole_by : (b : ℕ) (bs : List ℕ) (feed : Bool) → is_feed b ≡ feed → position_or_len is_feed (b ∷ bs) ≡ length (b ∷ bs)
    → (position_or_len is_feed bs ≡ length bs → lines_of bs ≡ bs ∷ []) → lines_of (b ∷ bs) ≡ (b ∷ bs) ∷ []
whole_by b bs true e h more =
    let none : position_or_len is_feed (b ∷ bs) ≡ 0 = rw e refl in
    absurd (omega (arith, none, h))
whole_by b bs false e h more =
    let one : position_or_len is_feed (b ∷ bs) ≡ 1 + position_or_len is_feed bs = rw e refl in
    rw e (ap (onto_first b) (more (omega (arith, one, h))))

-- a text without a line feed is one line
pub whole : (text : List ℕ) → position_or_len is_feed text ≡ length text → lines_of text ≡ text ∷ []
whole [] h = refl
whole (b ∷ bs) h = whole_by b bs (is_feed b) refl h (whole bs)

-- what is before the first line feed and after it
pub cut : (text : List ℕ) → position_or_len is_feed text < length text → lines_of text ≡ before_first is_feed text ∷ lines_of (after_first is_feed text)
cut text h = slice_split_first is_feed text 0 h

pub shorter : (text : List ℕ) → position_or_len is_feed text < length text → length (before_first is_feed text) +
    (length (after_first is_feed text) + 1) ≤ length text
shorter text h =
    omega (arith, h, length-take (position_or_len is_feed text) text, length-drop (position_or_len is_feed text + 1) text)
