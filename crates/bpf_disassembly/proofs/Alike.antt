-- A listing has the lines that it lists, each with a comment after it.
use Rattle.std.proofs.Common.{◌≡◌, ℕ, zero, suc, ◌+◌, ◌*◌, ◌/◌, ◌%◌, ◌<◌, Bool, true, false, cond, ◌==◌, ◌&&◌, not, List, [], ◌∷◌, ◌++◌}
use Rattle.std.proofs.Common.{length, append_assoc, append-nil, codes, drop, take, slice_index, None, refl, sym, ap, subst, ◌∙◌, arith}
use Rattle.std.specs.Fmt.{decimal, digits, digits_onto, digit_glyph}
use Rattle.std.specs.List.{list_all, onto_first}
use Rattle.std.proofs.lemmas.Bool.{and_parts, and_from}
use Rattle.std.proofs.lemmas.Bool.Decides.{nat_tests}
use Rattle.std.proofs.lemmas.List.Folds.{list_all-append}
use Rattle.std.proofs.lemmas.List.Splits.{length-slice_split}
use Rattle.hex.specs.Hex.{encode_lower, encode_with, lower_digits}
use Rattle.bpf_text.specs.Assembly.{AreLinesWith, Source, words_of}
use Rattle.bpf_lines.specs.Lines.{lines_of}
use Rattle.bpf_text.specs.Tokens.{IsTokens}
use Rattle.bpf_lines.specs.Private.Cutting.{in_line}
use Rattle.bpf_text.specs.Laws.{CommentsSayNothing}
use Rattle.bpf_disassembly.proofs.ReadBack.{fed_line}
use Rattle.bpf_disassembly.specs.Listing.Laws.{ListingsAssembleAlike}
use Rattle.bpf_disassembly.specs.Listing.Program.{place_comment}
use Rattle.bpf_disassembly.specs.Listing.Source.{IsSourceListing, behind_line}

-- ---- what follows a line has no line feed

abbrev in_lines : List ℕ → Bool
in_lines bytes = list_all in_line bytes

in_lines-append : (xs ys : List ℕ) → in_lines xs ≡ true → in_lines ys ≡ true → in_lines (xs ++ ys) ≡ true
in_lines-append xs ys h k = list_all-append in_line xs ys ∙ and_from (in_lines xs) (in_lines ys) h k

digit_in_line : (t : List ℕ) (k : ℕ) → in_lines t ≡ true → in_line (slice_index t k) ≡ true
digit_in_line [] k h = refl
digit_in_line (b ∷ t) zero h = (and_parts (in_line b) (in_lines t) h).0
digit_in_line (b ∷ t) (suc k) h = digit_in_line t k (and_parts (in_line b) (in_lines t) h).1

hex_in_line : (t bytes : List ℕ) → in_lines t ≡ true → in_lines (encode_with t bytes) ≡ true
unfolding encode_with
hex_in_line t [] h = refl
hex_in_line t (b ∷ bytes) h =
    and_from (in_line (slice_index t (b / 16))) _ (digit_in_line t (b / 16) h)
    (and_from (in_line (slice_index t (b % 16))) _ (digit_in_line t (b % 16) h) (hex_in_line t bytes h))

glyph_in_line : (d : ℕ) → in_line (digit_glyph false d) ≡ true
glyph_in_line d = grind (arith, nat_tests)

onto_in_line : (k n : ℕ) (acc : List ℕ) → in_lines acc ≡ true → in_lines (digits_onto k 10 false n acc) ≡ true
onto_in_line zero n acc h = h
onto_in_line (suc k) n acc h =
    let more = and_from (in_line (digit_glyph false (n % 10))) (in_lines acc) (glyph_in_line (n % 10)) h in
    by_test (n / 10 == 0) more (onto_in_line k (n / 10) (digit_glyph false (n % 10) ∷ acc) more)
  where
    by_test : (t : Bool) → in_lines (digit_glyph false (n % 10) ∷ acc) ≡ true
        → in_lines (digits_onto k 10 false (n / 10) (digit_glyph false (n % 10) ∷ acc)) ≡ true
        → in_lines (cond t (digit_glyph false (n % 10) ∷ acc) (digits_onto k 10 false (n / 10) (digit_glyph false (n % 10) ∷ acc))) ≡ true
    by_test true last more = last
    by_test false last more = more

decimal_in_line : (n : ℕ) → in_lines (decimal n) ≡ true
unfolding digits
decimal_in_line n = onto_in_line 64 n [] refl

place_in_line : (pc : ℕ) (bytes : List ℕ) → in_lines (place_comment pc bytes) ≡ true
place_in_line pc bytes =
    let start = codes " ; " ++ decimal pc in
    in_lines-append (start ++ codes ": ") (encode_lower bytes)
    (in_lines-append start (codes ": ") (in_lines-append (codes " ; ") (decimal pc) refl (decimal_in_line pc)) refl) (hex_in_line lower_digits bytes refl)

behind_in_line : (pc size : ℕ) (bytes : List ℕ) → in_lines (behind_line pc size bytes) ≡ true
behind_in_line pc zero bytes = refl
behind_in_line pc (suc size) bytes = place_in_line pc (take (8 * suc size) bytes)

-- ---- and no tokens

no_tokens : (pc size : ℕ) (bytes : List ℕ) → IsTokens (behind_line pc size bytes) []
no_tokens pc zero bytes = tt
no_tokens pc (suc size) bytes = refl

-- ---- lines

-- no line has a line feed
abbrev AreLone : List (List ℕ) → Type 0
AreLone [] = Unit {0}
AreLone (line ∷ lines) = (in_lines line ≡ true) × AreLone lines

onto_lone : (b : ℕ) (lines : List (List ℕ)) → in_line b ≡ true → AreLone lines → AreLone (onto_first b lines)
onto_lone b [] e h = (and_from (in_line b) true e refl, tt)
onto_lone b (line ∷ lines) e h = (and_from (in_line b) (in_lines line) e h.0, h.1)

lone_lines : (text : List ℕ) → AreLone (lines_of text)
lone_lines [] = (refl, tt)
lone_lines (b ∷ text) = by_test (b == 10) refl (lone_lines text)
  where
    by_test : (t : Bool) → b == 10 ≡ t → AreLone (lines_of text) → AreLone (cond t ([] ∷ lines_of text) (onto_first b (lines_of text)))
    by_test true e h = (refl, h)
    by_test false e h = onto_lone b (lines_of text) (ap not e) h

one_line : (line : List ℕ) → in_lines line ≡ true → lines_of line ≡ line ∷ []
one_line [] h = refl
one_line (b ∷ line) h = by_test (b == 10) refl (and_parts (in_line b) (in_lines line) h).0 (one_line line (and_parts (in_line b) (in_lines line) h).1)
  where
    by_test : (t : Bool) → b == 10 ≡ t → in_line b ≡ true → lines_of line ≡ line ∷ [] → cond t ([] ∷ lines_of line)
        (onto_first b (lines_of line)) ≡ (b ∷ line) ∷ []
    by_test true e f more = let none : not true ≡ true = ap not (sym e) ∙ f in cc
    by_test false e f more = ap (onto_first b) more

listed_lines : CommentsSayNothing → (pc : ℕ) (bytes : List ℕ) (lines : List (List ℕ)) (printed : List ℕ) (ss : List Source) → 0 < length lines → AreLone lines
    → IsSourceListing pc bytes lines printed → AreLinesWith None lines ss → AreLinesWith None (lines_of printed) ss
listed_lines say pc bytes [] printed ss some lone listing read = absurd (omega arith)
listed_lines say pc bytes (line ∷ lines) printed [] some lone listing read = absurd read
listed_lines say pc bytes (line ∷ []) printed (s ∷ ss) some lone listing read =
    let size = words_of listing.0.body in
    let behind = behind_line pc size bytes in
    let whole : printed ≡ line ++ behind = listing.3 ∙ ap (λ more. line ++ (behind ++ more)) listing.4 ∙ ap (λ b. line ++ b) (append-nil behind) in
    let lone : in_lines (line ++ behind) ≡ true = in_lines-append line behind lone.0 (behind_in_line pc size bytes) in
    subst (λ ls. AreLinesWith None ls (s ∷ ss)) (sym (ap lines_of whole ∙ one_line (line ++ behind) lone))
    (say line behind s (no_tokens pc size bytes) read.0, read.1)
listed_lines say pc bytes (line ∷ next ∷ lines) printed (s ∷ ss) some lone listing read =
    let size = words_of listing.0.body in
    let behind = behind_line pc size bytes in
    let more = listing.1 in
    let whole : printed ≡ (line ++ behind) ++ 10 ∷ more = listing.3 ∙ sym (append_assoc line behind (10 ∷ more)) in
    let alone : in_lines (line ++ behind) ≡ true = in_lines-append line behind lone.0 (behind_in_line pc size bytes) in
    let rest = listed_lines say (pc + size) (drop (8 * size) bytes) (next ∷ lines) more ss (omega arith) lone.1 listing.4 read.1 in
    subst (λ ls. AreLinesWith None ls (s ∷ ss)) (sym (ap lines_of whole ∙ fed_line (line ++ behind) more alone))
    (say line behind s (no_tokens pc size bytes) read.0, rest)

-- A LISTING stands for what its text stands for
pub assembled_alike : CommentsSayNothing → ListingsAssembleAlike
assembled_alike say pc bytes text listing r h a = record {
  sources = a.sources;
  lines = listed_lines say pc bytes (lines_of text) listing a.sources (omega (arith, length-slice_split (λ b. b == 10) text)) (lone_lines text) h a.lines;
  meant = a.meant;
}
