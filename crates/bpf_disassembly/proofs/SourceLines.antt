-- Listing a text line by line.
use Rattle.std.proofs.Common.{◌≡◌, ◌≢◌, ◌==◌, ℕ, ◌+◌, ◌*◌, ◌<◌, ◌≤◌, List, [], ◌∷◌, ◌++◌, length, append_assoc, append-nil, drop, take}
use Rattle.std.proofs.Common.{Option, Some, None, zero, suc, refl, sym, ap, subst, ◌∙◌, arith, codes, Ok}
use Rattle.std.proofs.lemmas.List.Splits.{length-slice_split}
use Rattle.bpf_text.specs.Assembly.{IsLine, Source, words_of, label_of, unlabelled}
use Rattle.bpf_lines.specs.Lines.{lines_behind, lines_of, rest_size}
use Rattle.bpf_disassembly.specs.Listing.Program.{place_comment}
use Rattle.bpf_disassembly.specs.Listing.Source.{IsSourceListing, behind_line, feed_before}

-- a line of no bytes has neither label nor instruction
abbrev empty_source : Source
empty_source = record { label = None; body = Ok None }

pub empty_line : (s : Source) × IsLine [] s × (0 ≡ words_of s.body)
unfolding label_of unlabelled
empty_line = (empty_source, record { tokens = []; cut_up = tt; labelled = refl; body = refl }, refl)

pub no_bytes : (line : List ℕ) → length line ≡ 0 → line ≡ []
no_bytes [] e = refl
no_bytes (b ∷ bs) e = absurd (omega (arith, e))

-- a line of some words has its place after it
pub has_place : (pc size : ℕ) (bytes : List ℕ) → size ≢ 0 → behind_line pc size bytes ≡ place_comment pc (take (8 * size) bytes)
has_place pc zero bytes some = absurd (some refl)
has_place pc (suc size) bytes some = refl

feed_by : (lines : List (List ℕ)) → 0 < length lines → feed_before lines ≡ codes "\n"
feed_by [] some = absurd (omega arith)
feed_by (line ∷ lines) some = refl

-- a line feed is before the lines of any text
pub has_feed : (text : List ℕ) → feed_before (lines_of text) ≡ codes "\n"
has_feed text = feed_by (lines_of text) (omega (arith, length-slice_split (λ b. b == 10) text))

-- some lines were listed: whatever lists the others makes the listing whole
pub record Listed (source bytes printed : List ℕ) (rest : Option (List ℕ)) (pc : ℕ) (left : List ℕ) : Type 0 where
  pub whole : (more : List ℕ) → IsSourceListing pc left (lines_behind rest) more → IsSourceListing 0 bytes (lines_of source) (printed ++ more)
  pub room : pc + 2 * rest_size rest ≤ 2 * length source + 2

pub listed_next : (source bytes printed now line : List ℕ) (behind : Option (List ℕ)) (pc size : ℕ) (left first second : List ℕ)
    → Listed source bytes printed (Some now) pc left
    → lines_of now ≡ line ∷ lines_behind behind → length line + rest_size behind ≤ length now
    → (s : Source) × IsLine line s × (size ≡ words_of s.body) → size ≤ 2 * length line
    → first ≡ printed ++ (line ++ behind_line pc size left) → second ≡ first ++ feed_before (lines_behind behind)
    → Listed source bytes second behind (pc + size) (drop (8 * size) left)
listed_next source bytes printed now line behind pc size left first second old lines shorter read small one two = record {
  whole = λ more h.
      let s = read.0 in
      let feed = feed_before (lines_behind behind) in
      let all = line ++ (behind_line pc size left ++ (feed ++ more)) in
      let P : ℕ → Type 0 = λ n. IsSourceListing (pc + n) (drop (8 * n) left) (lines_behind behind) more in
      let Q : ℕ → Type 0 = λ n. all ≡ line ++ (behind_line pc n left ++ (feed ++ more)) in
      let listing : IsSourceListing pc left (line ∷ lines_behind behind) all = (s, more, read.1, subst Q read.2 refl, subst P read.2 h) in
      let whole = old.whole all (subst (λ ls. IsSourceListing pc left ls all) (sym lines) listing) in
      let same : second ++ more ≡ printed ++ all =
      ap (λ t. t ++ more) (two ∙ ap (λ t. t ++ feed) one)
      ∙ append_assoc (printed ++ (line ++ behind_line pc size left)) feed more
      ∙ append_assoc printed (line ++ behind_line pc size left) (feed ++ more)
      ∙ ap (λ t. printed ++ t) (append_assoc line (behind_line pc size left) (feed ++ more)) in
      subst (λ t. IsSourceListing 0 bytes (lines_of source) t) (sym same) whole;
  room = omega (arith, old.room, shorter, small);
}

pub listed_end : (source bytes printed : List ℕ) (pc : ℕ) (left : List ℕ) → Listed source bytes printed None pc left → IsSourceListing 0
    bytes (lines_of source) printed
listed_end source bytes printed pc left old = subst (λ t. IsSourceListing 0 bytes (lines_of source) t) (append-nil printed) (old.whole [] refl)
